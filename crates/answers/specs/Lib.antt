pub mod Answers
pub mod Kinds
pub mod Size
pub mod Writing
pub mod Reading
pub mod Parts
