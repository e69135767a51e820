pub mod Layout
pub mod Reading
pub mod Load
pub mod Encoding
