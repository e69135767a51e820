pub mod Games
pub mod Answers
pub mod Puts
pub mod Sorts
pub mod Walk
