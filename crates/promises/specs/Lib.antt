pub mod Implementations
pub mod Pile
