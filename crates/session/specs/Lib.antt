pub mod Opening
pub mod Calling
pub mod Promise
pub mod Inner
