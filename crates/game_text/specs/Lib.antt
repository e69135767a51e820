pub mod Text
pub mod Filling
pub mod Machine
pub mod Room
pub mod Theorems
pub mod Positions
pub mod Expecting
pub mod Writing
