pub mod Effects
pub mod Listing
mod After
mod Forcing
mod Layers
mod Reached
mod Clocks
pub mod Refusals
pub mod Pile
mod PileForce
mod PileWorked
mod Values
mod Legal
mod Replies
mod Bounds
