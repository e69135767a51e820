mod After
mod Answering
mod Bounded
mod Chains
mod Choosing
pub mod Refusals
mod Lists
mod Moved
mod Opened
pub mod Planned
mod Playing
pub mod Regions
mod Rows
mod Sitting
pub mod Standing
pub mod Theorems
mod Writes
