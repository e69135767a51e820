mod Steps
mod Splits
mod Scans
mod Pieces
mod Forms
pub mod Lines
pub mod Calls
mod Passing
mod Numbers
mod Hex
mod Pairs
pub mod RawLines
mod Filling
