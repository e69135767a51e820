mod Values
mod Rows
mod Loading
pub mod Callers
