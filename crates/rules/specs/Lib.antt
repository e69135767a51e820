pub mod Rules
pub mod Play
pub mod Force
pub mod Calls
pub mod Bounds
pub mod Reasons
