pub mod Lines
pub mod Faults
pub mod Limits
pub mod Options
