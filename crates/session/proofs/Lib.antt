pub mod Starting
pub mod Readiness
pub mod Runs
pub mod Asking
pub mod Openings
pub mod Acting
pub mod Seats
pub mod Served
