pub mod Ends
pub mod Files
