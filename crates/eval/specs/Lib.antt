pub mod Memory
pub mod Load
