pub mod Layout
pub mod Changes
pub mod Inner
pub mod Means
pub mod Acting
