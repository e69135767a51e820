pub mod Cursor
pub mod Listing
