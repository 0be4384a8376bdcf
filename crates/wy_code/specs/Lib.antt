-- how code is written
pub mod Listing
pub mod pieces
