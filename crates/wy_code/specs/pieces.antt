pub mod Steps
pub mod Placing
