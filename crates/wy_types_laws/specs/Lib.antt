pub mod asked_types
pub mod parts
