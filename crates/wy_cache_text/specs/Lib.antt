-- what public contracts cite
pub mod Lines
pub mod Files
pub mod Seen
pub mod Found
pub mod Written
pub mod Reread
-- what functions inside owe each other
pub mod SoFar
