-- what public contracts cite
pub mod Linked
-- what functions inside owe each other
pub mod Grown
pub mod Links
pub mod Ended
