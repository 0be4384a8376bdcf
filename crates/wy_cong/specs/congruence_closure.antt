-- what public contracts cite
pub mod Congruence
-- what functions inside owe each other
pub mod Found
