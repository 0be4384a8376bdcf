-- what public contracts cite
pub mod Refuted
-- what functions inside owe each other
pub mod Named
pub mod Cuts
pub mod Steps
pub mod Classed
pub mod Replacing
