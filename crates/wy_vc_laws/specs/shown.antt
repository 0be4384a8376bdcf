-- what public contracts cite
pub mod ReadSorted
-- what public contracts cite
pub mod Certified
-- what public contracts cite
pub mod Truths
