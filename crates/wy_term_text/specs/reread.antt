-- what public contracts cite
pub mod Shown
-- what public contracts cite
pub mod Folded

-- this crate has no definitions of its own
