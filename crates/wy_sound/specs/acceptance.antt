-- what public contracts cite
pub mod Acceptance
