-- what public contracts cite
pub mod Kinds
pub mod Agreement
pub mod Updates
