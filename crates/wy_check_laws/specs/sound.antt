-- what public contracts cite
pub mod Sortedness
pub mod Soundness
