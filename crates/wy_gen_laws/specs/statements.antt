-- what public contracts cite
pub mod Still
pub mod Parts
pub mod Led
pub mod Routines
