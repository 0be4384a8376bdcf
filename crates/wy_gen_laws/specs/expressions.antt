-- what public contracts cite
pub mod Standing
pub mod Rests
pub mod Evaluated
