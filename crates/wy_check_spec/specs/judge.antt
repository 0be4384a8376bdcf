-- what public contracts cite
pub mod Node
pub mod Judgement
pub mod Told
