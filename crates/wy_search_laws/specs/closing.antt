-- what public contracts cite
pub mod AtLeast
