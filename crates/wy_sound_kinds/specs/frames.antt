-- what public contracts cite
pub mod Frames
