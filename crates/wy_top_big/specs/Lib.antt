-- what public contracts cite
pub mod Draws
pub mod Bodies
pub mod Source
pub mod Rows
pub mod Tree
