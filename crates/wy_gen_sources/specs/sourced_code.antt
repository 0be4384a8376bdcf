-- the cores of sources
pub mod Cores
