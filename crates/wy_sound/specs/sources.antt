-- the cores of programs with names, and of sources
pub mod Cores
