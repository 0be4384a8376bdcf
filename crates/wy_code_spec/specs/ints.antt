-- what a machine asks of code
pub mod Loadable
pub mod Ticks
