pub mod closure
pub mod cycles
pub mod reach
