pub mod Sums
pub mod Counts
pub mod Agreement
pub mod Keeps
pub mod Told
