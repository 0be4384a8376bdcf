pub mod compiled
pub mod ints
pub mod numbered
pub mod step
pub mod tables
-- passed on to the crates above
pub use Rattle.wy_live.specs as wy_live
