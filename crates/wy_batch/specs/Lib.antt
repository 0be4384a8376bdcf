-- what public contracts cite
pub mod Known
pub mod Seen
pub mod Judged
pub mod Working
-- what functions inside owe each other
pub mod Bench
pub mod Index
pub mod Ordering
-- passed on to the crates above
pub use Rattle.wy_check.specs as wy_check
