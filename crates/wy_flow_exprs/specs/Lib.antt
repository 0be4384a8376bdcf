-- what the walk of the code stands for
pub mod Seen
-- the operand of a test
pub mod Tested
pub mod checks
-- passed on to the crates above
pub use Rattle.wy_flow_spec.specs as wy_flow_spec
