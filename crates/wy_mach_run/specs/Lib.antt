-- ---- what contracts of public calls cite
pub mod Starting
pub mod Laws
-- ---- which function or method a name names, and what functions inside owe
pub mod Entries
pub mod Meeting
-- what a run writes and how it ends
pub mod Running
pub mod sound
-- passed on to the crates above
pub use Rattle.wy_eval_exprs.specs as wy_eval_exprs
pub use Rattle.wy_mach.specs as wy_mach
pub use Rattle.wy_value.specs as wy_value
pub use Rattle.wy_flow_spec.specs as wy_flow_spec
