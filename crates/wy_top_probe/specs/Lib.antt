-- faults of a source
pub mod Texts
-- what the command comes to
pub mod Probing
-- passed on to the crates above
pub use Rattle.wy_probe.specs as wy_probe
pub use Rattle.wy_link_load.specs as wy_link_load
pub use Rattle.wy_mach_run.specs as wy_mach_run
pub use Rattle.wy_top_source.specs as wy_top_source
pub use Rattle.wy_link_load.specs.wy_top_answers as wy_top_answers
pub use Rattle.wy_mach_run.specs.wy_flow_spec as wy_flow_spec
