pub mod code
pub mod programs
pub mod named_programs
pub mod source_ints
pub mod sourced_code
-- passed on to the crates above
pub use Rattle.wy_gen_laws.specs.wy_code_spec as wy_code_spec
pub use Rattle.wy_gen_laws.specs as wy_gen_laws
pub use Rattle.wy_names.specs as wy_names
pub use Rattle.wy_names.specs.wy_names_lower as wy_names_lower
pub use Rattle.wy_gen_laws.specs.wy_sem as wy_sem
