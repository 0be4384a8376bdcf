-- what public contracts cite
pub mod Places
pub mod Follows
pub mod Registers
pub mod expressions
pub mod programs
pub mod statements
pub mod tests
-- passed on to the crates above
pub use Rattle.wy_code_spec.specs as wy_code_spec
pub use Rattle.wy_vc_spec.specs.wy_sem as wy_sem
