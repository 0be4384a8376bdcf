pub mod Standing
pub mod Classes
pub mod Bounds
pub mod Splitting
pub mod Expansion
pub mod Tree
pub mod Examples
pub mod Programs
pub mod least
-- passed on to the crates above
pub use Rattle.wy_check_spec.specs as wy_check_spec
pub use Rattle.wy_check_spec.specs.wy_facts as wy_facts
pub use Rattle.wy_lin_eliminate.specs as wy_lin_eliminate
pub use Rattle.wy_check_spec.specs.wy_term as wy_term
pub use Rattle.wy_check_spec.specs.wy_term_subst as wy_term_subst
