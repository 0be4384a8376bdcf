pub mod formed
pub mod numbers
pub mod operations
-- passed on to the crates above
pub use Rattle.wy_vc_spec.specs.wy_core as wy_core
pub use Rattle.wy_vc_spec.specs.wy_sem as wy_sem
pub use Rattle.wy_term_subst.specs as wy_term_subst
pub use Rattle.wy_vc_spec.specs as wy_vc_spec
