-- lists of terms that grow
pub mod Growing
-- passed on to the crates above
pub use Rattle.wy_vc_spec.specs.wy_sem as wy_sem
