pub mod judge
pub mod valid
-- passed on to the crates above
pub use Rattle.wy_cert.specs as wy_cert
pub use Rattle.wy_facts.specs as wy_facts
pub use Rattle.wy_lin.specs as wy_lin
pub use Rattle.wy_lin.specs.wy_term as wy_term
pub use Rattle.wy_facts.specs.wy_term_subst as wy_term_subst
pub use Rattle.wy_cert.specs.wy_term_text as wy_term_text
pub use Rattle.wy_cert.specs.wy_value as wy_value
