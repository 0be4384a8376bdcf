-- what public contracts cite
pub mod Seen
pub mod Judged
-- what functions inside owe each other
pub mod Tasks
pub mod Denied
-- what public contracts cite
pub mod Trail
-- what functions inside owe each other
pub mod Gathered
pub mod fronts
-- passed on to the crates above
pub use Rattle.wy_check_spec.specs.wy_cert as wy_cert
pub use Rattle.wy_check_spec.specs as wy_check_spec
pub use Rattle.wy_check_spec.specs.wy_facts as wy_facts
pub use Rattle.wy_check_spec.specs.wy_lin as wy_lin
pub use Rattle.wy_check_spec.specs.wy_term as wy_term
pub use Rattle.wy_check_spec.specs.wy_term_subst as wy_term_subst
pub use Rattle.wy_check_spec.specs.wy_term_text as wy_term_text
pub use Rattle.wy_check_spec.specs.wy_value as wy_value
