pub mod folded
pub mod grounded
pub mod listed_types
pub mod shown
-- passed on to the crates above
pub use Rattle.wy_check_laws.specs.wy_cert as wy_cert
pub use Rattle.wy_check_laws.specs as wy_check_laws
pub use Rattle.wy_check_laws.specs.wy_check_spec as wy_check_spec
pub use Rattle.wy_sound_terms.specs.wy_core as wy_core
pub use Rattle.wy_check_laws.specs.wy_facts as wy_facts
pub use Rattle.wy_sound_terms.specs as wy_sound_terms
pub use Rattle.wy_check_laws.specs.wy_term as wy_term
