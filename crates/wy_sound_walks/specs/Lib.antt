pub mod clauses
pub mod depends
pub mod expressions
pub mod heads
pub mod joins
pub mod points
-- passed on to the crates above
pub use Rattle.wy_sound_terms.specs.wy_sem as wy_sem
pub use Rattle.wy_sound_terms.specs as wy_sound_terms
pub use Rattle.wy_sound_terms.specs.wy_vc_spec as wy_vc_spec
