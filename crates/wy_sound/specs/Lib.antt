-- the law, and what it speaks of
pub mod Sound
-- what conditions say of membership
pub mod Readings
-- accepted programs, and arguments
pub mod Accepted
pub mod acceptance
pub mod marks
pub mod sources
pub mod typing
-- passed on to the crates above
pub use Rattle.wy_assign.specs as wy_assign
pub use Rattle.wy_flow_spec.specs as wy_flow_spec
pub use Rattle.wy_sound_programs.specs.wy_sem as wy_sem
pub use Rattle.wy_sound_programs.specs.wy_sound_kinds as wy_sound_kinds
pub use Rattle.wy_sound_programs.specs.wy_sound_terms as wy_sound_terms
pub use Rattle.wy_sound_types.specs.wy_vc_laws as wy_vc_laws
