-- what the run of a statement meets
pub mod StatementSuits
-- how statements end, and the law
pub mod Ends
pub mod calls
pub mod steps
-- passed on to the crates above
pub use Rattle.wy_sound_kinds.specs.wy_flow_spec as wy_flow_spec
pub use Rattle.wy_sound_kinds.specs as wy_sound_kinds
pub use Rattle.wy_sound_kinds.specs.wy_sound_terms as wy_sound_terms
pub use Rattle.wy_sound_kinds.specs.wy_sound_walks as wy_sound_walks
pub use Rattle.wy_sound_kinds.specs.wy_vc_spec as wy_vc_spec
