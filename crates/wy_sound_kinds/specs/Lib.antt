-- which data a program may hold
pub mod Bounded
-- what is given of each expression
pub mod Ready
-- what is known of stores and of answers
pub mod Kinds
-- the laws
pub mod Laws
pub mod fits
pub mod frames
pub mod suits
-- passed on to the crates above
pub use Rattle.wy_flow_spec.specs as wy_flow_spec
pub use Rattle.wy_sound_walks.specs.wy_sem as wy_sem
pub use Rattle.wy_sound_walks.specs.wy_sound_terms as wy_sound_terms
pub use Rattle.wy_sound_walks.specs as wy_sound_walks
pub use Rattle.wy_sound_walks.specs.wy_vc_spec as wy_vc_spec
