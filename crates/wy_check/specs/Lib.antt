-- what functions inside owe each other
pub mod Seen
pub mod Stated
-- what public contracts cite
pub mod Answer
-- what functions inside owe each other
pub mod Led
-- what public contracts cite
pub mod Verdicts
pub mod Within
pub mod Shown
-- passed on to the crates above
pub use Rattle.wy_cert.specs as wy_cert
pub use Rattle.wy_vc_laws.specs.wy_check_laws as wy_check_laws
pub use Rattle.wy_check_splits.specs.wy_check_nodes as wy_check_nodes
pub use Rattle.wy_vc_laws.specs.wy_core as wy_core
pub use Rattle.wy_lin.specs as wy_lin
pub use Rattle.wy_vc_laws.specs.wy_sound_terms as wy_sound_terms
pub use Rattle.wy_term.specs as wy_term
pub use Rattle.wy_vc_laws.specs as wy_vc_laws
