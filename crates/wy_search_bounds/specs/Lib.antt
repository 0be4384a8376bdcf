-- what public contracts cite
pub mod Seen
-- what functions inside owe each other
pub mod Gathered
-- what public contracts cite
pub mod Bounds
-- what functions inside owe each other
pub mod Adding
-- what public contracts cite
pub mod Known
-- what functions inside owe each other
pub mod Firsts
-- passed on to the crates above
pub use Rattle.wy_check.specs.wy_cert as wy_cert
pub use Rattle.wy_check.specs as wy_check
pub use Rattle.wy_check.specs.wy_check_laws as wy_check_laws
pub use Rattle.wy_cong.specs.wy_check_nodes as wy_check_nodes
pub use Rattle.wy_cong.specs.wy_check_spec as wy_check_spec
pub use Rattle.wy_cong.specs.wy_check_splits as wy_check_splits
pub use Rattle.wy_cong.specs as wy_cong
pub use Rattle.wy_check.specs.wy_core as wy_core
pub use Rattle.wy_cong.specs.wy_facts as wy_facts
pub use Rattle.wy_lin.specs as wy_lin
pub use Rattle.wy_lin_eliminate.specs as wy_lin_eliminate
pub use Rattle.wy_cong.specs.wy_search_spec as wy_search_spec
pub use Rattle.wy_check.specs.wy_sound_terms as wy_sound_terms
pub use Rattle.wy_term.specs as wy_term
pub use Rattle.wy_cong.specs.wy_term_subst as wy_term_subst
pub use Rattle.wy_cong.specs.wy_term_text as wy_term_text
pub use Rattle.wy_check.specs.wy_vc_laws as wy_vc_laws
