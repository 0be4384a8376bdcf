-- definitions of public contracts
pub mod Answers
pub mod Texts
pub mod Steps
pub mod Calls
pub mod Loading
pub mod Showing
pub mod report
pub mod supplied
-- passed on to the crates above
pub use Rattle.wy_vc_laws.specs.wy_check_laws as wy_check_laws
pub use Rattle.wy_vc_laws.specs.wy_check_spec as wy_check_spec
pub use Rattle.wy_vc_laws.specs.wy_sound_terms as wy_sound_terms
pub use Rattle.wy_term.specs as wy_term
pub use Rattle.wy_term_text.specs as wy_term_text
pub use Rattle.wy_vc_laws.specs as wy_vc_laws
