pub mod StepLemmas
pub mod LoadLemmas
pub mod ShowLemmas
pub mod CallLemmas
pub mod AnswerLemmas
pub mod DuringLemmas
pub mod report_lemmas
pub mod supplied_lemmas
-- passed on to the crates above
pub use Rattle.wy_vc_laws.proofs.wy_check_laws_proofs as wy_check_laws_proofs
pub use Rattle.wy_vc_laws.proofs as wy_vc_laws_proofs
