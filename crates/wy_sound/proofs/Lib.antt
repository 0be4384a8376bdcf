mod HeldLemmas
mod TestedLemmas
mod CalleeLemmas
mod VariableLemmas
mod BodyLemmas
mod ShownLemmas
mod PlainLemmas
pub mod SoundLemmas
mod AcceptedLemmas
mod ReadingLemmas
pub mod acceptance_lemmas
pub mod marks_lemmas
pub mod sources_lemmas
pub mod typing_lemmas
-- passed on to the crates above
pub use Rattle.wy_sound_programs.proofs.wy_sem_proofs as wy_sem_proofs
pub use Rattle.wy_sound_programs.proofs.wy_sound_kinds_proofs as wy_sound_kinds_proofs
pub use Rattle.wy_sound_types.proofs.wy_vc_laws_proofs as wy_vc_laws_proofs
