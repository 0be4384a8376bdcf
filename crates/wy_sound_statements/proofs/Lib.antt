pub mod PlaceLemmas
pub mod StoreLemmas
pub mod CodeLemmas
pub mod PathLemmas
pub mod StatementLemmas
pub mod calls_lemmas
pub mod steps_lemmas
-- passed on to the crates above
pub use Rattle.wy_sound_kinds.proofs as wy_sound_kinds_proofs
pub use Rattle.wy_sound_kinds.proofs.wy_sound_terms_proofs as wy_sound_terms_proofs
pub use Rattle.wy_sound_kinds.proofs.wy_sound_walks_proofs as wy_sound_walks_proofs
pub use Rattle.wy_sound_kinds.proofs.wy_types_laws_proofs as wy_types_laws_proofs
