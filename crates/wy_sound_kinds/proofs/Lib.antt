pub mod DatumLemmas
pub mod TypeLemmas
pub mod OperatorLemmas
pub mod NodeLemmas
pub mod KindLemmas
pub mod fits_lemmas
pub mod frames_lemmas
pub mod suits_lemmas
-- passed on to the crates above
pub use Rattle.wy_sound_walks.proofs.wy_sound_terms_proofs as wy_sound_terms_proofs
pub use Rattle.wy_sound_walks.proofs as wy_sound_walks_proofs
pub use Rattle.wy_types_laws.proofs as wy_types_laws_proofs
