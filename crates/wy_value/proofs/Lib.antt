pub mod NumberLemmas
pub mod FieldLemmas
pub mod Levels
pub mod SeenLemmas
pub mod ShownLemmas
pub mod OffsetLemmas
pub mod CharacterLemmas
pub mod NameLemmas
pub mod FlatExact
pub mod TextExact
pub mod Refusals
pub mod ValueOf
pub mod Texts
pub mod TextBytes
pub mod RoundTrip
pub mod LawLemmas
pub mod ReadValues
-- passed on to the crates above
pub use Rattle.wy_data.proofs as wy_data_proofs
pub use Rattle.wy_data.proofs.wy_lemmas_proofs as wy_lemmas_proofs
