pub mod ElementLemmas
mod UnionLemmas
pub mod FieldLemmas
mod ValueUnionLemmas
pub mod updates_lemmas
-- passed on to the crates above
pub use Rattle.wy_subtype.proofs as wy_subtype_proofs
