pub mod NumberLemmas
pub mod KnownLemmas
pub mod NarrowLemmas
pub mod MarkLemmas
pub mod ValueLemmas
pub mod WayLemmas
pub mod ValuedLemmas
pub mod ClausalLemmas
pub mod RefusalLemmas
pub mod SpreadLemmas
-- passed on to the crates above
pub use Rattle.wy_canon.proofs.wy_types_proofs as wy_types_proofs
