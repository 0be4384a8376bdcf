pub mod NodesLemmas
pub mod NumbersLemmas
pub mod SameLemmas
pub mod NodeEqLemmas
pub mod InternLemmas
pub mod FoldingLemmas
pub mod FoldLemmas
pub mod CopyingLemmas
pub mod ReplacingLemmas
pub mod SharedLemmas
-- passed on to the crates above
pub use Rattle.wy_value.proofs.wy_data_proofs as wy_data_proofs
pub use Rattle.wy_value.proofs.wy_lemmas_proofs as wy_lemmas_proofs
