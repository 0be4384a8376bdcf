-- a scope is cut back to what it was
pub mod KeptLemmas
-- lists that grow at their end
pub mod ListLemmas
-- lists that are taken from their end
pub mod PopLemmas
-- fields put in order
pub mod PairLemmas
-- templates by their indices
pub mod UseLemmas
-- what nodes with lists of pairs stand for
pub mod SeenLemmas
-- passed on to the crates above
pub use Rattle.wy_core.proofs as wy_core_proofs
