-- sorted and folded nodes, in both words
pub mod NodeLemmas
-- how a draft moves along
pub mod MovingLemmas
-- one step
pub mod StepMoves
-- loops over what stands in a node
pub mod LoopLemmas
-- facts on kinds
pub mod KindMoves
-- facts, schema by schema
pub mod FactLemmas
-- witnesses and instances
pub mod RangeMoves
-- products of bounds
pub mod ProductMoves
-- items of a round
pub mod RoundLemmas
-- passed on to the crates above
pub use Rattle.wy_prove_drafts.proofs as wy_prove_drafts_proofs
pub use Rattle.wy_search.proofs as wy_search_proofs
pub use Rattle.wy_search.proofs.wy_search_facts_proofs as wy_search_facts_proofs
pub use Rattle.wy_search.proofs.wy_search_bounds_proofs as wy_search_bounds_proofs
