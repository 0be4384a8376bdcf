pub mod SpotLemmas
pub mod RoundLemmas
pub mod TurnLemmas
pub mod WalkLemmas
-- what crates above need too of those below
pub use Rattle.wy_search_facts.proofs.AddingLemmas
-- passed on to the crates above
pub use Rattle.wy_search_bounds.proofs.wy_check_splits_proofs as wy_check_splits_proofs
pub use Rattle.wy_search_facts.proofs as wy_search_facts_proofs
pub use Rattle.wy_search_bounds.proofs as wy_search_bounds_proofs
