-- lists of nodes, one node at a time
pub mod ListLemmas
-- what a record stands for
pub mod SeenLemmas
-- passed on to the crates above
pub use Rattle.wy_core.proofs as wy_core_proofs
