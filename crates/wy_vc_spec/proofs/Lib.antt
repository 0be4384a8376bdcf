-- what small programs owe
mod ExamplesHold
pub mod answered_lemmas
-- passed on to the crates above
pub use Rattle.wy_sem.proofs.wy_core_proofs as wy_core_proofs
pub use Rattle.wy_graph.proofs as wy_graph_proofs
pub use Rattle.wy_sem.proofs as wy_sem_proofs
