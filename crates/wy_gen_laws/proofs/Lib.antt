pub mod PlaceLemmas
pub mod FollowLemmas
pub mod SpareLemmas
pub mod StoreLemmas
pub mod InstructionLemmas
pub mod PieceLemmas
pub mod expressions_lemmas
pub mod programs_lemmas
pub mod statements_lemmas
pub mod tests_lemmas
-- passed on to the crates above
pub use Rattle.wy_code_spec.proofs as wy_code_spec_proofs
pub use Rattle.wy_vc_spec.proofs.wy_sem_proofs as wy_sem_proofs
