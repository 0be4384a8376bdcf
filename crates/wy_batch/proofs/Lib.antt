-- what is known of conditions
pub mod JudgedLemmas
pub mod OneLemmas
-- what stands on a bench, and where certificates stand
pub mod BenchLemmas
pub mod IndexLemmas
-- what workers do
pub mod WorkLemmas
-- verdicts in order
pub mod OrderLemmas
-- passed on to the crates above
pub use Rattle.wy_check.proofs as wy_check_proofs
