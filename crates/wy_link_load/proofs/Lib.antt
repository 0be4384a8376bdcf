mod FileLemmas
mod WalkLemmas
mod ImportLemmas
pub mod AloneLemmas
pub mod AnswerLemmas
mod ShownLemmas
-- passed on to the crates above
pub use Rattle.wy_top_answers.proofs as wy_top_answers_proofs
