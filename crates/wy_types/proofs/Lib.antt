pub mod TruthLemmas
mod ShortLemmas
pub mod OnceLemmas
pub mod MeetLemmas
pub mod OutLemmas
pub mod RankedLemmas
pub mod TermLemmas
pub mod ClaimLemmas
pub mod AskLemmas
pub mod FoundLemmas
pub mod PutLemmas
pub mod StandLemmas
pub mod RankLemmas
pub mod AgreeLemmas
pub mod QuestionLemmas
mod SeenLemmas
pub mod ReadingLemmas
pub mod GuardLemmas
pub mod OneNumberLemmas
pub mod formed_lemmas
-- passed on to the crates above
pub use Rattle.wy_core.proofs as wy_core_proofs
