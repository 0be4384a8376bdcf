pub mod ProgramsHold
pub mod FormsHold
mod RelatedOperations
mod RelatedExpressions
mod RelatedTests
mod RelatedStatements
mod RelatedCalls
pub mod Growth
pub mod Limits
pub mod Agreement
pub mod MemberAnswers
pub mod MeetsAnswers
pub mod SharedLemmas
pub mod kept_lemmas
-- passed on to the crates above
pub use Rattle.wy_types.proofs.wy_core_proofs as wy_core_proofs
