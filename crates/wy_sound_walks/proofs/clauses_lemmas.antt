pub mod ValueLemmas
pub mod AnswerLemmas
pub mod ClauseLemmas
pub mod WalkedLemmas
pub mod HoldLemmas
pub mod LawsHold
