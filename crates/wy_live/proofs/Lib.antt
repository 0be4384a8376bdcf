-- what the functions owe
pub mod WalkLemmas
-- sets as words of bits
pub mod Truth
mod BitLemmas
mod WordLemmas
mod ChangeLemmas
mod MergeLemmas
mod ApartLemmas
mod ShownLemmas
mod KeptLemmas
-- sets, and what is live
pub mod SetLemmas
pub mod UseLemmas
pub mod PathLemmas
pub mod LiveLemmas
-- the marks
pub mod MarkLemmas
pub mod UniqueLemmas
pub mod live_paths_lemmas
