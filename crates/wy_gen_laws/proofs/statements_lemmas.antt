-- sets and what is live
pub mod SetLemmas
pub mod LiveLemmas
-- runs behind contracts and instructions
pub mod StillLemmas
pub mod StepLemmas
-- statements
pub mod ProperLemmas
pub mod ValueLemmas
pub mod PathLemmas
pub mod CallLemmas
pub mod ChoiceLemmas
pub mod LoopLemmas
pub mod StatementLemmas
-- routines
pub mod EntryLemmas
pub mod RoutineLemmas
