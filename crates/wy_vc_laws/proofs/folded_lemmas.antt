pub mod MakingLemmas
pub mod ValueLemmas
pub mod WalkLemmas
pub mod JoinLemmas
pub mod StatementLemmas
pub mod ProgramLemmas
pub mod OwedLemmas
