pub mod IntLemmas
pub mod RoutineInts
pub mod LoadableLemmas
pub mod PieceLemmas
pub mod TypeLemmas
pub mod ExpressionLemmas
pub mod StatementLemmas
pub mod ProgramLemmas
