pub mod ExpressionLemmas
pub mod TestLemmas
pub mod StatementLemmas
pub mod ProgramLemmas
