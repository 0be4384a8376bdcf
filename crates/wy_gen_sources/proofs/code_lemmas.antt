-- safe code, and its runs
pub mod SafeLemmas
pub mod RunLemmas
-- pieces of code
pub mod PieceLemmas
pub mod TestLemmas
-- what is live by the source
pub mod SetLemmas
-- expressions
pub mod InPlaceLemmas
pub mod ReadLemmas
pub mod OperandLemmas
pub mod ChoiceLemmas
pub mod QuantifierLemmas
pub mod ExpressionLemmas
pub mod IntoLemmas
-- statements
pub mod BranchLemmas
pub mod StatementReadLemmas
pub mod StatementLemmas
-- programs
pub mod FitLemmas
pub mod ProgramLemmas
