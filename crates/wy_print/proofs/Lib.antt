pub mod WritingLemmas
pub mod TypeLemmas
pub mod ExprLemmas
pub mod StmtLemmas
