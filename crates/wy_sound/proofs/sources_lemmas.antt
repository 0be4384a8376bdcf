pub mod FreshLemmas
pub mod StmtLemmas
pub mod OnceLemmas
pub mod VariableLemmas
pub mod SourceLemmas
