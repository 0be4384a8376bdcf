pub mod MarkLemmas
pub mod MetLemmas
pub mod IndexLemmas
pub mod WorkLemmas
