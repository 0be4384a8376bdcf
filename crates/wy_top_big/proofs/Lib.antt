-- what contracts of functions inside rest on
pub mod SourceLemmas
-- what the law rests on
pub mod RowsHold
-- what `print` writes of its tree
pub mod NodeLemmas
pub mod TreeLemmas
