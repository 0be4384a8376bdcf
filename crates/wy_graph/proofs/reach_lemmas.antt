-- bounded reach is reach
pub mod BoundedLemmas
-- lists of names, and arrows between them
pub mod ArrowLemmas
-- names that lead back to themselves
pub mod LoopLemmas
-- names in an order
pub mod OrderLemmas
-- sizes
pub mod SizeLemmas
-- clauses
pub mod ClauseLemmas
