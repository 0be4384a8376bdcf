-- what nodes with a list of pairs stand for
pub mod SeenLemmas
-- the scope is cut back to what it was
pub mod CutLemmas
-- what lists of nodes stand for
pub mod BindSeenLemmas
-- labels mark exactly the uses that recur
pub mod MarkLemmas
-- a settled order is one
pub mod OrderLemmas
-- rounds over properties end with one
pub mod RoundLemmas
