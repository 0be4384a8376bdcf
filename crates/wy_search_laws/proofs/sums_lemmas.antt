-- sums of forms
pub mod TwiceLemmas
pub mod TidyLemmas
pub mod RefutingLemmas
-- forms of literals
pub mod CutLemmas
pub mod VariableLemmas
pub mod PresentLemmas
-- nodes that close
pub mod ClosedLemmas
pub mod ReplacedLemmas
pub mod RefutedLemmas
