pub mod FoldedMade
pub mod FoldedFacts
pub mod PresentLemmas
pub mod KindLemmas
pub mod RoundLemmas
pub mod ProductLemmas
pub mod ExpandedLemmas
pub mod SearchLemmas
