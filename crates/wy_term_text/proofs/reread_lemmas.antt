pub mod Texts
pub mod ShownLemmas
pub mod FoldedLemmas
pub mod RereadLemmas
