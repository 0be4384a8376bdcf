pub mod LineLemmas
pub mod FileLemmas
pub mod FoundLemmas
pub mod WrittenLemmas
pub mod RereadLemmas
