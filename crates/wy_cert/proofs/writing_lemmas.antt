pub mod WriteLemmas
pub mod ProductLemmas
