-- what passes over names owe to a cut table
pub mod ScopeLemmas
pub mod SharedLemmas
