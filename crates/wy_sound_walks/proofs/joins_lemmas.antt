pub mod DatumLemmas
pub mod PathLemmas
pub mod JoinLemmas
