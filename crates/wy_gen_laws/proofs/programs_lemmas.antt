pub mod RunLemmas
pub mod ContractLemmas
pub mod PartLemmas
pub mod FitLemmas
pub mod ProgramLemmas
