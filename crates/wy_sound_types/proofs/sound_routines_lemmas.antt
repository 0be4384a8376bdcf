pub mod EntryLemmas
pub mod ContractLemmas
pub mod DepthLemmas
pub mod RunLemmas
pub mod ParamLemmas
pub mod TakeLemmas
