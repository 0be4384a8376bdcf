pub mod SlotLemmas
pub mod SharedLemmas
