pub mod LabelLemmas
pub mod KeyLemmas
pub mod ChosenLemmas
