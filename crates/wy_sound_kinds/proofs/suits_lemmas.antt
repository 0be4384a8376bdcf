pub mod FlowLemmas
pub mod KindLemmas
pub mod SuitLemmas
