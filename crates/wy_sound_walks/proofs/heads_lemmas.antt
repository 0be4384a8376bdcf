pub mod AssignedLemmas
pub mod HeadLemmas
