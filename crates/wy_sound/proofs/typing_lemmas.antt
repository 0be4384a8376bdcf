pub mod FlowLemmas
pub mod AliasLemmas
pub mod BoundLemmas
pub mod RoutineLemmas
pub mod PartLemmas
pub mod TypeLemmas
