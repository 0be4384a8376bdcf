-- what is so of nodes with more literals
pub mod ChainLemmas
pub mod KindLemmas
pub mod ClashLemmas
-- steps that add something or nothing, and lists of them
pub mod GrownLemmas
pub mod LinkLemmas
-- literals that are tried one after the other
pub mod EndedLemmas
-- nodes to which no chain adds anything
pub mod SaturatedLemmas
