-- refusals of questions as faults of a node
pub mod Refusals
