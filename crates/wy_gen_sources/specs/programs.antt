-- what public contracts cite
pub mod NamedCounters
pub mod NamedKeep
