-- what public contracts cite
pub mod OwedConditions
