-- what public contracts cite
pub mod FoldedConditions
