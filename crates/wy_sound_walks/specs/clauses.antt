-- what public contracts cite
pub mod Quiet
pub mod Clauses
pub mod ClauseLaws
