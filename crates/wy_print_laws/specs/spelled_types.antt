-- which types have a variable
pub mod SourceVariables
