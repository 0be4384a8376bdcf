-- what is counted, and where
pub mod Measures
-- the walk over an expression
pub mod Sizes
-- what properties come to
pub mod Summaries
-- the faults
pub mod Wholes
pub mod Faults
