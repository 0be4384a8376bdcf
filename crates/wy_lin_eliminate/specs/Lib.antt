-- what public contracts cite
pub mod Division
pub mod Variables
pub mod Sums
pub mod Elimination
pub mod Validity
-- what functions inside owe
pub mod Adding
pub mod Seen
