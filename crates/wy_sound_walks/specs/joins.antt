-- points of a body
pub mod Points
-- where paths come together
pub mod Joins
