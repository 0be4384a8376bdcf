-- steps of the walk
pub mod Outcomes
-- questions at a node, each with its fault
pub mod Asked
-- where two paths meet
pub mod Joins
-- what an expression leads to, by families of constructs
pub mod Contexts
pub mod Leaves
pub mod Narrowing
pub mod Operators
pub mod Parts
pub mod Calls
pub mod Expressions
pub mod Places
-- statements
pub mod States
pub mod Paths
pub mod Assigned
pub mod Loops
pub mod Statements
-- declarations and programs
pub mod Programs
pub mod TypedPrograms
