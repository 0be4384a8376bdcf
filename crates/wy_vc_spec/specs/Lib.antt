-- how many expressions there are, and their numbers
pub mod Sizes
pub mod Numbered
-- what formulas say of named types
pub mod Named
-- terms, folded as they are made; the terms of variables; the term of each operation
pub mod Making
pub mod Variables
pub mod Operations
-- the formula that a datum is in a type, and the term of an expression
pub mod Values
-- conditions as trees, clauses, calls, and what an expression owes
pub mod Owed
pub mod Clauses
pub mod Calls
pub mod Walks
-- what tests of named types stand for, and the limits of a list
pub mod Limits
-- what is known at a point of a body, names for large terms, joins, and what a loop assigns
pub mod Spots
pub mod Large
pub mod Joins
pub mod Assigned
-- statements and declarations
pub mod Statements
pub mod Programs
-- what small programs owe
pub mod ExampleParts
pub mod CallExamples
pub mod LoopExamples
pub mod TypeExamples
pub mod Examples
pub mod answered
-- passed on to the crates above
pub use Rattle.wy_sem.specs.wy_core as wy_core
pub use Rattle.wy_sem.specs as wy_sem
