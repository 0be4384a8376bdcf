-- how evaluations end, and what is done with data
pub mod Meter
pub mod Operations
-- the value semantics
pub mod Expressions
pub mod TypeTests
pub mod Statements
pub mod Evaluation
-- membership, and its two readings
pub mod Membership
pub mod Readings
-- the precondition
pub mod Precondition
-- examples, which hold by computing
pub mod Programs
pub mod Forms
-- relations of runs, by which laws are shown
pub mod Relation
pub mod Growth
pub mod kept
-- passed on to the crates above
pub use Rattle.wy_types.specs.wy_core as wy_core
pub use Rattle.wy_term.specs as wy_term
pub use Rattle.wy_term.specs.wy_value as wy_value
