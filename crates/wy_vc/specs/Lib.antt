-- the loop around a statement
pub mod Rounds
-- how statements go on, and the `break`s in them
pub mod Flows
-- the sides of a branch
pub mod Branches
-- the head and the end of a loop
pub mod Heads
-- what is known where contracts and bodies begin, and what declarations owe
pub mod Entering
-- what is listed so far
pub mod Shared
-- terms that were gathered
pub mod Gathered
-- tests of named types
pub mod Tested
-- types that hypotheses test
pub mod Standing
-- what tests of named types stand for
pub mod Meanings
-- which named types are mentioned
pub mod Mentioned
-- conditions with what their tests stand for
pub mod Told
-- how many terms there are
pub mod Counted
-- conjuncts of numbers
pub mod Conjuncts
-- the list of a program
pub mod Listed
-- passed on to the crates above
pub use Rattle.wy_core.specs as wy_core
pub use Rattle.wy_flow_spec.specs as wy_flow_spec
pub use Rattle.wy_vc_spec.specs as wy_vc_spec
