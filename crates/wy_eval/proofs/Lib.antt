-- marks of declared types
mod MarkLemmas
-- declared types of variables
mod VariableLemmas
-- values and the types that they are given
mod GivenLemmas
-- texts that are printed
mod TextLemmas
-- what a value is given, and what follows
pub mod FollowLemmas
-- arguments, one behind the other, and clauses
mod EntryLemmas
-- results that are given, and calls that are entered
mod LeaveLemmas
-- statements, one behind the other
mod StatementLemmas
-- turns of loops
mod RoundLemmas
-- paths into values
mod PathLemmas
-- calls
mod RunLemmas
-- what follows the body of a loop
mod TurningLemmas
mod TurnedLemmas
-- assignments
mod AssignLemmas
-- declarations by their numbers
mod CalleeLemmas
-- how an evaluation begins
mod EndingLemmas
