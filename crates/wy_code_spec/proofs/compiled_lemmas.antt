pub mod ExamplesHold
-- values that come straight into the register of a variable
pub mod StraightLemmas
-- registers and jumps
pub mod FrameLemmas
pub mod WithinLemmas
pub mod JumpLemmas
pub mod StatementLemmas
pub mod RoutineLemmas
-- names and shapes
pub mod TableLemmas
pub mod NamedLemmas
pub mod NamedRoutineLemmas
pub mod ShapeLemmas
-- routines
pub mod CallLemmas
pub mod CallRoutineLemmas
