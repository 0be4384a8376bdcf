-- numbers that name trees
pub mod NumberedLemmas
-- members of formulas
pub mod MemberLemmas
-- goals that are owed
pub mod OweLemmas
-- what walks assume and owe
pub mod StateLemmas
-- walks, one behind the other
pub mod WalkLemmas
-- the terms of variables
pub mod SlotLemmas
-- what holds where a call succeeds
pub mod ResultLemmas
-- terms made in order
pub mod MakingLemmas
-- what is done behind the parts of an expression
pub mod StepLemmas
-- clauses
pub mod ClauseLemmas
-- calls
pub mod CallLemmas
-- results
pub mod GivenLemmas
-- what is called
pub mod CalleeLemmas
-- the forms of expressions
pub mod ArmLemmas
-- expressions in order
pub mod ListLemmas
-- forms by kind
pub mod FormLemmas
-- operands are less deep
pub mod LessLemmas
-- passed on to the crates above
pub use Rattle.wy_vc_operations.proofs as wy_vc_operations_proofs
