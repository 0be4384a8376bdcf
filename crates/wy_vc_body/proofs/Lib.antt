-- marks of variables
pub mod MarkLemmas
-- variables that statements assign
pub mod AssignedLemmas
-- declared types
pub mod TypeLemmas
-- what holds of statements with numbers as of those without
pub mod NumberedLemmas
-- what nodes stand for, and blocks that are less deep than their statement
pub mod SeenLemmas
-- sizes of terms
pub mod LargeLemmas
-- new names
pub mod NamingLemmas
-- paths, one after the other
pub mod PathLemmas
-- what is known of one variable after the other
pub mod KnownLemmas
-- equations, one after the other
pub mod EquationLemmas
-- joins by their names
pub mod LawLemmas
-- where paths come together
pub mod MeetLemmas
-- what a body goes by, as terms grow
pub mod FrameLemmas
-- values that come into variables
pub mod ValueLemmas
-- parts along a path
pub mod PlaceLemmas
-- assignments
pub mod AssignLemmas
-- what a `return` owes
pub mod ResultLemmas
-- heads of loops
pub mod LoopLemmas
-- passed on to the crates above
pub use Rattle.wy_vc_exprs.proofs as wy_vc_exprs_proofs
pub use Rattle.wy_vc_exprs.proofs.wy_vc_operations_proofs as wy_vc_operations_proofs
