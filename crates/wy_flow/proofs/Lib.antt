-- equal steps, steps that lead to others, and what is known at a point by its parts
pub mod WalkLemmas
-- what nodes stand for
pub mod SeenLemmas
-- from the end of a path to its begin
pub mod PathLemmas
-- a program has one outcome
pub mod ProgramLemmas
-- blocks are less deep than their statement
-- passed on to the crates above
pub use Rattle.wy_types.proofs as wy_types_proofs
