-- for the code
pub mod StepLemmas
-- single tokens, and changes of readers
pub mod TokenLemmas
pub mod StepsExact
pub mod InsideExact
pub mod PlacedExact
-- each line of the grammar is read exactly
pub mod TypesExact
pub mod OperatorsExact
pub mod ExprsExact
pub mod ExprLevels
pub mod LabelsExact
-- with more levels and without checks each reader goes on
pub mod LooserLemmas
pub mod LooserReaders
-- passed on to the crates above
pub use Rattle.wy_lex.proofs as wy_lex_proofs
