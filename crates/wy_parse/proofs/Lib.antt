-- for the code
pub mod Shrinking
pub mod BlockSizes
pub mod OpenBlocks
pub mod StepLemmas
-- each line of the grammar is read exactly
pub mod StmtsExact
pub mod BlocksExact
pub mod SwitchExact
pub mod NestLevels
pub mod DeclsExact
pub mod CappedExact
pub mod ProgramExact
pub mod ParseRefusals
pub mod EndLemmas
pub mod EndFree
pub mod FrontLemmas
pub mod LooserBlocks
pub mod FaultLemmas
-- passed on to the crates above
pub use Rattle.wy_lex.proofs as wy_lex_proofs
