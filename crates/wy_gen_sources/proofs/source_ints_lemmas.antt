pub mod PlacedLemmas
pub mod PartLemmas
pub mod FieldNameLemmas
pub mod LowLemmas
pub mod TypeFields
pub mod ExprLeaves
pub mod StmtLeaves
pub mod BlockLeaves
pub mod ProgramLeaves
-- what the rules of a program spell
pub mod SpelledLemmas
pub mod FormedInts
