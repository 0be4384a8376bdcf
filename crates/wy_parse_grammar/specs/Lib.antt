-- the grammar, line by line
pub mod TypeGrammar
pub mod ExprGrammar
pub mod LabelGrammar
-- single tokens, and the trees that are made
pub mod Sorts
pub mod Steps
pub mod Trees
-- how the grammar is read, which functions inside owe each other
pub mod TypeReading
pub mod ExprReading
pub mod LabelReading
pub mod Nests
-- passed on to the crates above
pub use Rattle.wy_lex.specs as wy_lex
