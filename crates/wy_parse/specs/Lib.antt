-- what the parser promises
pub mod Derivation
pub mod Fronts
-- the grammar, line by line
pub mod StmtGrammar
pub mod BlockGrammar
pub mod ProgramGrammar
-- the trees that are made
pub mod StmtTrees
pub mod DeclTrees
-- how the grammar is read, which functions inside owe each other
pub mod StmtReading
pub mod BlockReading
pub mod OpenBlocks
pub mod ProgramReading
pub mod Parsed
-- passed on to the crates above
pub use Rattle.wy_lex.specs as wy_lex
pub use Rattle.wy_parse_grammar.specs as wy_parse_grammar
