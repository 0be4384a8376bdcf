-- definitions of public contracts
pub mod Front
pub mod Places
pub mod Faults
pub mod lines
-- passed on to the crates above
pub use Rattle.wy_lex.specs as wy_lex
pub use Rattle.wy_parse.specs as wy_parse
pub use Rattle.wy_parse.specs.wy_parse_grammar as wy_parse_grammar
