pub mod round
pub mod spelled_types
-- passed on to the crates above
pub use Rattle.wy_parse_front.specs.wy_lex as wy_lex
pub use Rattle.wy_parse_front.specs.wy_parse as wy_parse
pub use Rattle.wy_parse_front.specs as wy_parse_front
pub use Rattle.wy_parse_front.specs.wy_parse_grammar as wy_parse_grammar
