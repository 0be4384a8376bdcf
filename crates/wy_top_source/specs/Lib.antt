-- what refusals are called, and where they stand
pub mod Refusals
-- which program a source is, and for what it is refused
pub mod Sources
pub mod texts
-- passed on to the crates above
pub use Rattle.wy_assign.specs as wy_assign
pub use Rattle.wy_ast.specs as wy_ast
pub use Rattle.wy_print_laws.specs.wy_parse_front as wy_parse_front
