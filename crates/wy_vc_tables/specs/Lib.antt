-- what a definition and its clauses mention
pub mod Mentions
-- tables of declarations
pub mod Tables
pub mod program_names
pub mod sizes
-- passed on to the crates above
pub use Rattle.wy_vc_spec.specs as wy_vc_spec
