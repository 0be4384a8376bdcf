-- which text a source has, and for what it has none
pub mod Texts
-- what a layout is read as
pub mod Again
-- what crates above need too of sources
pub use Rattle.wy_top_source.specs.Refusals
pub use Rattle.wy_top_source.specs.Sources
pub use Rattle.wy_top_source.specs.declared.refusal.Refusal
