-- variables by number, and what a property's use is made of
pub mod Variables
pub mod Uses
pub mod Templates
-- the walk
pub mod TypesLowered
pub mod ExprsLowered
pub mod StmtsLowered
pub mod DeclsLowered
-- what lists of nodes stand for
pub mod SeenPairs
pub mod SeenSpans
pub mod SeenDecls
-- passed on to the crates above
pub use Rattle.wy_core.specs as wy_core
pub use Rattle.wy_core_build.specs as wy_core_build
pub use Rattle.wy_names_expand.specs as wy_names_expand
