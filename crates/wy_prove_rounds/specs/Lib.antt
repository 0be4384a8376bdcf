-- what public contracts cite
pub mod Rounds
-- what functions inside owe each other
pub mod Moving
pub mod About
-- passed on to the crates above
pub use Rattle.wy_prove_drafts.specs.wy_check_spec as wy_check_spec
pub use Rattle.wy_prove_drafts.specs as wy_prove_drafts
pub use Rattle.wy_search.specs as wy_search
pub use Rattle.wy_search.specs.wy_search_bounds as wy_search_bounds
pub use Rattle.wy_prove_drafts.specs.wy_cong as wy_cong
