-- what public contracts cite
pub mod Seen
-- what functions inside owe each other
pub mod Indices
-- what public contracts cite, and what functions inside owe each other
pub mod Adding
pub mod About
-- what public contracts cite
pub mod SameFacts
-- passed on to the crates above
pub use Rattle.wy_cong.specs.wy_check_spec as wy_check_spec
pub use Rattle.wy_cong.specs.wy_search_spec as wy_search_spec
