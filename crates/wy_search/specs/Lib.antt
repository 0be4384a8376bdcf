-- what public contracts cite
pub mod Seen
pub mod Turns
pub mod Carried
-- what functions inside owe each other
pub mod Walks
-- what crates above need too of those below
pub use Rattle.wy_search_facts.specs.Seen as StatedSeen
pub use Rattle.wy_search_facts.specs.declared.spot.Spot
pub use Rattle.wy_search_bounds.specs.Known
-- passed on to the crates above
pub use Rattle.wy_search_bounds.specs.wy_check_splits as wy_check_splits
pub use Rattle.wy_search_facts.specs as wy_search_facts
pub use Rattle.wy_search_bounds.specs as wy_search_bounds
