-- the definition: paths, and which uses are last
pub mod Paths
pub mod LastUses
-- the reading: what is live at each point, and the marks
pub mod Sets
pub mod Walks
-- what one set has and another lacks
pub mod Lost
-- sets as words of bits
pub mod Words
pub mod Merges
pub mod Apart
pub mod live_paths
