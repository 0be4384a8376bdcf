-- the tree as plain data
pub mod SurfaceTree
-- what the nodes of a tree are as plain data
pub mod SurfaceSeen
