-- what a formed core is
pub mod Formed
-- what a program offers to the uses of its names
pub mod Offers
-- where the names of a core lead
pub mod Bound
-- more variables in scope
pub mod Moves
-- where calls stand
pub mod Calls
-- which numbers stand in it
pub mod Literals
-- where the recursion of its types passes
pub mod Recursion
-- what is said of each whole expression, and its size
pub mod Wholes
pub mod Sizes
-- an order of its types
pub mod Ranks
