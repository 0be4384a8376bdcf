-- a use, and the walk
pub mod Uses
pub mod TypeUses
pub mod ExprUses
pub mod DeclUses
-- where a node stands, and what a call owes there
pub mod Calls
-- the walk
pub mod TypeNames
pub mod ExprNames
pub mod StmtNames
pub mod DeclNames
-- the arrows of uses, and which of them recur
pub mod Arrows
pub mod Recursion
-- properties in order
pub mod Endings
pub mod Rounds
