-- which faults there are, and which of two is given
pub mod Shown
-- those that nodes show by themselves
pub mod Nodes
-- those that expressions show once properties are expanded
pub mod Expansions
-- which uses of types and properties there are
pub mod UsesShown
-- those of a whole program
pub mod Programs
-- what a program as it is written brings along
pub mod SourceLiterals
-- what a program as it is written has
pub mod SourceClauses
