-- what exactness is
pub mod Exactness
pub mod Outcomes
-- a lemma for each combinator
pub mod Single
pub mod Sequence
pub mod Choice
pub mod Repetition
pub mod Checks
pub mod Words
pub mod Levels
pub mod Closed
pub mod Bars
-- changes
pub mod Adapting
pub mod SymbolSets
-- whole texts
pub mod Theorem
-- for the code
pub mod Turns
-- the example
pub mod ListLevels
pub mod ListsExact
pub mod ListRefusals
pub mod SharedLemmas
