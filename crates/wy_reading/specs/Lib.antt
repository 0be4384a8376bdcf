-- what grammars are written in, and what is promised of a reader
pub mod Mode
pub mod Rule
pub mod Places
pub mod Promise
-- the steps of readers, which functions inside owe each other
pub mod Reader
-- the example: its grammar, and what its call promises
pub mod ListGrammar
pub mod ListText
-- the example's readers, which its functions owe each other
pub mod ListReading
-- passed on to the crates above
pub use Rattle.wy_items.specs as wy_items
