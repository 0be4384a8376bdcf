-- what each source's core has, besides what a formed one has
pub mod Sources
-- what typing of a whole program finds
pub mod Typed
-- what a formed program has of each of its parts
pub mod Parts
