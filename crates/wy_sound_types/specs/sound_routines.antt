-- where functions and methods begin, and what their contracts need
pub mod Entries
-- calls by their depth
pub mod Depths
-- a program from its entry
pub mod Runs
-- what the calls of a typed program take
pub mod Takes
