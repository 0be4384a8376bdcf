-- a type for each variable that has one
pub mod Slots
-- the types of variables at a point of a program
pub mod Variables
-- what they are as plain data
pub mod Seen
