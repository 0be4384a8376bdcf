-- marks of names
pub mod Marks
