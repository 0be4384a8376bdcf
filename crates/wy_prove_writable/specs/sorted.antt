-- what functions inside owe each other
pub mod Sorts
