-- what certificates show of a program
pub mod AcceptLemmas
