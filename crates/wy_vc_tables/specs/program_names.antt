-- what is known of a program's declarations
pub mod Described
