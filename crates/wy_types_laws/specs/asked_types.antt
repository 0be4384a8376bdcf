-- types whose records are such as the language has
pub mod Rows
-- values beside types
pub mod Shown
