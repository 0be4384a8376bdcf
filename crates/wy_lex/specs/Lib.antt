-- definitions of public contracts
pub mod Symbols
pub mod Kinds
pub mod Layout
pub mod Grammar
pub mod Source
pub mod Lists
pub mod Lines
-- the readers, which functions inside owe each other
pub mod Reading
