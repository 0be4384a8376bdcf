-- definitions of public contracts
pub mod CommandLine
pub mod Plain
pub mod Line
pub mod Rows
pub mod Rules
