-- definitions of public contracts
pub mod Words
pub mod scan
