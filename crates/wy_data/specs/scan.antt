-- definitions of public contracts
pub mod Front
pub mod Numbers
pub mod Words
