-- definitions of public contracts
pub mod Certificates
