-- definitions of public contracts
pub mod Places
pub mod Signed
