-- definitions of public contracts
pub mod Faults
pub mod Scope
pub mod Declarations
pub mod Places
