-- what terms mean at names, and when conditions are true
pub mod Names
pub mod Truth
-- what a type says of a datum, by what its names stand for
pub mod Types
-- what evaluations meet, and what holds of them
pub mod Written
pub mod Suits
pub mod Sound
-- the laws
pub mod Laws
