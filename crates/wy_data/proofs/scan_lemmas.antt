pub mod FrontLemmas
pub mod RunLemmas
pub mod NumberLemmas
pub mod WordLemmas
pub mod OneReading
pub mod NameBytes
