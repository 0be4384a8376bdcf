-- what contracts denote, by data alone
pub mod Denotations
-- which types tests ask about
pub mod Tests
-- data of named types that meet the formulas of all types
pub mod Members
-- the laws
pub mod Laws
