-- bodies: what is used is marked, and those with a result don't get to their end
pub mod Bodies
-- the clauses of contracts and of types
pub mod Clauses
