-- tuples one after another
mod TupleLemmas
-- positions that lie in their lists
mod FitLemmas
-- values that are the same
-- loops over lists of values
mod ListLemmas
-- the tables of declared types have the candidates
mod TableLemmas
-- what is made of the tables of parts
mod CandidateLemmas
-- the values at positions in lists
mod PickLemmas
-- tuples tried one after another
mod TriedLemmas
-- there is a finding, and one
mod SomeLemmas
pub mod OnceLemmas
-- numbers of functions and methods
pub mod RoutineLemmas
