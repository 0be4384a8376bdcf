-- literals by numbers, and sums and cuts of them
pub mod NamedLemmas
-- the steps of elimination
pub mod StatingLemmas
pub mod WritingLemmas
-- what is left of forms whose variables are replaced
pub mod TakenLemmas
pub mod ClassedLemmas
pub mod LinkedLemmas
pub mod LeftLemmas
