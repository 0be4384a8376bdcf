-- forms, and elimination
pub mod FormLemmas
pub mod EliminationLemmas
pub mod EvenLemmas
-- classes, and what closes a node
pub mod SenseLemmas
pub mod ClassLemmas
pub mod ClashLemmas
pub mod PlacedLemmas
pub mod ReplacedLemmas
pub mod ClosedLemmas
-- what expansion adds
pub mod StandingLemmas
pub mod FollowingLemmas
pub mod ProductsLemmas
pub mod WitnessLemmas
-- the search
pub mod FoundLemmas
