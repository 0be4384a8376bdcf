pub mod PlaceLemmas
pub mod AddingLemmas
pub mod DivisionLemmas
pub mod TallyLemmas
pub mod FewLemmas
pub mod StartLemmas
pub mod ValidityLemmas
pub mod TurnLemmas
