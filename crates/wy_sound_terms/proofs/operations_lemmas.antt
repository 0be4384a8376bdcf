pub mod NumberLemmas
pub mod DataLemmas
pub mod MadeLemmas
pub mod FollowLemmas
pub mod OperatorLemmas
pub mod OtherLemmas
pub mod UpdateLemmas
