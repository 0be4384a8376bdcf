pub mod SetLemmas
pub mod MeetLemmas
pub mod StayLemmas
