pub mod BoolLemmas
pub mod EventLemmas
pub mod ReadsLemmas
pub mod TurnLemmas
pub mod StatementLemmas
pub mod BehindLemmas
pub mod MarkLemmas
