pub mod AnswerLemmas
pub mod StepLemmas
pub mod JoinLemmas
pub mod KindLemmas
