-- the names of records in what is answered
pub mod AnswerLemmas
