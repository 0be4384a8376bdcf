pub mod closure_lemmas
pub mod cycles_lemmas
pub mod reach_lemmas
