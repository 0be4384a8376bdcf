pub mod environment_lemmas
pub mod typing_lemmas
