pub mod compiled_lemmas
pub mod ints_lemmas
pub mod numbered_lemmas
pub mod step_lemmas
pub mod tables_lemmas
