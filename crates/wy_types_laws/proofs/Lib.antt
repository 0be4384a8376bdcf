pub mod asked_parts_lemmas
pub mod asked_types_lemmas
pub mod parts_lemmas
