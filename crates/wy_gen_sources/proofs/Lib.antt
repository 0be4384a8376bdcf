pub mod code_lemmas
pub mod programs_lemmas
pub mod named_programs_lemmas
pub mod source_ints_lemmas
pub mod sourced_code_lemmas
-- passed on to the crates above
pub use Rattle.wy_gen_laws.proofs.wy_code_spec_proofs as wy_code_spec_proofs
pub use Rattle.wy_gen_laws.proofs as wy_gen_laws_proofs
pub use Rattle.wy_names.proofs as wy_names_proofs
