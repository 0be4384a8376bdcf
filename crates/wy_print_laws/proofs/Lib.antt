pub mod round_lemmas
pub mod spelled_types_lemmas
-- passed on to the crates above
pub use Rattle.wy_parse_front.proofs.wy_lex_proofs as wy_lex_proofs
pub use Rattle.wy_parse_front.proofs as wy_parse_front_proofs
