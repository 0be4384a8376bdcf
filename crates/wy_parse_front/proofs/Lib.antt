pub mod FrontLemmas
pub mod lines_lemmas
-- passed on to the crates above
pub use Rattle.wy_lex.proofs as wy_lex_proofs
pub use Rattle.wy_parse.proofs as wy_parse_proofs
