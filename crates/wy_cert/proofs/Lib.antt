pub mod OneLemmas
pub mod VerbLemmas
pub mod NumberLemmas
pub mod PairLemmas
pub mod CutLemmas
pub mod TermLemmas
pub mod ArgumentLemmas
pub mod BodyLemmas
pub mod LineLemmas
pub mod FirstLine
pub mod TreeLemmas
pub mod FileLemmas
pub mod writing_lemmas
-- passed on to the crates above
pub use Rattle.wy_term_text.proofs.wy_lemmas_proofs as wy_lemmas_proofs
pub use Rattle.wy_term_text.proofs as wy_term_text_proofs
