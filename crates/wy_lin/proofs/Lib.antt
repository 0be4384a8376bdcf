pub mod OptionLemmas
pub mod Ring
pub mod WorthLemmas
pub mod SumLemmas
pub mod SeenLemmas
pub mod WorkLemmas
pub mod SharedLemmas
-- passed on to the crates above
pub use Rattle.wy_term.proofs as wy_term_proofs
