pub mod NumbersLemmas
pub mod RangeLemmas
pub mod JoinedLemmas
pub mod HeadLemmas
pub mod ChainLemmas
pub mod KindLemmas
pub mod CommonLemmas
pub mod GivenLemmas
pub mod WalkLemmas
pub mod FreeLemmas
pub mod SharedLemmas
-- passed on to the crates above
pub use Rattle.wy_check_nodes.proofs as wy_check_nodes_proofs
pub use Rattle.wy_check_nodes.proofs.wy_lin_proofs as wy_lin_proofs
pub use Rattle.wy_check_nodes.proofs.wy_term_text_proofs as wy_term_text_proofs
