pub mod WholeLemmas
pub mod DivisorLemmas
pub mod RatioLemmas
pub mod MultipleLemmas
pub mod AffineLemmas
pub mod ProductLemmas
pub mod FactLemmas
pub mod BringLemmas
pub mod TrailLemmas
pub mod StepLemmas
pub mod WalkLemmas
pub mod PlaceLemmas
pub mod StayLemmas
pub mod ShownLemmas
-- passed on to the crates above
pub use Rattle.wy_vc_laws.proofs.wy_check_laws_proofs as wy_check_laws_proofs
pub use Rattle.wy_check_splits.proofs.wy_check_nodes_proofs as wy_check_nodes_proofs
pub use Rattle.wy_check_splits.proofs as wy_check_splits_proofs
pub use Rattle.wy_lin.proofs as wy_lin_proofs
pub use Rattle.wy_term.proofs as wy_term_proofs
pub use Rattle.wy_vc_laws.proofs as wy_vc_laws_proofs
