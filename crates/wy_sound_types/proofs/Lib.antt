pub mod TestLemmas
pub mod AliasLemmas
pub mod RankLemmas
pub mod ReadingLemmas
pub mod ExactLemmas
pub mod RestLemmas
pub mod EndLemmas
pub mod TestEndLemmas
pub mod MembershipLemmas
pub mod TypedLemmas
pub mod RoutineLemmas
pub mod QuietLemmas
pub mod members_lemmas
pub mod sound_routines_lemmas
-- passed on to the crates above
pub use Rattle.wy_vc_laws.proofs.wy_check_laws_proofs as wy_check_laws_proofs
pub use Rattle.wy_term_subst.proofs as wy_term_subst_proofs
pub use Rattle.wy_vc_laws.proofs as wy_vc_laws_proofs
