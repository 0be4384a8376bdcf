-- what is made of parts
pub mod MadeLemmas
-- loops over fields, expressions and clauses
pub mod UnderwayLemmas
-- passed on to the crates above
pub use Rattle.wy_core_lemmas.proofs.ExpressionKinds as ExpressionKinds
pub use Rattle.wy_vc_operations.proofs as wy_vc_operations_proofs
