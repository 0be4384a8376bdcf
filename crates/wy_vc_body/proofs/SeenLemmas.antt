-- What statements stand for, by their kinds.
pub use Rattle.wy_flow_spec.proofs.environment_lemmas.SharedLemmas.{seen_assert, seen_assign, seen_break, seen_call, seen_continue, seen_declare, seen_fail, seen_if, seen_return, seen_skip, seen_while}
