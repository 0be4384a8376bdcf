use Rattle.std.proofs.Common.{◌≡◌, ℕ, List, IfOk, subst, arith}
use Rattle.wy_vc_tables.specs.wy_vc_spec.Values.{x_word}
use Rattle.wy_vc_terms.proofs.words.word_of.Goals as goal

pub returns-in-None : goal.returns-in-None
returns-in-None c = record { value = subst (λ (w : List ℕ). IfOk c.x_word.result (λ r. r ≡ w)) (c.in-None.ensures.lookup.4 (omega arith) x_word) c.x_word.ensures.value }

pub returns-in-Some : goal.returns-in-Some
returns-in-Some c = record { value = subst (λ (w : List ℕ). IfOk c.copy.result (λ r. r ≡ w)) (c.in-Some.ensures.lookup.4 (omega arith) x_word) c.copy.ensures.value }
