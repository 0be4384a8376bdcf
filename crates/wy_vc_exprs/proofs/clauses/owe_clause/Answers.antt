use Rattle.std.proofs.Common.{ℕ, List, length, sym, subst, refl}
use Rattle.wy_vc_exprs.proofs.ResultLemmas.{on_ok}
use Rattle.wy_vc_exprs.proofs.SlotLemmas.{slots_itself}
use Rattle.wy_vc_operations.specs.Growing.{AreBelow}
use Rattle.wy_vc_exprs.proofs.StateLemmas.{sound_made}
use Rattle.wy_vc_exprs.proofs.ClauseLemmas.{clause_owed}
use Rattle.wy_vc_exprs.proofs.clauses.owe_clause.Goals as goal

pub owe_all-requires-clause-sound : goal.owe_all-requires-clause-sound
owe_all-requires-clause-sound c = sound_made _ _ c.requires.sound (c.in_ok-goals.ensures.made c.requires.described _ (slots_itself c.requires.slots)).kept refl refl

pub owe_all-requires-clause-goals : goal.owe_all-requires-clause-goals
owe_all-requires-clause-goals c = subst (λ (xs : List ℕ). AreBelow (length c.clause_goals.new.maker.terms) xs) (sym c.as_slice.ensures.value) c.in_ok-goals.ensures.within

pub returns-clause-value : goal.returns-clause-value
returns-clause-value c =
    on_ok c.owe_all.result _ _ c.owe_all.ensures.value (λ s. clause_owed _ _ _ _ _ _ _ _ c.requires.sound c.as_slice.ensures.value
    (c.in_ok-goals.ensures.made c.requires.described _ (slots_itself c.requires.slots)) refl refl s)
