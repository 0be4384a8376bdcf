use Rattle.std.proofs.Common.{refl}
use Rattle.wy_vc_exprs.proofs.ResultLemmas.{on_ok}
use Rattle.wy_vc_exprs.proofs.SlotLemmas.{slots_itself}
use Rattle.wy_vc_exprs.proofs.StateLemmas.{sound_made}
use Rattle.wy_vc_exprs.proofs.ClauseLemmas.{formula_assumed}
use Rattle.wy_vc_exprs.proofs.clauses.assume_clause.Goals as goal

pub assume-requires-clause-sound : goal.assume-requires-clause-sound
assume-requires-clause-sound c = sound_made _ _ c.requires.sound (c.in_ok-formula.ensures.made c.requires.described _ (slots_itself c.requires.slots)).term.kept refl refl

pub returns-clause-value : goal.returns-clause-value
returns-clause-value c =
    on_ok c.assume.result _ _ c.assume.ensures.value (λ s. formula_assumed _ _ _ _ _ c.requires.sound
    (c.in_ok-formula.ensures.made c.requires.described _ (slots_itself c.requires.slots)) refl refl s)
