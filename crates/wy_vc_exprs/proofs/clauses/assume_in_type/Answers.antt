use Rattle.std.proofs.Common.{refl}
use Rattle.wy_vc_exprs.proofs.ResultLemmas.{on_ok}
use Rattle.wy_vc_exprs.proofs.NumberedLemmas.{at_itself}
use Rattle.wy_vc_exprs.proofs.StateLemmas.{sound_made}
use Rattle.wy_vc_exprs.proofs.ClauseLemmas.{formula_assumed}
use Rattle.wy_vc_exprs.proofs.clauses.assume_in_type.Goals as goal

pub assume-requires-clause-sound : goal.assume-requires-clause-sound
assume-requires-clause-sound c = sound_made _ _ c.requires.sound (c.in_ok-formula.ensures.made c.requires.described _ (at_itself c.requires.v)).term.kept refl refl

pub returns-clause-value : goal.returns-clause-value
returns-clause-value c =
    on_ok c.assume.result _ _ c.assume.ensures.value (λ s. formula_assumed _ _ _ _ _ c.requires.sound (c.in_ok-formula.ensures.made c.requires.described _ (at_itself c.requires.v)) refl refl s)
