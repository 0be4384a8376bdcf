use Rattle.std.proofs.Common.{refl}
use Rattle.wy_vc_exprs.proofs.ResultLemmas.{on_ok}
use Rattle.wy_vc_exprs.proofs.NumberedLemmas.{at_itself}
use Rattle.wy_vc_exprs.proofs.StateLemmas.{sound_made}
use Rattle.wy_vc_exprs.proofs.ClauseLemmas.{goal_owed}
use Rattle.wy_vc_exprs.proofs.clauses.owe_in_type.Goals as goal

pub owe-requires-clause-sound : goal.owe-requires-clause-sound
owe-requires-clause-sound c = sound_made _ _ c.requires.sound (c.in_ok-goal.ensures.made c.requires.described _ (at_itself c.requires.v)).term.kept refl refl

pub returns-clause-value : goal.returns-clause-value
returns-clause-value c =
    on_ok c.owe.result _ _ c.owe.ensures.value (λ s. goal_owed _ _ _ _ _ _ _ c.requires.sound (c.in_ok-goal.ensures.made c.requires.described _ (at_itself c.requires.v)) refl refl s)
