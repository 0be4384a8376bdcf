-- The marks of the walk are right, and no others are.
use Rattle.std.proofs.Common.{List, Bool, subst, sym}
use Rattle.wy_core.specs.CoreSeen.{seen_core}
use Rattle.wy_live.specs.LastUses.{AreLast}
use Rattle.wy_live.proofs.MarkLemmas.{are_last}
use Rattle.wy_live.proofs.UniqueLemmas.{one_list}
use Rattle.wy_live.proofs.program.last_uses.Goals as goal

pub returns-clause-sound : goal.returns-clause-sound
returns-clause-sound c = subst (λ (ms : List Bool). AreLast (seen_core c.args.core.now) ms) (sym c.in_ok-last.ensures.value) (are_last (seen_core c.args.core.now))

pub returns-clause-complete : goal.returns-clause-complete
returns-clause-complete c =
    λ marks h. one_list (seen_core c.args.core.now) marks c.in_ok-last.last h (subst (λ (ms : List Bool). AreLast (seen_core c.args.core.now) ms) (sym c.in_ok-last.ensures.value) (are_last (seen_core c.args.core.now)))
