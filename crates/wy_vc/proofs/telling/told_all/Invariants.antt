use Rattle.std.proofs.Common.{All, length}
use Rattle.wy_vc_spec.specs.Numbered.{Node}
use Rattle.wy_vc_spec.specs.Values.{Setting}
use Rattle.wy_vc_body.specs.wy_vc_exprs.State.{IsGoal}
use Rattle.wy_vc.specs.Meanings.{AreMeanings}
use Rattle.wy_vc.specs.Standing.{Stands}
use Rattle.wy_vc.proofs.ToldLemmas.{AreTold}
use Rattle.wy_vc.proofs.telling.told_all.Given as goal

abbrev pub invariant-loop-goal : goal.invariant-loop-goal
invariant-loop-goal l =
    All (IsGoal l.terms) l.left.items × Stands l.terms l.standing × ((s : Setting Node) → AreMeanings l.terms s l.meanings → AreTold l.terms s l.left.items l.list.items l.fn.goals.items)

abbrev pub decreases-loop-goal : goal.decreases-loop-goal
decreases-loop-goal l = length l.left.items
