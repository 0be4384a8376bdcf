use Rattle.std.proofs.Common.{◌≡◌, drop}
use Rattle.wy_vc_exprs.specs.Numbered.{trees_of}
use Rattle.wy_vc_exprs.specs.State.{hyps_of}
use Rattle.wy_vc_exprs.proofs.StateLemmas.{Toward}
use Rattle.wy_vc_exprs.proofs.OweLemmas.{owing_all}
use Rattle.wy_vc_exprs.proofs.walk.Walk.owe_all.Given as goal

abbrev pub invariant-loop-goal : goal.invariant-loop-goal
invariant-loop-goal l = (Toward l.fn.self l.self (owing_all l.kind l.at (trees_of l.fn.self.maker.terms (drop l.goal-index l.goals)) (hyps_of l.self) l.self.maker.count)
    (owing_all l.kind l.at (trees_of l.fn.self.maker.terms l.goals) (hyps_of l.fn.self) l.fn.self.maker.count)) × (l.self.maker ≡ l.fn.self.maker)
