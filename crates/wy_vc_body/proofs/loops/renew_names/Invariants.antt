use Rattle.std.proofs.Common.{◌-◌}
use Rattle.wy_vc_exprs.specs.wy_vc_spec.Spots.{is_set}
use Rattle.wy_vc_body.specs.Paths.{spot_of}
use Rattle.wy_vc_body.specs.Loops.{name_if, renewed_names}
use Rattle.wy_vc_body.proofs.LoopLemmas.{IsRenewing}
use Rattle.wy_vc_body.proofs.loops.renew_names.Given as goal

abbrev pub invariant-loop-x : goal.invariant-loop-x
invariant-loop-x l = IsRenewing (λ x p n. name_if l.words x (is_set l.marks x) p n) l.fn.walk l.walk l.here l.x (l.most - l.x) (renewed_names l.words l.marks 0 l.most (spot_of l.fn.walk l.fn.here) l.fn.walk.maker.count)
