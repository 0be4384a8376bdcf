use Rattle.std.proofs.Common.{◌-◌, ◌&&◌}
use Rattle.wy_vc_exprs.specs.wy_vc_spec.Spots.{is_set}
use Rattle.wy_vc_body.specs.Paths.{spot_of}
use Rattle.wy_vc_body.specs.Frames.{body_at}
use Rattle.wy_vc_body.specs.Loops.{type_if, renewed_types}
use Rattle.wy_vc_body.proofs.LoopLemmas.{IsRenewing}
use Rattle.wy_vc_body.proofs.loops.renew_types.Given as goal

abbrev pub invariant-loop-x : goal.invariant-loop-x
invariant-loop-x l =
    IsRenewing (λ x p n. type_if (body_at l.fn.walk.maker.terms l.frame) x (is_set l.marks x && is_set p.set x) p n) l.fn.walk l.walk l.here l.x (l.most - l.x)
    (renewed_types (body_at l.fn.walk.maker.terms l.frame) l.marks 0 l.most (spot_of l.fn.walk l.here) l.fn.walk.maker.count)
