use Rattle.std.proofs.Common.{◌≡◌, ◌+◌, drop, map}
use Rattle.wy_core.specs.CoreSeen.{seen_step}
use Rattle.wy_vc_exprs.specs.wy_vc_spec.Sizes.{exprs_in_path}
use Rattle.wy_vc_body.proofs.PlaceLemmas.{IsAlong, left_of}
use Rattle.wy_vc_body.proofs.places.parts_along.Given as goal

abbrev pub invariant-loop-step : goal.invariant-loop-step
invariant-loop-step l =
    IsAlong l.frame l.vars l.fn.walk l.walk l.parts.items l.inner (drop l.step-index l.path) (left_of l.frame l.vars l.fn.walk l.fn.walk l.whole l.path)
    × (l.walk.maker.node + exprs_in_path (map seen_step (drop l.step-index l.path)) ≡ l.fn.walk.maker.node + exprs_in_path (map seen_step l.path))
