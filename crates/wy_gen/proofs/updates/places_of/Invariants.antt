use Rattle.std.proofs.Common.{◌≡◌, ◌++◌, drop, map}
use Rattle.wy_core.specs.CoreSeen.{seen_step}
use Rattle.wy_gen.specs.Places as spec
use Rattle.wy_gen.proofs.updates.places_of.Given as goal

abbrev pub invariant-loop-step : goal.invariant-loop-step
invariant-loop-step l = l.places ++ spec.places (map seen_step (drop l.step-index l.path)) l.live ≡ spec.places (map seen_step l.path) l.live
