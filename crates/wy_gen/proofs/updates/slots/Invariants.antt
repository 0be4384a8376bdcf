use Rattle.std.proofs.Common.{◌≡◌, ◌++◌, drop, map}
use Rattle.wy_core.specs.CoreSeen.{seen_step}
use Rattle.wy_code_spec.specs.compiled.Statements as spec
use Rattle.wy_gen.proofs.updates.slots.Given as goal

abbrev pub invariant-loop-step : goal.invariant-loop-step
invariant-loop-step l = l.slots ++ spec.slots l.context (map seen_step (drop l.step-index l.path)) l.live l.register ≡ spec.slots l.context (map seen_step l.path) l.live l.fn.free
