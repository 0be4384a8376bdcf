use Rattle.std.proofs.Common.{◌≡◌, ◌+◌, drop, map}
use Rattle.wy_core.specs.CoreSeen.{seen_step}
use Rattle.wy_code_spec.specs.compiled.Statements as spec
use Rattle.wy_gen.proofs.updates.index_count.Given as goal

abbrev pub invariant-loop-step : goal.invariant-loop-step
invariant-loop-step l = l.count + spec.index_count (map seen_step (drop l.step-index l.path)) ≡ spec.index_count (map seen_step l.path)
