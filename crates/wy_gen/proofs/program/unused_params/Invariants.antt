use Rattle.std.proofs.Common.{◌≡◌, ◌++◌, drop, map}
use Rattle.wy_core.specs.CoreSeen.{seen_param}
use Rattle.wy_code_spec.specs.compiled.Programs as spec
use Rattle.wy_gen.proofs.program.unused_params.Given as goal

abbrev pub invariant-loop-param : goal.invariant-loop-param
invariant-loop-param l = l.unused ++ spec.unused_params l.live (map seen_param (drop l.param-index l.params)) ≡ spec.unused_params l.live (map seen_param l.params)
