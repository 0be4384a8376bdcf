use Rattle.std.proofs.Common.{◌≡◌, ◌+◌, drop, map}
use Rattle.wy_core.specs.CoreSeen.{seen_step}
use Rattle.wy_vc_spec.specs.Sizes.{exprs_in_path as size}
use Rattle.wy_vc_tables.proofs.sizes.counts.exprs_in_path.Given as goal

-- those passed and those left are all
abbrev pub invariant-loop-step : goal.invariant-loop-step
invariant-loop-step l = l.count + size (map seen_step (drop l.step-index l.path)) ≡ size (map seen_step l.path)
