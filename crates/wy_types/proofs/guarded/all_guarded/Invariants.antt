use Rattle.std.proofs.Common.{◌≡◌, drop, map}
use Rattle.wy_types.specs.Names.{seen_declared}
use Rattle.wy_types.specs.Recursion as recursion
use Rattle.wy_types.proofs.guarded.all_guarded.Given as goal

abbrev pub invariant-loop-one : goal.invariant-loop-one
invariant-loop-one l = recursion.are_guarded (map seen_declared (drop l.one-index l.declared)) ≡ recursion.are_guarded (map seen_declared l.declared)
