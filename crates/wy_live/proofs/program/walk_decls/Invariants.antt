use Rattle.std.proofs.Common.{◌≡◌, ◌≤◌, length, drop, map}
use Rattle.wy_core.specs.CoreSeen.{seen_decl}
use Rattle.wy_live.specs.Walks as spec
use Rattle.wy_live.proofs.program.walk_decls.Given as goal

-- what is behind has been gone through
abbrev pub invariant-loop-left : goal.invariant-loop-left
invariant-loop-left l = record {
  within : l.left ≤ length l.decls;
  value : l.marks ≡ spec.decls_walked (map seen_decl (drop l.left l.decls)) l.fn.marks;
}

abbrev pub decreases-loop-left : goal.decreases-loop-left
decreases-loop-left l = l.left
