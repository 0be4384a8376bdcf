use Rattle.std.proofs.Common.{◌≡◌, None, drop, map}
use Rattle.wy_core.specs.CoreSeen.{seen_decl}
use Rattle.wy_assign.specs.Faults.{core_faults, core_open}
use Rattle.wy_assign.proofs.program.least_places.Given as goal

-- what is left completes what is found
abbrev pub invariant-loop-decl : goal.invariant-loop-decl
invariant-loop-decl l = record {
  uses : core_faults (map seen_decl (drop l.decl-index l.decls)) l.places.uses ≡ core_faults (map seen_decl l.decls) None;
  ends : core_open (map seen_decl (drop l.decl-index l.decls)) l.places.ends ≡ core_open (map seen_decl l.decls) None;
}
