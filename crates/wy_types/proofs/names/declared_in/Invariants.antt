use Rattle.std.proofs.Common.{◌≡◌, ◌++◌, drop, map}
use Rattle.wy_core.specs.CoreSeen.{seen_decl}
use Rattle.wy_types.specs.Names.{names_in, seen_declared}
use Rattle.wy_types.proofs.names.declared_in.Given as goal

-- what is left completes what is made
abbrev pub invariant-loop-decl : goal.invariant-loop-decl
invariant-loop-decl l = (map seen_declared l.made ++ names_in (map seen_decl (drop l.decl-index l.decls))) ≡ names_in (map seen_decl l.decls)
