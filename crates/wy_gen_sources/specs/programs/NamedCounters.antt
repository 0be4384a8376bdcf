-- Each variable of a core that names give has a number of its own, as far as the law on registers asks.
use Rattle.std.specs.Prelude.{List}
use Rattle.wy_ast.specs.SurfaceTree.{Decl}
use Rattle.wy_core.specs.CoreTree.{routines_of}
use Rattle.wy_core.specs.CoreSeen.{seen_core}
use Rattle.wy_core.specs.declared.declarations.Core.{Core}
use Rattle.wy_names.specs.Named.{IsNamed}
use Rattle.wy_gen_sources.specs.code.Dead.{OwnCounters}

-- no variable of a quantifier has the number of a declared one
abbrev pub NamedCountersAreOwn : Type 0
NamedCountersAreOwn = (ds : List Decl) (core : Core) → IsNamed ds core → OwnCounters (routines_of (seen_core core))
