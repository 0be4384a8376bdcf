-- Nothing dead is kept in the code of a program with names.
use Rattle.std.specs.Prelude.{◌<◌, List, length}
use Rattle.wy_ast.specs.SurfaceTree.{Decl}
use Rattle.wy_core.specs.CoreSeen.{seen_core}
use Rattle.wy_core.specs.declared.declarations.Core.{Core}
use Rattle.wy_names.specs.Named.{IsNamed}
use Rattle.wy_names.specs.resolved.SourceLiterals.{SourceInts}
use Rattle.wy_names.specs.resolved.SourceClauses.{HaveClauses}
use Rattle.wy_gen_sources.specs.named_programs.NamedPrograms.{SourcesName}
use Rattle.wy_gen_sources.specs.code.Dead.{RunsKeep}

-- what is so of each program that is read from a text: it has fewer than 2^32 declarations, its numbers are `int`s, each property has a clause, and each type with clauses has a variable
pub record IsSource (ds : List Decl) : Type 0 where
  pub few : length ds < 4294967296
  pub ints : SourceInts ds
  pub clauses : HaveClauses ds
  pub names : SourcesName ds

abbrev pub NamedKeepNothingDead : Type 0
NamedKeepNothingDead = (ds : List Decl) (core : Core) → IsSource ds → IsNamed ds core → RunsKeep (seen_core core)
