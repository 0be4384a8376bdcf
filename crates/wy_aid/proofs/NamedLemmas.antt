-- The types of a core that name resolution gives recur through records and arrays.
use Rattle.std.proofs.Common.{◌≡◌, List}
use Rattle.wy_ast.specs.SurfaceTree.{Decl}
use Rattle.wy_core.specs.CoreSeen.{seen_core}
use Rattle.wy_core.specs.declared.declarations.Core.{Core}
use Rattle.wy_flow.proofs.wy_types_proofs.formed_lemmas.OrderLemmas.{ordered_types}
use Rattle.wy_flow.specs.wy_types.Names.{names_in}
use Rattle.wy_flow.specs.wy_types.Recursion.{RecurThroughParts}
use Rattle.wy_names.proofs.resolved_lemmas.ResolvedCoreLemmas.{named_bound}
use Rattle.wy_names.proofs.resolved_lemmas.RecursionLemmas.{named_recurs_well}
use Rattle.wy_names.specs.Named.{IsNamed}

pub recurs : (ds : List Decl) (core : Core) → IsNamed ds core → RecurThroughParts (names_in (seen_core core))
recurs ds core h = ordered_types (seen_core core) (named_bound ds core h) (named_recurs_well ds core h)
