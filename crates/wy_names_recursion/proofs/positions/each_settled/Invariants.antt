use Rattle.std.proofs.Common.{◌≡◌, ◌<◌, ℕ, true, map}
use Rattle.wy_ast.specs.SurfaceSeen.{seen_decl}
use Rattle.wy_names_recursion.specs.Endings.{is_settled}
use Rattle.wy_names_recursion.proofs.positions.each_settled.Given as goal

abbrev pub invariant-loop-index : goal.invariant-loop-index
invariant-loop-index l = (p : ℕ) → p < l.index → is_settled (map seen_decl l.decls) l.edges l.candidate.order l.candidate.positions l.candidate.witnesses p ≡ true
