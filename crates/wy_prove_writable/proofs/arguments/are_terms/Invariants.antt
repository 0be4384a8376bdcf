use Rattle.std.proofs.Common.{◌↔◌, drop, map}
use Rattle.wy_term.specs.Nodes.{tree_at}
use Rattle.wy_check_laws.specs.reread.Writable.{AreWritableTerms}
use Rattle.wy_prove_writable.proofs.arguments.are_terms.Given as goal

-- all can be written exactly where those can that are left
abbrev pub invariant-loop-term : goal.invariant-loop-term
invariant-loop-term l = AreWritableTerms (map (tree_at l.terms) (drop l.term-index l.all)) ↔ AreWritableTerms (map (tree_at l.terms) l.all)
