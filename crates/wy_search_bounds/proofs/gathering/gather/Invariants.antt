use Rattle.std.proofs.Common.{take}
use Rattle.wy_cong.specs.wy_facts.Seen.{Stays}
use Rattle.wy_cong.specs.wy_check_nodes.Seen.{seen_branch}
use Rattle.wy_cong.specs.wy_search_spec.Bounds.{replaced_forms}
use Rattle.wy_term.specs.Nodes.{tree_at}
use Rattle.wy_cong.specs.Seen.{terms_of}
use Rattle.wy_search_bounds.specs.Gathered.{Gathers}
use Rattle.wy_search_bounds.specs.Known.{AreKnown}
use Rattle.wy_search_bounds.proofs.gathering.gather.Given as goal

-- those of the literals so far are gathered
abbrev pub invariant-loop-i : goal.invariant-loop-i
invariant-loop-i l = record {
  gathers : Gathers l.gathered (replaced_forms (terms_of (tree_at l.fn.terms) l.present) l.labels (take l.i (seen_branch (tree_at l.fn.terms) l.branch).literals));
  known : AreKnown l.terms l.known;
  stays : Stays l.fn.terms l.terms;
}
