use Rattle.std.proofs.Common.{◌≡◌, map, length, drop}
use Rattle.wy_check_spec.specs.wy_term.Nodes.{tree_at}
use Rattle.wy_check_spec.specs.wy_facts.Seen.{Stays}
use Rattle.wy_check_nodes.specs.Seen.{seen_branch}
use Rattle.wy_check_spec.specs.wy_lin.Seen.{seen_form}
use Rattle.wy_check_nodes.specs.Gathered.{prefixed, gathered}
use Rattle.wy_check_nodes.proofs.FormLemmas.{AreForms}
use Rattle.wy_check_nodes.proofs.summed.gathered.Given as goal

-- the forms so far, and those of what is left, are all
abbrev pub invariant-loop-m : goal.invariant-loop-m
invariant-loop-m l = record {
  so_far : prefixed (map (seen_form (tree_at l.terms)) l.forms.items) (gathered (seen_branch (tree_at l.fn.terms) l.branch).literals (drop l.m-index l.pairs)) ≡ gathered (seen_branch (tree_at l.fn.terms) l.branch).literals l.pairs;
  over : AreForms (length l.terms) l.forms.items;
  stays : Stays l.fn.terms l.terms;
}
