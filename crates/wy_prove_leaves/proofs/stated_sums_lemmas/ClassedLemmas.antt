-- The classes of a node, as terms are added.
use Rattle.std.proofs.Common.{◌∙◌, List}
use Rattle.wy_term.specs.Nodes.{Plain}
use Rattle.wy_facts.specs.Seen.{Stays}
use Rattle.wy_prove_drafts.specs.wy_check_spec.judge.Node.{Node}
use Rattle.wy_prove_drafts.proofs.wy_search_bounds_proofs.GatherLemmas.{present_stays, terms_stay}
use Rattle.wy_prove_leaves.specs.declared.stated_sums.classed.Classed.{Classed}
use Rattle.wy_prove_leaves.specs.stated_sums.Classed.{IsClassed}

pub classed_stays : (old new : List Plain) (base : Node) (c : Classed) → Stays old new → IsClassed old base c → IsClassed new base c
classed_stays old new base c stays h = record {
  over = present_stays old new c.present stays h.over;
  present = terms_stay old new c.present stays h.over ∙ h.present;
  labels = h.labels;
}
