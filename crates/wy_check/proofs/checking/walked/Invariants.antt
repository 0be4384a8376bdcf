use Rattle.std.proofs.Common.{◌≡◌, map, drop}
use Rattle.wy_term.specs.Nodes.{tree_at}
use Rattle.wy_term.specs.Condition.{condition_of}
use Rattle.wy_facts.specs.Seen.{Stays}
use Rattle.wy_cert.specs.Steps.{written, steps_of}
use Rattle.wy_vc_laws.specs.wy_check_spec.valid.Validity.{after, first_bad_by, first_bad}
use Rattle.wy_check_splits.specs.wy_check_nodes.Trail.{nodes_of, IsTrail}
use Rattle.wy_check.proofs.checking.walked.Given as goal

-- what is left to be walked through has the first bad step of the whole
abbrev pub invariant-loop-step : goal.invariant-loop-step
invariant-loop-step l = record {
  so_far : first_bad_by (after (condition_of l.fn.terms l.cond).types) l.number (nodes_of (tree_at l.terms) l.trail) (map (written (tree_at l.cert.terms)) (drop l.step-index l.cert.steps.items)) ≡ first_bad (condition_of l.fn.terms l.cond) (steps_of l.cert);
  trail : IsTrail l.terms l.trail;
  stays : Stays l.fn.terms l.terms;
}
