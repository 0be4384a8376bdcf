-- A certificate as far as it is written.
use Rattle.std.specs.Prelude.{ℕ, List, All, map, length}
use Rattle.wy_term.specs.Term.{Term}
use Rattle.wy_term.specs.Nodes.{Plain, tree_at}
use Rattle.wy_check_nodes.specs.Seen.{seen_branch, IsBranch}
use Rattle.wy_cert.specs.Steps.{IsBelow, written}
use Rattle.wy_prove_drafts.specs.Progress.{Progress}
use Rattle.wy_prove_drafts.specs.declared.draft.Draft.{Draft}

-- its steps name its own terms, and the numbers in its node are those of the condition's terms
pub record IsDraft (nodes : List Plain) (d : Draft) : Type 0 where
  pub steps : All (IsBelow (length d.terms)) d.steps.items
  pub branch : IsBranch nodes d.branch

-- what is written, and the node at which the next step stands, where `at` gives the condition's terms
abbrev pub seen_draft : (ℕ → Term) → Draft → Progress
seen_draft at d = record { steps = map (written (tree_at d.terms)) d.steps.items; node = seen_branch at d.branch }
