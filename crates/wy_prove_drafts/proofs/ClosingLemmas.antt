-- Steps that close a node: one is written where it is valid, and nothing is changed where it isn't.
use Rattle.std.proofs.Common.{◌≡◌, ℕ, Bool, true, false, List, Option, sym, ap, ◌∙◌}
use Rattle.wy_facts.specs.Schema.{only_if}
use Rattle.wy_term.specs.Condition.{Entry}
use Rattle.wy_term.specs.Nodes.{Plain, tree_at}
use Rattle.wy_facts.specs.Seen.{Stays}
use Rattle.wy_search_laws.specs.wy_check_spec.judge.Node.{Node}
use Rattle.wy_cert.specs.Steps.{Written, sum_of}
use Rattle.wy_search_laws.specs.wy_check_spec.valid.Sums.{summed, is_refuting}
use Rattle.wy_search_laws.specs.wy_check_spec.valid.Validity.{closed, after}
use Rattle.wy_search_laws.proofs.wy_check_proofs.StepLemmas.{sum_led}
use Rattle.wy_prove_drafts.specs.declared.draft.Draft.{Draft}
use Rattle.wy_prove_drafts.specs.Progress.{Progress, Closes}
use Rattle.wy_prove_drafts.specs.Adding.{with_step}
use Rattle.wy_prove_drafts.specs.Draft.{IsDraft, seen_draft}
use Rattle.wy_prove_drafts.proofs.DraftLemmas.{seen_draft_stays}

abbrev led : Bool → Option (List Node)
led holds = only_if holds closed

closed_yes : (types : List Entry) (s : Written) (a b : Progress) (holds : Bool) → only_if holds closed ≡ after types a.node s → holds ≡ true → b ≡ with_step a s → Closes types s a b true
closed_yes types s a b holds e is same = (sym e ∙ ap led is, same)

closed_no : (types : List Entry) (s : Written) (a b : Progress) (holds : Bool) → only_if holds closed ≡ after types a.node s → holds ≡ false → b ≡ a → Closes types s a b false
closed_no types s a b holds e is same = (sym e ∙ ap led is, same)

-- ---- a sum, by whose test the list of terms grew

module _ (types : List Entry) (old new : List Plain) (d : Draft) (ps pairs : List (ℕ × ℕ)) (holds : Bool) (stays : Stays old new) (is : IsDraft old d) (same : ps ≡ pairs) (tested : holds ≡ is_refuting (summed (seen_draft (tree_at old) d).node.literals ps)) where
  leads : only_if holds closed ≡ after types (seen_draft (tree_at old) d).node (sum_of pairs)
  leads =
      let node = (seen_draft (tree_at old) d).node in
      sum_led types node pairs holds (tested ∙ ap (λ (xs : List (ℕ × ℕ)). is_refuting (summed node.literals xs)) same)

  pub sum_closes : (e : Draft) → holds ≡ true → seen_draft (tree_at new) e ≡ with_step (seen_draft (tree_at new) d) (sum_of pairs) → Closes types (sum_of pairs) (seen_draft (tree_at old) d) (seen_draft (tree_at new) e) true
  sum_closes e up put =
      closed_yes types (sum_of pairs) (seen_draft (tree_at old) d) (seen_draft (tree_at new) e) holds leads up
      (put ∙ ap (λ (p : Progress). with_step p (sum_of pairs)) (seen_draft_stays old new d stays is))

  pub sum_fails : holds ≡ false → Closes types (sum_of pairs) (seen_draft (tree_at old) d) (seen_draft (tree_at new) d) false
  sum_fails down = closed_no types (sum_of pairs) (seen_draft (tree_at old) d) (seen_draft (tree_at new) d) holds leads down (seen_draft_stays old new d stays is)
