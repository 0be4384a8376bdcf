-- A condition with a valid certificate is true.
use Rattle.std.proofs.Common.{◌≡◌, ℕ, ◌+◌, List, [], ◌∷◌, ◌++◌, Option, Some, None, refl}
use Rattle.wy_lemmas.proofs.Choices.{true_of as not_false}
use Rattle.wy_check_spec.specs.wy_term.Meaning.{sense}
use Rattle.wy_check_spec.specs.wy_term.Condition.{Entry}
use Rattle.wy_check_spec.specs.wy_term.Unfolding.{AreClosed}
use Rattle.wy_check_spec.specs.judge.Node.{Node, first_node}
use Rattle.wy_check_spec.proofs.judge_lemmas.TruthLemmas.{begins_truly}
use Rattle.wy_check_spec.specs.wy_cert.Steps.{Written}
use Rattle.wy_check_spec.specs.valid.Validity.{after, or_bad, first_bad_by}
use Rattle.wy_check_laws.specs.sound.Sortedness.{AreSortedEntries, AreSortedSteps}
use Rattle.wy_check_laws.specs.sound.Soundness.{ValidImpliesTrue}
use Rattle.wy_check_laws.proofs.sound_lemmas.NodeLemmas.{AreSortedNodes, first_sorted}
use Rattle.wy_check_laws.proofs.sound_lemmas.StepLemmas.{AllFalse, step_leads}

front_false : (types : List Entry) (ns ms : List Node) → AllFalse types (ns ++ ms) → AllFalse types ns
front_false types [] ms f = tt
front_false types (n ∷ ns) ms f = (f.0, front_false types ns ms f.1)

back_false : (types : List Entry) (ns ms : List Node) → AllFalse types (ns ++ ms) → AllFalse types ms
back_false types [] ms f = f
back_false types (n ∷ ns) ms f = back_false types ns ms f.1

both_sorted : (ns ms : List Node) → AreSortedNodes ns → AreSortedNodes ms → AreSortedNodes (ns ++ ms)
both_sorted [] ms f g = g
both_sorted (n ∷ ns) ms f g = (f.0, both_sorted ns ms f.1 g)

module _ (types : List Entry) (are_closed : AreClosed types) (entries : AreSortedEntries types) where
  -- no node that is closed by valid steps is true
  all_false : (k : ℕ) (nodes : List Node) (steps : List Written) → AreSortedNodes nodes → AreSortedSteps steps → first_bad_by (after types) k nodes steps ≡ None → AllFalse types nodes
  all_false k [] [] h g e = tt
  all_false k [] (s ∷ steps) h g e = absurd cc
  all_false k (node ∷ nodes) [] h g e = absurd cc
  all_false k (node ∷ nodes) (s ∷ steps) h g e = by (after types node s) refl e (λ below sorted. all_false (k + 1) (below ++ nodes) steps sorted g.1)
    where
      by : (o : Option (List Node)) → after types node s ≡ o → or_bad k o (λ below. first_bad_by (after types) (k + 1) (below ++ nodes) steps) ≡ None → ((below : List Node) → AreSortedNodes (below ++ nodes) → first_bad_by (after types) (k + 1) (below ++ nodes) steps ≡ None → AllFalse types (below ++ nodes)) → AllFalse types (node ∷ nodes)
      by None is e rest = absurd cc
      by (Some below) is e rest =
          let leads = step_leads types node s below are_closed entries h.0 g.0 is in
          let all = rest below (both_sorted below nodes leads.sorted h.1) e in
          (leads.refuted (front_false types below nodes all), back_false types below nodes all)

pub valid_implies_true : ValidImpliesTrue
valid_implies_true c steps sorted are_closed terms valid names real hyps =
    let never = all_false c.types are_closed sorted.types 1 (first_node c ∷ []) steps (first_sorted c sorted, tt) terms valid in
    not_false (sense names c.goal).truth (λ untrue. never.0 names real (begins_truly names c hyps untrue))
