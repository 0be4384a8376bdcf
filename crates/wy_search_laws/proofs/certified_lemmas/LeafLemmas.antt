-- Steps close what the search closes by its classes or by elimination.
use Rattle.std.proofs.Common.{◌≡◌, ◌⊎◌, List, [], ◌∷◌, inl, inr}
use Rattle.wy_search_bounds.specs.wy_term.Term.{Term, Of}
use Rattle.wy_search_bounds.specs.wy_term.Folding.{folded}
use Rattle.wy_search_bounds.specs.wy_term.Condition.{Entry}
use Rattle.wy_search_bounds.specs.wy_term_text.reread.Folded.{IsFolded}
use Rattle.wy_search_bounds.specs.wy_check_spec.judge.Node.{Literal, Node}
use Rattle.wy_search_laws.specs.chains.Chains.{AreFolded, AreLiterals, HasLiterals, HasSteps}
use Rattle.wy_search_laws.proofs.chains_lemmas.ClashLemmas.{clashing_nodes_close}
use Rattle.wy_search_laws.proofs.sums_lemmas.RefutedLemmas.{refuted_nodes_close}
use Rattle.wy_search_laws.specs.rounds.Leaves.{AreSortedAtoms, AreFoldedAtoms, IsSortedThroughout, IsFoldedThroughout, IsLeaf, LeavesClose, FoundIsCertified}
use Rattle.wy_search_laws.proofs.rounds_lemmas.SearchLemmas.{found_certified}

pub sorted_literals : (ls : List Literal) → AreSortedAtoms ls → AreLiterals ls
sorted_literals [] h = tt
sorted_literals (l ∷ ls) h = (h.0, sorted_literals ls h.1)

folded_is : (t : Term) → IsFolded t → folded t ≡ t
folded_is (Of symbol ps) h = h.0

pub folded_literals : (ls : List Literal) → AreFoldedAtoms ls → AreFolded ls
folded_literals [] h = tt
folded_literals (l ∷ ls) h = (folded_is l.atom h.0, folded_literals ls h.1)

leaf_closes : (types : List Entry) (base node : Node) → IsSortedThroughout base → IsFoldedThroughout base → IsLeaf base → HasLiterals base node → HasSteps types node
leaf_closes types base node sorted plain (inl e) more = clashing_nodes_close types base node (sorted_literals base.literals sorted.0) sorted.1 (folded_literals base.literals plain.0) e more
leaf_closes types base node sorted plain (inr e) more = refuted_nodes_close types base node (sorted_literals base.literals sorted.0) sorted.1 e more

leaves_close : LeavesClose
leaves_close types base sorted plain leaf node above at_least =
    let h = leaf_closes types base node sorted plain leaf (record { has = at_least.literals }) in
    (h.steps, h.closes, h.sorted)

pub found_conditions_are_certified : FoundIsCertified
found_conditions_are_certified = found_certified leaves_close
