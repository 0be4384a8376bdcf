-- Nodes that steps of a certificate close.
use Rattle.std.proofs.Common.{◌≡◌, List, [], ◌∷◌, ◌++◌, Some, refl}
use Rattle.wy_search_bounds.specs.wy_term.Term.{Term}
use Rattle.wy_search_bounds.specs.wy_term.Condition.{Entry, Condition}
use Rattle.wy_search_bounds.specs.wy_check_spec.judge.Node.{Literal, Node, first_node}
use Rattle.wy_search_bounds.specs.wy_term_text.reread.Folded.{IsFolded}
use Rattle.wy_search_bounds.specs.wy_cert.Steps.{Written}
use Rattle.wy_search_bounds.specs.wy_check_spec.valid.Validity.{after, closed, IsValid}
use Rattle.wy_search_bounds.specs.wy_check_spec.valid.Trees.{Tree, stem, no_trees, tree, steps_in, Closes}
use Rattle.wy_search_bounds.proofs.wy_check_spec_proofs.valid_lemmas.TreeLemmas.{valid_is_a_tree}
use Rattle.wy_search_bounds.specs.wy_check_laws.sound.Sortedness.{IsSortedStep, AreSortedSteps}
use Rattle.wy_search_bounds.proofs.wy_check_laws_proofs.sound_lemmas.NodeLemmas.{IsSortedNode, AreSortedNodes}
use Rattle.wy_search_laws.specs.closing.AtLeast.{IsNear}

-- ---- nodes that are closed

-- a tree of steps closes the node; its terms have sorted parts, and it splits on formulas
pub record CanClose (types : List Entry) (node : Node) : Type 0 where
  pub steps : Tree
  pub closes : Closes types steps node
  pub sorted : AreSortedSteps (steps_in steps)

-- each sorted node that has at least as much, and no other names, can be closed
abbrev pub IsClosableNear : List Entry → Node → Type 0
IsClosableNear types node = (more : Node) → IsSortedNode more → IsNear node more → CanClose types more

-- ---- nodes of folded formulas

abbrev pub AreFoldedLiterals : List Literal → Type 0
AreFoldedLiterals [] = Unit {0}
AreFoldedLiterals (l ∷ ls) = IsFolded l.atom × AreFoldedLiterals ls

abbrev pub AreFoldedTerms : List Term → Type 0
AreFoldedTerms [] = Unit {0}
AreFoldedTerms (f ∷ fs) = IsFolded f × AreFoldedTerms fs

pub record IsFoldedNode (node : Node) : Type 0 where
  pub literals : AreFoldedLiterals node.literals
  pub pending : AreFoldedTerms node.pending

-- ---- where steps lead

-- a valid step with sorted terms leads from a node of sorted formulas to such nodes
abbrev pub LeadsOn : List Entry → Type 0
LeadsOn types = (node : Node) (s : Written) (below : List Node) → IsSortedNode node → IsSortedStep s → after types node s ≡ Some below → AreSortedNodes below

-- ---- composition

pub sorted_both : (a b : List Written) → AreSortedSteps a → AreSortedSteps b → AreSortedSteps (a ++ b)
sorted_both [] b h g = g
sorted_both (s ∷ a) b h g = (h.0, sorted_both a b h.1 g)

module _ (types : List Entry) where
  -- a last step
  pub closed_by : (node : Node) (s : Written) → after types node s ≡ closed → IsSortedStep s → CanClose types node
  closed_by node s e h = record { steps = stem s no_trees; closes = ([], e, tt); sorted = (h, tt) }

  -- a step that leads to one node, which is closed
  pub led_by : (node below : Node) (s : Written) → after types node s ≡ Some (below ∷ []) → IsSortedStep s → CanClose types below → CanClose types node
  led_by node below s e h c = record {
    steps = stem s (tree c.steps no_trees);
    closes = (below ∷ [], e, (c.closes, tt));
    sorted = (h, sorted_both (steps_in c.steps) [] c.sorted tt);
  }

  -- a step that leads to two nodes, which are closed
  pub split_by : (node left right : Node) (s : Written) → after types node s ≡ Some (left ∷ right ∷ []) → IsSortedStep s → CanClose types left → CanClose types right → CanClose types node
  split_by node left right s e h l r = record {
    steps = stem s (tree l.steps (tree r.steps no_trees));
    closes = (left ∷ right ∷ [], e, (l.closes, (r.closes, tt)));
    sorted = (h, sorted_both (steps_in l.steps) (steps_in r.steps ++ []) l.sorted (sorted_both (steps_in r.steps) [] r.sorted tt));
  }

-- a condition whose first node can be closed has a valid certificate
pub certificate : (c : Condition) → CanClose c.types (first_node c) → (steps : List Written) × IsValid c steps × AreSortedSteps steps
certificate c h = (steps_in h.steps, (valid_is_a_tree c (steps_in h.steps)).1 (record { whole = h.steps; spelled = refl; closes = h.closes }), h.sorted)
