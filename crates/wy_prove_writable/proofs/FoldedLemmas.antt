-- Terms that are made once more in another list.
use Rattle.std.proofs.Common.{◌≡◌, ◌∙◌, ◌↔◌, ◌<◌, ℕ, List, [], ◌∷◌, All, true, length, ap, refl, sym, arith}
use Rattle.std.proofs.lemmas.List.Elements.{All-head, All-tail}
use Rattle.wy_term.specs.Term.{Term}
use Rattle.wy_term.specs.Nodes.{HasPartsBelow, Plain, grown, parts_at, plain, tree_at}
use Rattle.wy_term.specs.declared.node.Node.{Node}
use Rattle.wy_term.specs.contracts.node.NodePartialEq.TheImpl.{eq-value}
use Rattle.wy_term.proofs.NodesLemmas.{grown-same, made_same, of_same, part_same}
use Rattle.wy_term.proofs.NodeEqLemmas.{nodes_are, nodes_compare}

-- ---- one number for each tree

abbrev HasOneNumber : (ℕ → Term) → ℕ → Type 0
HasOneNumber at bound = (s t : ℕ) → s < bound → t < bound → (s ≡ t) ↔ (at s ≡ at t)

parts_one : (at : ℕ → Term) (bound : ℕ) → HasOneNumber at bound → (ks js : List ℕ) → All (λ k. k < bound) ks → All (λ k. k < bound) js → parts_at at ks ≡ parts_at at js → ks ≡ js
parts_one at bound one [] [] in_ks in_js e = refl
parts_one at bound one [] (j ∷ js) in_ks in_js e = absurd cc
parts_one at bound one (k ∷ ks) [] in_ks in_js e = absurd cc
parts_one at bound one (k ∷ ks) (j ∷ js) in_ks in_js e =
    let same = part_same (at k) (at j) (parts_at at ks) (parts_at at js) e in
    let first : k ≡ j = (one k j (All-head (λ (i : ℕ). i < bound) k ks in_ks) (All-head (λ (i : ℕ). i < bound) j js in_js)).1 same.0 in
    let rest : ks ≡ js = parts_one at bound one ks js (All-tail (λ (i : ℕ). i < bound) k ks in_ks) (All-tail (λ (i : ℕ). i < bound) j js in_js) same.1 in
    rw (first, rest) refl

plain_one : (at : ℕ → Term) (bound : ℕ) (p q : Plain) → HasOneNumber at bound → HasPartsBelow bound p → HasPartsBelow bound q → grown at p ≡ grown at q → p ≡ q
plain_one at bound p q one in_p in_q e =
    let same = of_same p.symbol q.symbol (parts_at at p.parts) (parts_at at q.parts) e in
    made_same p.symbol q.symbol p.parts q.parts same.0 (parts_one at bound one p.parts q.parts in_p in_q same.1)

smaller : (bound s : ℕ) (p : Plain) → s < bound → HasPartsBelow s p → HasPartsBelow bound p
smaller bound s p lt below j d inside = let at = below j d inside in omega (arith, at)

-- ---- the node of a number compares as equal with a node exactly where the number's term is the node's

pub tree_of_same : (nodes : List Plain) (t : ℕ) (a b : Node) → tree_at nodes t ≡ grown (tree_at nodes) (plain a) → eq-value.it a b ≡ true → tree_at nodes t ≡ grown (tree_at nodes) (plain b)
tree_of_same nodes t a b tree equal = tree ∙ ap (grown (tree_at nodes)) (nodes_are a b equal)

pub same_of_tree : (nodes : List Plain) (t : ℕ) (a b : Node) → HasOneNumber (tree_at nodes) (length nodes) → t < length nodes → tree_at nodes t ≡ grown (tree_at nodes) (plain a) → HasPartsBelow t (plain a) → HasPartsBelow (length nodes) (plain b) → tree_at nodes t ≡ grown (tree_at nodes) (plain b) → eq-value.it a b ≡ true
same_of_tree nodes t a b one lt tree below inside same =
    nodes_compare a b (plain_one (tree_at nodes) (length nodes) (plain a) (plain b) one (smaller (length nodes) t (plain a) lt below) inside (sym tree ∙ same))

-- ---- the same node in a list that has grown

pub made_there : (old new : List Plain) (p q r : Plain) → p ≡ r → q ≡ r → HasPartsBelow (length old) r → ((k : ℕ) → k < length old → tree_at new k ≡ tree_at old k) → grown (tree_at old) p ≡ grown (tree_at new) q
made_there old new p q r is_p is_q below kept = ap (grown (tree_at old)) is_p ∙ (sym (grown-same (tree_at new) (tree_at old) (length old) r below kept) ∙ ap (grown (tree_at new)) (sym is_q))
