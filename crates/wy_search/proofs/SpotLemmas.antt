-- Nodes on a path stand for the same where the list of terms grows.
use Rattle.std.proofs.Common.{◌≡◌, ◌∙◌, ℕ, List, [], ◌∷◌, map, length, refl, sym, ap, subst}
use Rattle.wy_term.specs.Term.{Term}
use Rattle.wy_term.specs.Nodes.{Plain, tree_at}
use Rattle.wy_facts.specs.Seen.{Stays}
use Rattle.wy_facts.proofs.StepLemmas.{terms_kept, below_kept}
use Rattle.wy_search_facts.specs.wy_check_spec.judge.Node.{Literal, Node}
use Rattle.wy_check_nodes.specs.declared.branch.Branch.{Branch}
use Rattle.wy_check_nodes.specs.Seen.{seen_branch, AreBare, AreOver, IsBranch}
use Rattle.wy_check_nodes.proofs.SumsBranchLemmas.{branch_stays, node_stays}
use Rattle.wy_search_facts.specs.wy_search_spec.Expansion as expansion
use Rattle.wy_search_facts.specs.declared.spot.Spot.{Spot}
use Rattle.wy_search_facts.specs.Seen.{seen_spot, IsSpot}
use Rattle.wy_search.specs.Walks.{AreSpots}

abbrev pub made_spot : Node → List Literal → List Term → ℕ → expansion.Spot
made_spot node had names rounds = record { node = node; had = had; names = names; rounds = rounds }

pub spot_stays : (old new : List Plain) (p : Spot) → Stays old new → IsSpot old p → IsSpot new p
spot_stays old new p stays is = record {
  branch = branch_stays old new p.branch stays is.branch;
  had = branch_stays old new p.had stays is.had;
  names = below_kept old new p.names.items stays is.names;
}

pub seen_stays : (old new : List Plain) (p : Spot) → Stays old new → IsSpot old p → seen_spot (tree_at new) p ≡ seen_spot (tree_at old) p
seen_stays old new p stays is =
    let node : seen_branch (tree_at new) p.branch ≡ seen_branch (tree_at old) p.branch = node_stays old new p.branch stays is.branch in
    let had : seen_branch (tree_at new) p.had ≡ seen_branch (tree_at old) p.had = node_stays old new p.had stays is.had in
    let names : map (tree_at new) p.names.items ≡ map (tree_at old) p.names.items = terms_kept old new p.names.items stays is.names in
    ap (λ (b : Node). made_spot b (seen_branch (tree_at new) p.had).literals (map (tree_at new) p.names.items) p.rounds) node
    ∙ (ap (λ (h : Node). made_spot (seen_branch (tree_at old) p.branch) h.literals (map (tree_at new) p.names.items) p.rounds) had
    ∙ ap (λ (ns : List Term). made_spot (seen_branch (tree_at old) p.branch) (seen_branch (tree_at old) p.had).literals ns p.rounds) names)

pub spots_stay : (old new : List Plain) (ps : List Spot) → Stays old new → AreSpots old ps → map (seen_spot (tree_at new)) ps ≡ map (seen_spot (tree_at old)) ps
spots_stay old new [] stays are = refl
spots_stay old new (p ∷ ps) stays are =
    ap (λ (x : expansion.Spot). x ∷ map (seen_spot (tree_at new)) ps) (seen_stays old new p stays are.0)
    ∙ ap (λ (xs : List expansion.Spot). seen_spot (tree_at old) p ∷ xs) (spots_stay old new ps stays are.1)

pub are_spots_stay : (old new : List Plain) (ps : List Spot) → Stays old new → AreSpots old ps → AreSpots new ps
are_spots_stay old new [] stays are = tt
are_spots_stay old new (p ∷ ps) stays are = (spot_stays old new p stays are.0, are_spots_stay old new ps stays are.1)

-- a node with the same literals and pending formulas
pub same_node : (at : ℕ → Term) (b c : Branch) → c.literals.keys ≡ b.literals.keys → c.pending.keys ≡ b.pending.keys → seen_branch at c ≡ seen_branch at b
same_node at b c ls ps = rw (ls, ps) refl

-- ---- copies

pub copy_seen : (at : ℕ → Term) (p : Spot) (b h : Branch) (ns : List ℕ) → b.literals.keys ≡ p.branch.literals.keys → b.pending.keys ≡ p.branch.pending.keys → h.literals.keys ≡ p.had.literals.keys → h.pending.keys ≡ p.had.pending.keys → ns ≡ p.names.items → made_spot (seen_branch at b) (seen_branch at h).literals (map at ns) p.rounds ≡ seen_spot at p
copy_seen at p b h ns bl bp hl hp same =
    ap (λ (n : Node). made_spot n (seen_branch at h).literals (map at ns) p.rounds) (same_node at p.branch b bl bp)
    ∙ (ap (λ (n : Node). made_spot (seen_branch at p.branch) n.literals (map at ns) p.rounds) (same_node at p.had h hl hp)
    ∙ ap (λ (ks : List ℕ). made_spot (seen_branch at p.branch) (seen_branch at p.had).literals (map at ks) p.rounds) same)

pub copy_over : (nodes : List Plain) (b c : Branch) → c.literals.keys ≡ b.literals.keys → c.pending.keys ≡ b.pending.keys → IsBranch nodes b → IsBranch nodes c
copy_over nodes b c ls ps is = record {
  literals = subst (AreOver (length nodes)) (sym ls) is.literals;
  pending = subst (AreOver (length nodes)) (sym ps) is.pending;
  bare = subst (AreBare (tree_at nodes)) (sym ps) is.bare;
}

-- ---- the condition's types
