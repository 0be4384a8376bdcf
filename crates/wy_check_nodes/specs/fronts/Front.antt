-- What a front's node is made of.
use Rattle.std.specs.Prelude.{◌≡◌, ℕ, List, [], ◌∷◌, Bool, length, map, take}
use Rattle.wy_check_nodes.specs.declared.fronts.front.Front.{Front}
use Rattle.wy_check_nodes.specs.declared.fronts.front.Size.{Size}
use Rattle.wy_check_spec.specs.judge.Node.{Node, bare, with_formulas}
use Rattle.wy_check_nodes.specs.Seen.{seen_formula, seen_literal, AreBelow, IsBranch}
use Rattle.wy_check_spec.specs.wy_term.Nodes.{Plain, tree_at}
use Rattle.wy_check_spec.specs.wy_term.Term.{Term}

-- the node of these literals and pending formulas
abbrev pub node_of : (ℕ → Term) → List (ℕ × Bool) → List (ℕ × Bool) → Node
node_of at ls ps = record { literals = map (seen_literal at) ls; pending = map (seen_formula at) ps }

-- the hypotheses make the node, one after the other; and what it was at the first of the sizes, they make without the last of them, and so on
abbrev pub AreMade : (ℕ → Term) → List (ℕ × Bool) → List (ℕ × Bool) → List ℕ → List Size → Type 0
AreMade at ls ps hs [] = node_of at ls ps ≡ with_formulas bare (map at hs)
AreMade at ls ps hs (s ∷ ss) = (node_of at ls ps ≡ with_formulas bare (map at hs)) × AreMade at (take s.literals ls) (take s.pending ps) (take (length ss) hs) ss

-- the hypotheses make the node, and each without those behind it the node of its size
pub record IsFront (nodes : List Plain) (f : Front) : Type 0 where
  pub branch : IsBranch nodes f.branch
  pub hyps : AreBelow (length nodes) f.hyps.items
  pub count : length f.hyps.items ≡ length f.sizes.items
  pub made : AreMade (tree_at nodes) f.branch.literals.keys f.branch.pending.keys f.hyps.items f.sizes.items

-- the node is larger than this, and so large the hypotheses make it
pub record IsFirst (nodes : List Plain) (size : Size) (f : Front) : Type 0 where
  pub branch : IsBranch nodes f.branch
  pub hyps : AreBelow (length nodes) f.hyps.items
  pub count : length f.hyps.items ≡ length f.sizes.items
  pub made : AreMade (tree_at nodes) (take size.literals f.branch.literals.keys) (take size.pending f.branch.pending.keys) f.hyps.items f.sizes.items
