-- A node stands for the same where the list of terms grows.
use Rattle.std.proofs.Common.{◌≡◌, ◌≤◌, ℕ, List, [], ◌∷◌, map, length, Bool, refl, ap, ◌∙◌, arith}
use Rattle.wy_check_spec.specs.wy_term.Nodes.{Plain, tree_at}
use Rattle.wy_check_spec.specs.wy_facts.Seen.{Stays}
use Rattle.wy_check_nodes.specs.declared.branch.Branch.{Branch}
use Rattle.wy_check_nodes.specs.Seen.{seen_literal, seen_formula, is_denied, AreOver, AreBare, IsBranch, seen_branch}

over_up : (m n : ℕ) (ps : List (ℕ × Bool)) → m ≤ n → AreOver m ps → AreOver n ps
over_up m n [] le over = tt
over_up m n (p ∷ ps) le over = (omega (arith, le, over.0), over_up m n ps le over.1)

bare_kept : (old new : List Plain) (ps : List (ℕ × Bool)) → Stays old new → AreOver (length old) ps → AreBare (tree_at old) ps → AreBare (tree_at new) ps
bare_kept old new [] stays over bare = tt
bare_kept old new (p ∷ ps) stays over bare = ((λ e. ap is_denied (stays.trees p.0 over.0) ∙ bare.0 e), bare_kept old new ps stays over.1 bare.1)

pub literals_kept : (old new : List Plain) (ps : List (ℕ × Bool)) → Stays old new → AreOver (length old) ps → map (seen_literal (tree_at new)) ps ≡ map (seen_literal (tree_at old)) ps
literals_kept old new [] stays over = refl
literals_kept old new (p ∷ ps) stays over = rw (stays.trees p.0 over.0, literals_kept old new ps stays over.1) refl

pub formulas_kept : (old new : List Plain) (ps : List (ℕ × Bool)) → Stays old new → AreOver (length old) ps → map (seen_formula (tree_at new)) ps ≡ map (seen_formula (tree_at old)) ps
formulas_kept old new [] stays over = refl
formulas_kept old new (p ∷ ps) stays over = rw (stays.trees p.0 over.0, formulas_kept old new ps stays over.1) refl

pub branch_stays : (old new : List Plain) (b : Branch) → Stays old new → IsBranch old b → IsBranch new b
branch_stays old new b stays is = record {
  literals = over_up (length old) (length new) b.literals.keys stays.grows is.literals;
  pending = over_up (length old) (length new) b.pending.keys stays.grows is.pending;
  bare = bare_kept old new b.pending.keys stays is.pending is.bare;
}

pub node_stays : (old new : List Plain) (b : Branch) → Stays old new → IsBranch old b → seen_branch (tree_at new) b ≡ seen_branch (tree_at old) b
node_stays old new b stays is = rw (literals_kept old new b.literals.keys stays is.literals, formulas_kept old new b.pending.keys stays is.pending) refl
