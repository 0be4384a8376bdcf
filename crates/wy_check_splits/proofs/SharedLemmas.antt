-- What the crates above prove of these words, each once.
use Rattle.std.proofs.Common.{◌≡◌, ℕ, Bool, List, length, Some, ap, ◌<◌, arith}
use Rattle.std.specs.Prelude.{slice_get}
use Rattle.wy_check_nodes.specs.wy_facts.Seen.{Stays}
use Rattle.wy_check_nodes.specs.Seen.{seen_formula, signed, AreOver}
use Rattle.wy_check_splits.proofs.WalkLemmas.{member_below}
use Rattle.wy_check_nodes.specs.wy_term.Nodes.{Plain, tree_at}
use Rattle.wy_check_nodes.specs.wy_term.Term.{Term}

pub formula_kept : (old now : List Plain) (ps : List (ℕ × Bool)) (i : ℕ) (p : ℕ × Bool) → Stays old now → AreOver (length old) ps → slice_get ps i ≡ Some p → seen_formula (tree_at now) p ≡ seen_formula (tree_at old) p
formula_kept old now ps i p stays over here = ap (λ (t : Term). signed t p.1) (stays.trees p.0 (member_below (length old) ps i p here over))

pub within_now : (old now : List Plain) (ps : List (ℕ × Bool)) (i : ℕ) (p : ℕ × Bool) → Stays old now → AreOver (length old) ps → slice_get ps i ≡ Some p → p.0 < length now
within_now old now ps i p stays over here = let lt : p.0 < length old = member_below (length old) ps i p here over in omega (arith, lt, stays.grows)
