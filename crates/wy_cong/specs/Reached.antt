-- What the code's list of formulas that one literal more can refute stands for.
use Rattle.std.specs.Prelude.{◌≡◌, ◌<◌, ◌≤◌, ◌⊎◌, ◌&&◌, ◌||◌, ℕ, Bool, true, false, List, [], ◌∷◌, Some, slice_get, if◌then◌else◌}
use Rattle.wy_cong.specs.Once.{undecided}
use Rattle.wy_cong.specs.Unmet.{with_one, IsFree}
use Rattle.wy_cong.specs.declared.unmet.Reached.{Reached}
use Rattle.wy_search_spec.specs.wy_check_spec.judge.Judgement.{judged}
use Rattle.wy_search_spec.specs.wy_check_spec.judge.Node.{Literal, Node, has_formula}
use Rattle.wy_check_splits.specs.wy_check_nodes.Seen.{seen_formula}
use Rattle.wy_term.specs.Same.{same_term}
use Rattle.wy_term.specs.Term.{Term}
use Rattle.wy_search_spec.specs.wy_check_spec.valid.Literals.{any_no, is_no}

-- the formula, or its denial
abbrev pub seen_unmet : (ℕ → Term) → Reached → Term
seen_unmet at u = seen_formula at (u.formula, u.holds)

-- ---- with one literal more

-- one of these formulas is judged no, beside which the literal's atom stands
abbrev pub refuted_by : (ℕ → Term) → List Literal → List Reached → Term → Bool → Bool
refuted_by at ls [] a holds = false
refuted_by at ls (u ∷ us) a holds = (same_term (at u.by) a && is_no (judged (with_one ls a holds) (seen_unmet at u))) || refuted_by at ls us a holds

-- one is so exactly where a pending formula of the node is judged no
abbrev pub AreEnough : (ℕ → Term) → Node → List Reached → Type 0
AreEnough at node us = (a : Term) (holds : Bool) → IsFree node.literals a → refuted_by at node.literals us a holds ≡ any_no (with_one node.literals a holds) node.pending

-- the second list has besides what refutes this formula
abbrev pub Notes : (ℕ → Term) → List Literal → Term → List Reached → List Reached → Type 0
Notes at ls g old new = (a : Term) (holds : Bool) → IsFree ls a → refuted_by at ls new a holds ≡ (refuted_by at ls old a holds || is_no (judged (with_one ls a holds) g))

-- the second list has besides this formula with each atom that stands in both lists of atoms
abbrev pub NotesShared : (ℕ → Term) → Term → List Term → List Term → List Reached → List Reached → Type 0
NotesShared at g xs ys old new =
    (ls : List Literal) (a : Term) (holds : Bool) → refuted_by at ls new a holds ≡ (refuted_by at ls old a holds || ((has_formula xs a && has_formula ys a) && is_no (judged (with_one ls a holds) g)))

-- ---- forced atoms

-- the atom beside the formula is undecided, and one of its values makes the formula judged no
abbrev pub forces : (ℕ → Term) → Node → Reached → Bool
forces at node u =
    if undecided node (at u.by) then is_no (judged (with_one node.literals (at u.by) true) (seen_unmet at u)) || is_no (judged (with_one node.literals (at u.by) false) (seen_unmet at u)) else false

-- the atom is undecided, and one of its values makes a formula judged no beside which it stands
abbrev pub is_forced_among : (ℕ → Term) → Node → List Reached → Term → Bool
is_forced_among at node us a = if undecided node a then refuted_by at node.literals us a true || refuted_by at node.literals us a false else false

-- the second place is the first, or that of an atom that the formula forces; the formula forces none that comes before it
pub record IsNearer (at : ℕ → Term) (node : Node) (ks : List ℕ) (u : Reached) (i j : ℕ) : Type 0 where
  pub within : j ≤ i
  pub before : (m k : ℕ) → m < j → slice_get ks m ≡ Some k → is_forced_among at node (u ∷ []) (at k) ≡ false
  pub here : (j ≡ i) ⊎ ((j < i) × ((k : ℕ) → slice_get ks j ≡ Some k → is_forced_among at node (u ∷ []) (at k) ≡ true))

-- ---- numbers

-- the numbers are those of the first n terms
pub record IsWithin (n : ℕ) (u : Reached) : Type 0 where
  pub formula : u.formula < n
  pub by : u.by < n

abbrev pub AreWithin : ℕ → List Reached → Type 0
AreWithin n [] = Unit {0}
AreWithin n (u ∷ us) = IsWithin n u × AreWithin n us
