-- The least congruence of equations between numbered nodes.
use Rattle.std.specs.Prelude.{◌≡◌, ◌<◌, ℕ, List, length, Bool, true, nat_eq, Some, map, slice_get, slice_index, slice_index_or}
use Rattle.wy_cong.specs.declared.congruence_closure.nodes.Shape.{Shape}
use Rattle.wy_cong.specs.declared.congruence_closure.nodes.Shape.TheVariants.{Apply}

-- the test says which nodes are equal: an equivalence that has the equations, and in which applications of equal nodes to equal nodes are equal
pub record IsCongruence (shapes : List Shape) (equations : List (ℕ × ℕ)) (R : ℕ → ℕ → Bool) : Type 0 where
  pub reflexive : (i : ℕ) → R i i ≡ true
  pub symmetric : (i j : ℕ) → R i j ≡ true → R j i ≡ true
  pub transitive : (i j k : ℕ) → R i j ≡ true → R j k ≡ true → R i k ≡ true
  pub has : (n : ℕ) (e : ℕ × ℕ) → slice_get equations n ≡ Some e → R e.0 e.1 ≡ true
  pub congruent : (i j a b c d : ℕ) → slice_get shapes i ≡ Some (Apply a b) → slice_get shapes j ≡ Some (Apply c d) → R a c ≡ true → R b d ≡ true → R i j ≡ true

-- two nodes are equal in the least congruence: in each one
abbrev pub Same : List Shape → List (ℕ × ℕ) → ℕ → ℕ → Type 0
Same shapes equations i j = (R : ℕ → ℕ → Bool) → IsCongruence shapes equations R → R i j ≡ true

-- the label of a node's class
abbrev pub label_at : List ℕ → ℕ → ℕ
label_at labels i = slice_index labels i

-- two nodes are in one class
abbrev pub is_same : List ℕ → ℕ → ℕ → Bool
is_same labels i j = nat_eq (label_at labels i) (label_at labels j)

-- what an application is of are nodes
abbrev pub AreWithin : List Shape → Type 0
AreWithin shapes = (i a b : ℕ) → slice_get shapes i ≡ Some (Apply a b) → (a < length shapes) × (b < length shapes)

-- both sides of each equation are nodes
abbrev pub AreBetween : ℕ → List (ℕ × ℕ) → Type 0
AreBetween count equations = (n : ℕ) (e : ℕ × ℕ) → slice_get equations n ≡ Some e → (e.0 < count) × (e.1 < count)

-- nodes in one class are equal in each congruence
abbrev pub IsSound : List Shape → List (ℕ × ℕ) → List ℕ → Type 0
IsSound shapes equations labels = (i j : ℕ) → i < length labels → j < length labels → label_at labels i ≡ label_at labels j → Same shapes equations i j

-- the equations with these numbers
abbrev pub named : List (ℕ × ℕ) → List ℕ → List (ℕ × ℕ)
named equations ns = map (λ n. slice_index_or equations n (0, 0)) ns
