-- What is listed so far, and what is still to be listed.
use Rattle.std.specs.Prelude.{◌≡◌, ◌⊎◌, ℕ, ◌<◌, List, [], ◌∷◌, length, map, Bool, true, false}
use Rattle.wy_term.specs.Term.{Symbol, Term, Of}
use Rattle.wy_term.specs.Nodes.{Plain, tree_at, parts_at}
use Rattle.wy_vc_spec.specs.Limits.{has_term, is_among, terms_in_all}

-- the number is listed, or is to be
abbrev pub IsKnown : List ℕ → List ℕ → ℕ → Type 0
IsKnown all todo k = (is_among all k ≡ true) ⊎ (is_among todo k ≡ true)

-- the term is made of known ones, with lesser numbers
pub record IsMadeOf (nodes : List Plain) (all todo : List ℕ) (k : ℕ) : Type 0 where
  pub symbol : Symbol
  pub parts : List ℕ
  pub tree : tree_at nodes k ≡ Of symbol (parts_at (tree_at nodes) parts)
  pub less : (p : ℕ) → is_among parts p ≡ true → p < k
  pub known : (p : ℕ) → is_among parts p ≡ true → IsKnown all todo p

-- one of the numbers names the term
abbrev pub IsNamed : List Plain → List ℕ → Term → Type 0
IsNamed nodes ks t = (k : ℕ) × (is_among ks k ≡ true) × (tree_at nodes k ≡ t)

-- the numbers are below this one
abbrev pub AreUnder : ℕ → List ℕ → Type 0
AreUnder bound ks = (k : ℕ) → is_among ks k ≡ true → k < bound

-- no number stands twice
abbrev pub AreApart : List ℕ → Type 0
AreApart [] = Unit {0}
AreApart (k ∷ ks) = (is_among ks k ≡ false) × AreApart ks

-- what is known is what the roots are made of, as far as it is listed
pub record IsListed (nodes : List Plain) (roots all : List ℕ) (noted : ℕ → Bool) (todo : List ℕ) : Type 0 where
  pub same : (k : ℕ) → noted k ≡ is_among all k
  pub apart : AreApart all
  pub below : (k : ℕ) → IsKnown all todo k → k < length nodes
  pub inside : (k : ℕ) → IsKnown all todo k → has_term (terms_in_all (map (tree_at nodes) roots)) (tree_at nodes k) ≡ true
  pub made : (k : ℕ) → is_among all k ≡ true → IsMadeOf nodes all todo k
  pub begun : (k : ℕ) → is_among roots k ≡ true → IsKnown all todo k
