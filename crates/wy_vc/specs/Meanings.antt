-- What the tests of named types stand for, by numbers of terms.
use Rattle.std.specs.Prelude.{◌≡◌, ℕ, zero, suc, List, [], ◌∷◌, length}
use Rattle.wy_term.specs.Nodes.{Plain}
use Rattle.wy_term.specs.Numbers.{IsAt}
use Rattle.wy_vc_spec.specs.Limits.{is_among, tests_in}
use Rattle.wy_vc_spec.specs.Numbered.{Node}
use Rattle.wy_vc_spec.specs.Values.{Setting, test_name, test_formula}
use Rattle.wy_vc.specs.declared.unfolding.Meaning.{Meaning}

-- this is what the test of the named type stands for, and these are the types that it tests
pub record IsMeaning (nodes : List Plain) (s : Setting Node) (n : ℕ) (m : Meaning) : Type 0 where
  pub name : IsAt nodes m.name (test_name s n)
  pub formula : IsAt nodes m.formula (test_formula s n)
  pub tests : (k : ℕ) → is_among m.tests.items k ≡ is_among (tests_in (test_formula s n)) k

-- these are the meanings of the named types from this number on
abbrev pub AreMeaningsFrom : List Plain → Setting Node → ℕ → List Meaning → Type 0
AreMeaningsFrom nodes s n [] = Unit {0}
AreMeaningsFrom nodes s n (m ∷ ms) = IsMeaning nodes s n m × AreMeaningsFrom nodes s (suc n) ms

-- these are the meanings of all named types
pub record AreMeanings (nodes : List Plain) (s : Setting Node) (ms : List Meaning) : Type 0 where
  pub count : length ms ≡ length s.types
  pub are : AreMeaningsFrom nodes s 0 ms

-- the types that the test of a named type tests
abbrev pub tests_at : List Meaning → ℕ → List ℕ
tests_at [] n = []
tests_at (m ∷ ms) zero = m.tests.items
tests_at (m ∷ ms) (suc n) = tests_at ms n
