-- Literals by their numbers, and the forms that they have over the places of terms.
use Rattle.std.specs.Prelude.{◌≡◌, ◌<◌, ℕ, List, [], ◌∷◌, length, map, slice_index_or, true, false, ℤ, pos, Option, Some, None}
use Rattle.wy_term.specs.Term.{Term, Number}
use Rattle.wy_term.specs.Rewriting.{as_number}
use Rattle.wy_lin.specs.Linear.{Linear, variable_form}
use Rattle.wy_lin.specs.TermForm.{form_of}
use Rattle.wy_lin.specs.Seen.{seen}
use Rattle.wy_prove_drafts.specs.wy_check_spec.judge.Node.{Literal, Node, has_literal}
use Rattle.wy_prove_drafts.specs.wy_check_spec.valid.Literals.{literal_at}
use Rattle.wy_prove_drafts.specs.wy_check_spec.valid.Sums.{form_at}
use Rattle.wy_search_spec.specs.Standing.{present}

-- the atom as a literal that holds
abbrev pub holding : Term → Literal
holding a = record { atom = a; holds = true }

-- the number has the literal, or the literal isn't there
abbrev pub HasNumber : List Literal → Literal → Option ℕ → Type 0
HasNumber ls l (Some k) = literal_at ls k ≡ Some l
HasNumber ls l None = has_literal ls l ≡ false

-- ---- forms over places

-- the term at a place among those present in a node
abbrev pub at : Node → ℕ → Term
at base k = slice_index_or (present base) k (Number (pos 0))

-- at the place stands a term that is its own form, and no number
pub record IsVariable (base : Node) (k : ℕ) : Type 0 where
  pub below : k < length (present base)
  pub form : form_of (at base k) ≡ Some (variable_form (at base k))
  pub free : as_number (at base k) ≡ None

abbrev pub AreVariables : Node → List (ℤ × ℕ) → Type 0
AreVariables base [] = Unit {0}
AreVariables base (p ∷ ps) = IsVariable base p.1 × AreVariables base ps

-- the number has a literal with this form
pub record IsNamed (base : Node) (ls : List Literal) (k : ℕ) (f : Linear ℕ) : Type 0 where
  pub form : form_at ls k ≡ Some (seen (at base) f)
  pub variables : AreVariables base f.parts

-- so for each number and the form beside it
abbrev pub AreNamed : Node → List Literal → List ℕ → List (Linear ℕ) → Type 0
AreNamed base ls [] [] = Unit {0}
AreNamed base ls [] (f ∷ fs) = ⊥
AreNamed base ls (k ∷ ks) [] = ⊥
AreNamed base ls (k ∷ ks) (f ∷ fs) = IsNamed base ls k f × AreNamed base ls ks fs

-- a number was found, and it has a literal with this form
abbrev pub Names : Node → List Literal → Linear ℕ → Option ℕ → Type 0
Names base ls f None = ⊥
Names base ls f (Some k) = IsNamed base ls k f

-- the multipliers, each beside the number at its place, or beside 0, which no literal has, where there is none
abbrev pub with_numbers : List ℕ → List (ℕ × ℕ) → List (ℕ × ℕ)
with_numbers ks ms = map (λ (m : ℕ × ℕ). (m.0, slice_index_or ks m.1 0)) ms
