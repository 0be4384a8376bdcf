-- What was read as the name of a field, behind other names.
use Rattle.std.specs.Prelude.{◌≡◌, ℕ, List, [], ◌∷◌, ◌++◌, codes}
use Rattle.wy_term.specs.wy_data.scan.Front.{IsBehind}
use Rattle.wy_term.specs.wy_data.scan.Words.{IsWord, IsWordAt}
use Rattle.wy_term.specs.Sorts.{val_sort}
use Rattle.wy_term_text.specs.spell.Todo.{Work, a_term, more_fields, kind_fields}

-- a word and a colon, behind which a datum comes
pub record IsFieldRead (names : List (List ℕ)) (base : ℕ) (text : List ℕ) (ws : List Work) (rest : List ℕ) : Type 0 where
  pub name : List ℕ
  pub behind : List ℕ
  pub word : IsWordAt text name behind
  pub colon : IsBehind (codes ": ") behind rest
  pub works : ws ≡ a_term val_sort ∷ more_fields (names ++ name ∷ []) base ∷ []

-- a word
pub record IsKindFieldRead (names : List (List ℕ)) (base : ℕ) (text : List ℕ) (ws : List Work) (rest : List ℕ) : Type 0 where
  pub name : List ℕ
  pub word : IsWordAt text name rest
  pub works : ws ≡ kind_fields (names ++ name ∷ []) base ∷ []

-- no word with a colon and a space stands there
pub record NoField (text : List ℕ) : Type 0 where
  pub none : (name rest : List ℕ) → IsWord name → text ≡ name ++ (codes ": " ++ rest) → ⊥
