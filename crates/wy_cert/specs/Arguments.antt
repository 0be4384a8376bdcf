-- Terms of a line, with a semicolon between spaces between two.
use Rattle.std.specs.Prelude.{◌≡◌, ℕ, ◌<◌, ◌≤◌, List, [], ◌∷◌, ◌++◌, Bool, true, false, codes, length, drop, Option, Some, None, ◌⊎◌}
use Rattle.wy_data.specs.scan.Front.{NotBehind}
use Rattle.wy_term_text.specs.wy_term.Term.{Term}
use Rattle.wy_term_text.specs.wy_term.Sorts.{int_sort, val_sort, formula_sort}
use Rattle.wy_term_text.specs.spell.Made.{IsSpelled, SpellsNoTerm}

-- the bytes before the first ` ; `, and those behind it
pub record IsCut (text front rest : List ℕ) : Type 0 where
  pub is : text ≡ front ++ (codes " ; " ++ rest)
  pub first : (k : ℕ) → k < length front → NotBehind (codes " ; ") (drop k text)

pub record NoCut (text : List ℕ) : Type 0 where
  pub none : (k : ℕ) → k ≤ length text → NotBehind (codes " ; ") (drop k text)

-- the text's first piece, and what follows the ` ; ` behind it if there is one
abbrev pub IsPieceAt : List ℕ → List ℕ → Option (List ℕ) → Type 0
IsPieceAt text front None = NoCut text × (front ≡ text)
IsPieceAt text front (Some rest) = IsCut text front rest

-- the text spells the Int term or Val term, each node folded as it is made
abbrev pub IsTerm : List ℕ → Term → Type 0
IsTerm text t = IsSpelled int_sort text t ⊎ IsSpelled val_sort text t

-- where formulas may stand too, a text that spells a term means that term
abbrev pub IsArgument : Bool → List ℕ → Term → Type 0
IsArgument false text t = IsTerm text t
IsArgument true text t = IsTerm text t ⊎ (SpellsNoTerm text × IsSpelled formula_sort text t)

-- others come where there is a rest
abbrev pub FollowBy : (List ℕ → Type 0) → Option (List ℕ) → List Term → Type 0
FollowBy spelled None ts = ts ≡ []
FollowBy spelled (Some rest) ts = spelled rest

-- each piece of the text spells the argument at its place
abbrev pub AreArguments : Bool → List ℕ → List Term → Type 0
AreArguments formulas text [] = ⊥
AreArguments formulas text (t ∷ ts) =
    (front : List ℕ) × (more : Option (List ℕ)) × IsPieceAt text front more × IsArgument formulas front t × FollowBy (λ rest. AreArguments formulas rest ts) more ts
