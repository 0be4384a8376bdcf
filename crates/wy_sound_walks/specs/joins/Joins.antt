-- The point behind paths that come together.
use Rattle.std.specs.Prelude.{◌≡◌, ◌⊎◌, ℕ, ◌≤◌, List, [], ◌∷◌, ◌++◌, Option, Some, None}
use Rattle.wy_term.specs.Term.{Term}
use Rattle.wy_term.specs.Meaning.{Names}
use Rattle.wy_sound_terms.specs.wy_sem.Expressions.{Store}
use Rattle.wy_sound_terms.specs.wy_vc_spec.Spots.{Spot}
use Rattle.wy_sound_terms.specs.wy_vc_spec.Joins.{meet}
use Rattle.wy_sound_walks.specs.joins.Points.{IsPoint, At}

-- the one is among these
abbrev pub IsOne : {X : Type 0} → X → List X → Type 0
IsOne c [] = ⊥
IsOne c (p ∷ ps) = (p ≡ c) ⊎ IsOne c ps

-- each is a point, whose hypotheses begin with these
abbrev pub ArePoints : ℕ → List Term → List Spot → Type 0
ArePoints n base [] = Unit {0}
ArePoints n base (p ∷ ps) = IsPoint n p × ((more : List Term) × (p.hyps ≡ base ++ more)) × ArePoints n base ps

-- the store is at the point, if there is one
abbrev pub AtEnd : ℕ → Names → ℕ → Option Spot → Store → Type 0
AtEnd n names m None s = ⊥
AtEnd n names m (Some p) s = At n names m p s

-- a store at one of the paths is at the point behind them; new names are given from the count on
abbrev pub JoinsAreSound : Type 0
JoinsAreSound = (words : List (List ℕ)) (base : List Term) (ps : List Spot) (n m : ℕ) (names : Names) (s : Store) (p : Spot) → n ≤ m → ArePoints m base ps → IsOne p ps → At n names m p s
    → AtEnd n names (meet words base ps m).count (meet words base ps m).ends s
