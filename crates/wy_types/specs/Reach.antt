-- The conjuncts that a question reaches, and wide questions.
use Rattle.std.specs.Prelude.{◌≡◌, ℕ, ◌<◌, List, [], true, false, ◌⊎◌, length}
use Rattle.wy_types.specs.declared.conjuncts.Signed.{Signed}
use Rattle.wy_types.specs.declared.conjuncts.Conjunct.{Conjunct}
use Rattle.wy_types.specs.declared.table.Table.{Table}
use Rattle.wy_types.specs.Claims.{SomeOf, EachOf, IsIn, AreDifferent}
use Rattle.wy_types.specs.Conjuncts.{dnf_part, narrow_part, with_sides}
use Rattle.wy_types.specs.Asks.{options_of, few_ways}

-- a part that a conjunct asks
abbrev pub IsAsked : Table → ℕ → List (Signed ℕ) → Conjunct ℕ → Type 0
IsAsked table k p c = SomeOf (SomeOf (SomeOf (λ q. q ≡ p))) (options_of table k c.positive c.negatives)

-- the least set with the conjuncts of the part, and of each part that a conjunct in it asks
pub data Reaches (table : Table) (k : ℕ) (first : List (Signed ℕ)) : Conjunct ℕ → Type 0 where
  at_first : (c : Conjunct ℕ) → IsIn c (dnf_part table k first) → Reaches table k first c
  by_asking : (c d : Conjunct ℕ) (p : List (Signed ℕ)) → Reaches table k first c → IsAsked table k p c → IsIn d (dnf_part table k p) → Reaches table k first d

-- a part whose merges the question needs
abbrev pub IsNeeded : Table → ℕ → List (Signed ℕ) → List (Signed ℕ) → Type 0
IsNeeded table k first p = (p ≡ first) ⊎ ((c : Conjunct ℕ) × Reaches table k first c × IsAsked table k p c)

-- the question is wide: a merge on its way has too many pairs, or it reaches too many conjuncts, or one of them has too many ways
abbrev pub IsWide : Table → ℕ → List (Signed ℕ) → Type 0
IsWide table k first =
    ((p : List (Signed ℕ)) × IsNeeded table k first p × (narrow_part table k p ≡ false))
    ⊎ (((cs : List (Conjunct ℕ)) × AreDifferent cs × EachOf (Reaches table k first) cs × (16384 < length cs))
    ⊎ ((c : Conjunct ℕ) × Reaches table k first c × (few_ways c ≡ false)))

-- the part of the question whether a is within b: what is in a and not in b
abbrev pub outside : Table → ℕ → ℕ → ℕ → List (Signed ℕ)
outside table k a b = with_sides table k (with_sides table k [] true true a) true false b
