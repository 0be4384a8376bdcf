-- Conjuncts that are found by their digests.
use Rattle.std.specs.Prelude.{◌≡◌, ℕ, List, true, is_some, nat_eq}
use Rattle.std.specs.Map.{lookup}
use Rattle.wy_types.specs.declared.conjuncts.Conjunct.{Conjunct}
use Rattle.wy_types.specs.Claims.{EachOf}
use Rattle.wy_canon.specs.Digests.{conjunct_digest}

-- some place is noted for the digest
abbrev pub IsNoted : List (ℕ × ℕ) → ℕ → Type 0
IsNoted places digest = is_some (lookup (nat_eq digest) places) ≡ true

-- so for each of the conjuncts
abbrev pub AreNoted : List (ℕ × ℕ) → List (Conjunct ℕ) → Type 0
AreNoted places cs = EachOf (λ c. IsNoted places (conjunct_digest c)) cs
