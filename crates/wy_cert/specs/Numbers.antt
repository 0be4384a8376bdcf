-- Numbers of a line, and pairs of a multiplier and a literal.
use Rattle.std.specs.Prelude.{◌≡◌, ℕ, ◌<◌, ◌^◌, List, [], ◌∷◌}
use Rattle.wy_data.specs.scan.Numbers.{IsNaturalAt}

-- the text begins with the number of a literal or of a condition, which is from 1 to 2^32 - 1, and this follows
pub record IsPlaceAt (text : List ℕ) (n : ℕ) (rest : List ℕ) : Type 0 where
  pub number : IsNaturalAt text n rest
  pub some : 0 < n
  pub small : n < 2 ^ 32

pub record NoPlace (text : List ℕ) : Type 0 where
  pub none : (n : ℕ) (rest : List ℕ) → IsPlaceAt text n rest → ⊥

-- no such number with a space behind it
pub record NoSpacedPlace (text : List ℕ) : Type 0 where
  pub none : (n : ℕ) (rest : List ℕ) → IsPlaceAt text n (32 ∷ rest) → ⊥

-- the text is no such number
pub record NoLastPlace (text : List ℕ) : Type 0 where
  pub none : (n : ℕ) → IsPlaceAt text n [] → ⊥

-- the text begins with a multiplier or a divisor, which is from 1 to 2^127 - 1, and this follows
pub record IsMultiplierAt (text : List ℕ) (n : ℕ) (rest : List ℕ) : Type 0 where
  pub number : IsNaturalAt text n rest
  pub some : 0 < n

pub record NoMultiplier (text : List ℕ) : Type 0 where
  pub none : (n : ℕ) (rest : List ℕ) → IsMultiplierAt text n rest → ⊥

-- a space, a multiplier, a space and a literal, and what follows
pub record IsPairAt (text : List ℕ) (m i : ℕ) (rest : List ℕ) : Type 0 where
  pub start : List ℕ
  pub between : List ℕ
  pub space : text ≡ 32 ∷ start
  pub multiplier : IsMultiplierAt start m (32 ∷ between)
  pub literal : IsPlaceAt between i rest

pub record NoPair (text : List ℕ) : Type 0 where
  pub none : (m i : ℕ) (rest : List ℕ) → IsPairAt text m i rest → ⊥

-- pairs, each with a space before it, to the end
abbrev pub ArePairs : List ℕ → List (ℕ × ℕ) → Type 0
ArePairs text [] = text ≡ []
ArePairs text (p ∷ ps) = (rest : List ℕ) × IsPairAt text p.0 p.1 rest × ArePairs rest ps
