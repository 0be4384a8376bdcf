-- Numbers at the front of a text, each in its one spelling.
use Rattle.std.specs.Prelude.{◌≡◌, ℕ, ◌<◌, ◌^◌, List, [], ◌∷◌, ◌++◌, ◌⊎◌, ◌==◌, Bool, true, false, nat_lt, ℤ, pos, negsuc}
use Rattle.std.specs.Fmt.{decimal, signed_decimal}
use Rattle.wy_data.specs.scan.Front.{is_digit, heads, AllPass}

-- the text begins with the number, no digit more, and this follows
pub record IsNaturalAt (text : List ℕ) (n : ℕ) (rest : List ℕ) : Type 0 where
  pub is : text ≡ decimal n ++ rest
  pub small : n < 2 ^ 127
  pub ends : heads is_digit rest ≡ false

abbrev pub NoNatural : List ℕ → Type 0
NoNatural text = (n : ℕ) (rest : List ℕ) → IsNaturalAt text n rest → ⊥

-- the number is one of 128 bits with a sign
abbrev pub is_wide : ℤ → Bool
is_wide (pos n) = nat_lt n (2 ^ 127)
is_wide (negsuc n) = nat_lt n (2 ^ 127)

pub record IsWholeAt (text : List ℕ) (z : ℤ) (rest : List ℕ) : Type 0 where
  pub is : text ≡ signed_decimal z ++ rest
  pub small : is_wide z ≡ true
  pub ends : heads is_digit rest ≡ false

abbrev pub NoWhole : List ℕ → Type 0
NoWhole text = (z : ℤ) (rest : List ℕ) → IsWholeAt text z rest → ⊥

-- ---- for functions inside

-- the bytes write the number
pub record IsDecimal (bytes : List ℕ) (n : ℕ) : Type 0 where
  pub is : bytes ≡ decimal n
  pub small : n < 2 ^ 127

abbrev pub NotDecimal : List ℕ → Type 0
NotDecimal bytes = (n : ℕ) → IsDecimal bytes n → ⊥

pub record IsSigned (bytes : List ℕ) (z : ℤ) : Type 0 where
  pub is : bytes ≡ signed_decimal z
  pub small : is_wide z ≡ true

abbrev pub NotSigned : List ℕ → Type 0
NotSigned bytes = (z : ℤ) → IsSigned bytes z → ⊥

-- a minus and digits, or digits alone where no minus stands first
abbrev pub IsSignOrDigits : List ℕ → Type 0
IsSignOrDigits [] = Unit {0}
IsSignOrDigits (b ∷ bs) = ((b ≡ 45) ⊎ (is_digit b ≡ true)) × AllPass is_digit bs

-- a minus
abbrev pub is_minus : ℕ → Bool
is_minus b = b == 45

-- as long as a number can be: a minus and digits, or digits, and no digit follows
pub record IsSignedRun (front rest : List ℕ) : Type 0 where
  pub passes : IsSignOrDigits front
  pub ends : (front ≡ [] → heads is_minus rest ≡ false) × (heads is_digit rest ≡ false)
