-- Which named types are mentioned, where it is known which ones each one tests.
use Rattle.std.specs.Prelude.{◌≡◌, ◌⊎◌, ℕ, zero, suc, ◌≤◌, List, [], ◌∷◌, ◌++◌, length, Bool, true, false}
use Rattle.wy_vc_spec.specs.Limits.{is_among}

-- those that one of these tests
abbrev pub tested_by : (ℕ → List ℕ) → List ℕ → List ℕ
tested_by f [] = []
tested_by f (n ∷ ns) = f n ++ tested_by f ns

-- these, and those that they test, in so many steps
abbrev pub reached : (ℕ → List ℕ) → ℕ → List ℕ → List ℕ
reached f zero ns = ns
reached f (suc j) ns = reached f j (ns ++ tested_by f ns)

-- a number without a mark isn't marked
abbrev pub marked : List Bool → ℕ → Bool
marked [] n = false
marked (b ∷ bs) zero = b
marked (b ∷ bs) (suc n) = marked bs n

-- the number is none of a type, is marked, or is still to be marked
abbrev pub IsSettled : List Bool → List ℕ → ℕ → Type 0
IsSettled marks todo n = (length marks ≤ n) ⊎ ((marked marks n ≡ true) ⊎ (is_among todo n ≡ true))

-- in some number of steps it is reached
abbrev pub IsReached : (ℕ → List ℕ) → List ℕ → ℕ → Type 0
IsReached f begun n = (j : ℕ) × (is_among (reached f j begun) n ≡ true)

-- what is marked is reached, and what is reached from there is marked or is still to be
pub record IsReaching (f : ℕ → List ℕ) (count : ℕ) (begun : List ℕ) (marks : List Bool) (todo : List ℕ) : Type 0 where
  pub whole : length marks ≡ count
  pub done : (n : ℕ) → marked marks n ≡ true → IsReached f begun n
  pub left : (n : ℕ) → is_among todo n ≡ true → IsReached f begun n
  pub starts : (n : ℕ) → is_among begun n ≡ true → IsSettled marks todo n
  pub closed : (n : ℕ) → marked marks n ≡ true → (k : ℕ) → is_among (f n) k ≡ true → IsSettled marks todo k
