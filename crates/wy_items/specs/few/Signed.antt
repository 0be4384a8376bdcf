-- Numbers with signs in a row, and which of them are noted.
use Rattle.std.specs.Prelude.{◌≡◌, ℕ, Bool, false, ◌&&◌, ◌||◌, List, [], ◌∷◌, ◌++◌, length, nat_eq, nat_le, ◌%◌, Option, None, is_some, slice_index_or, if◌then◌else◌}
use Rattle.std.specs.Bool.{beq}
use Rattle.std.specs.HashSet.{contains}
use Rattle.std.specs.List.{list_any}
use Rattle.wy_items.specs.declared.few.signed.SignedSet.{SignedSet}

-- the two are one number, and both hold or both are denied
abbrev pub same_key : ℕ × Bool → ℕ × Bool → Bool
same_key p q = nat_eq p.0 q.0 && beq p.1 q.1

-- the number is there with that sign
abbrev pub is_among : List (ℕ × Bool) → ℕ × Bool → Bool
is_among keys p = list_any (same_key p) keys

-- one more behind them, unless it is there
abbrev pub listed : List (ℕ × Bool) → ℕ × Bool → List (ℕ × Bool)
listed keys p = if is_among keys p then keys else keys ++ p ∷ []

-- it is there, where there are so many or more
abbrev pub noted_from : ℕ → List (ℕ × Bool) → ℕ × Bool → Bool
noted_from n keys p = if nat_le n (length keys) then is_among keys p else false

-- where the last number stands that has the same remainder, if there is one
abbrev pub last_of : List (Option ℕ) → ℕ → Option ℕ
last_of last k = slice_index_or last (k % 128) None

-- of few nothing is noted in the table, and of more all; where no number has a remainder, none that has it is there
pub record IsSignedSet (s : SignedSet) : Type 0 where
  pub table : (p : ℕ × Bool) → contains same_key s.table p ≡ noted_from 81 s.keys.items p
  pub many : length s.last ≡ 128
  pub last : (p : ℕ × Bool) → is_some (last_of s.last p.0) ≡ false → is_among s.keys.items p ≡ false

-- these are noted besides
abbrev pub NotesAll : (ℕ × Bool → Bool) → (ℕ × Bool → Bool) → List (ℕ × Bool) → Type 0
NotesAll old new keys = (p : ℕ × Bool) → new p ≡ (is_among keys p || old p)
