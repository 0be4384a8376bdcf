-- Where numbers stand in a row, and which of their places are noted.
use Rattle.std.specs.Prelude.{◌≡◌, ◌==◌, ℕ, suc, List, [], ◌∷◌, length, nat_le, Option, Some, None, if◌then◌else◌}

-- where, from a place on, the number stands first
abbrev pub number_place : List ℕ → ℕ → ℕ → Option ℕ
number_place [] t k = None
number_place (u ∷ us) t k = if u == t then Some k else number_place us t (suc k)

-- the number's place, where there are so many numbers or more
abbrev pub places_from : ℕ → List ℕ → ℕ → Option ℕ
places_from n numbers t = if nat_le n (length numbers) then number_place numbers t 0 else None

-- of few numbers no place is noted, and of more the first place of each
abbrev pub ArePlaced : List ℕ → (ℕ → Option ℕ) → Type 0
ArePlaced numbers noted = (t : ℕ) → noted t ≡ places_from 49 numbers t

-- the place of a number, or this one where it has none
abbrev pub first_place : Option ℕ → ℕ → Option ℕ
first_place None place = Some place
first_place (Some k) place = Some k

-- a number that had no place has this one now; the others have those that they had
abbrev pub PlacedBehind : (ℕ → Option ℕ) → (ℕ → Option ℕ) → ℕ → ℕ → Type 0
PlacedBehind old new k place = (t : ℕ) → new t ≡ (if k == t then first_place (old k) place else old t)
