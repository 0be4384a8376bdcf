-- Sets of variables, a bit for each of the first ones.
use Rattle.std.specs.Prelude.{ℕ, zero, suc, Bool, true, false, ◌||◌, nat_lt, cond, List, [], ◌∷◌, ◌++◌, length, slice_index_or}

abbrev pub Variables : Type 0
Variables = List Bool

-- the variable is in the set
abbrev pub has : Variables → ℕ → Bool
has s x = slice_index_or s x false

-- this bit at this place, and none up to it where the list is shorter
abbrev pub put : Variables → ℕ → Bool → Variables
put [] zero b = b ∷ []
put [] (suc x) b = false ∷ put [] x b
put (c ∷ cs) zero b = b ∷ cs
put (c ∷ cs) (suc x) b = c ∷ put cs x b

-- with the variable, and without it
abbrev pub with : Variables → ℕ → Variables
with s x = put s x true

abbrev pub without : Variables → ℕ → Variables
without s x = cond (has s x) (put s x false) s

-- the variable is in it only where it was in it before
abbrev pub restored : Bool → Variables → ℕ → Variables
restored true s x = s
restored false s x = without s x

abbrev pub longer : ℕ → ℕ → ℕ
longer n m = cond (nat_lt n m) m n

abbrev pub either_bits : Variables → Variables → ℕ → List Bool
either_bits s t zero = []
either_bits s t (suc n) = either_bits s t n ++ (has s n || has t n) ∷ []

-- what is in one of both
abbrev pub joined : Variables → Variables → Variables
joined s t = either_bits s t (longer (length s) (length t))
