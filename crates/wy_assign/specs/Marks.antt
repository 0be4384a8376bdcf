-- Which variables may have no value at a point of a program: on some path to it, none was given to them since they had none.
use Rattle.std.specs.Prelude.{ℕ, zero, suc, Bool, true, false, not, ◌||◌, nat_lt, cond, List, [], ◌∷◌, ◌++◌, length, slice_index_or, Option, Some, None}
use Rattle.wy_core.specs.CoreTree as tree

-- whether a path gets to the point, whether a variable without a bit may have no value there, and a bit for each of the first variables
pub record Marks : Type 0 where
  pub reached : Bool
  pub others : Bool
  pub bits : List Bool

-- whether the variable may have no value
abbrev pub has : Marks → ℕ → Bool
has s x = slice_index_or s.bits x s.others

-- no path gets here
abbrev pub nowhere : Marks
nowhere = record { reached = false; others = false; bits = [] }

-- a path gets here, and every variable has a value
abbrev pub all_set : Marks
all_set = record { reached = true; others = false; bits = [] }

-- a path gets here, and no variable has a value
abbrev pub none_set : Marks
none_set = record { reached = true; others = true; bits = [] }

-- the list with this bit at this place, and others up to it where it is shorter
abbrev pub put_bit : List Bool → ℕ → Bool → Bool → List Bool
put_bit [] zero b others = b ∷ []
put_bit [] (suc x) b others = others ∷ put_bit [] x b others
put_bit (c ∷ cs) zero b others = b ∷ cs
put_bit (c ∷ cs) (suc x) b others = c ∷ put_bit cs x b others

abbrev pub put : Marks → ℕ → Bool → Marks
put s x b = record s { bits = put_bit s.bits x b s.others }

-- behind an assignment
abbrev pub assigned : Marks → ℕ → Marks
assigned s x = cond (has s x) (put s x false) s

-- behind a declaration without a value
abbrev pub declared : Marks → ℕ → Marks
declared s x = cond (has s x || not s.reached) s (put s x true)

-- the first bits of a join
abbrev pub either_bits : Marks → Marks → ℕ → List Bool
either_bits a b zero = []
either_bits a b (suc n) = either_bits a b n ++ (has a n || has b n) ∷ []

abbrev pub longer : ℕ → ℕ → ℕ
longer n m = cond (nat_lt n m) m n

-- where the paths to two points meet
abbrev pub joined : Marks → Marks → Marks
joined a b = cond b.reached (cond a.reached (record { reached = true; others = a.others || b.others; bits = either_bits a b (longer (length a.bits) (length b.bits)) }) b) a

-- the parameters have values
abbrev pub with_params : Marks → List tree.Param → Marks
with_params s [] = s
with_params s (p ∷ ps) = with_params (assigned s p.variable) ps

-- a variable that may be absent has one
abbrev pub with_option : Marks → Option ℕ → Marks
with_option s None = s
with_option s (Some x) = assigned s x
