-- Bits are put one behind the other until the place is there.
use Rattle.std.proofs.Common.{◌≡◌, ◌≤◌, ◌<◌, ℕ, zero, suc, Bool, List, [], ◌∷◌, ◌++◌, length, set, refl, ap, arith}
use Rattle.wy_assign.specs.Marks.{put_bit}

pub put_pushed : (bits : List Bool) (x : ℕ) (b others : Bool) → length bits ≤ x → put_bit (bits ++ others ∷ []) x b others ≡ put_bit bits x b others
put_pushed [] zero b others h = refl
put_pushed [] (suc x) b others h = refl
put_pushed (c ∷ cs) zero b others h = absurd (omega arith)
put_pushed (c ∷ cs) (suc x) b others h = ap (λ l. c ∷ l) (put_pushed cs x b others (omega arith))

pub put_within : (bits : List Bool) (x : ℕ) (b others : Bool) → x < length bits → put_bit bits x b others ≡ set bits x b
put_within [] x b others h = absurd (omega arith)
put_within (c ∷ cs) zero b others h = refl
put_within (c ∷ cs) (suc x) b others h = ap (λ l. c ∷ l) (put_within cs x b others (omega arith))
