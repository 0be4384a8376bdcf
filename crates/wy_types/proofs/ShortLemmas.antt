-- A list that goes on is not the same as one that has ended.
use Rattle.std.proofs.Common.{◌≡◌, ℕ, zero, suc, ◌<◌, List, [], ◌∷◌, length, drop, false, refl, arith}
use Rattle.wy_types.specs.declared.conjuncts.Signed.{Signed}
use Rattle.wy_types.specs.Conjuncts.{same_term}
use Rattle.wy_types.specs.Same as same

pub same_terms-short : (xs rest : List (Signed ℕ)) (i : ℕ) → i < length xs → length rest < 1 → same.same_terms same_term (drop i xs) rest ≡ false
same_terms-short [] rest i lt e = absurd (omega (arith, lt))
same_terms-short (x ∷ xs) [] zero lt e = refl
same_terms-short (x ∷ xs) (y ∷ rest) zero lt e = absurd (omega (arith, e))
same_terms-short (x ∷ xs) rest (suc i) lt e = same_terms-short xs rest i (omega (arith, lt)) e
