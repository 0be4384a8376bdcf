-- What is so of each bound is so of the best of them.
use Rattle.std.proofs.Common.{◌≡◌, Bool, true, false, cond, ℤ, pos, Option, Some, None, refl, subst}
use Rattle.std.specs.Prelude.{int_lt, unsigned_abs}
use Rattle.std.specs.Bool.{beq}
use Rattle.wy_lemmas.proofs.Options.{some_same as some_is}
use Rattle.wy_search_bounds.specs.wy_term.Data.{quotient_down}
use Rattle.wy_search_bounds.specs.wy_lin.Linear.{◌>>=◌}
use Rattle.wy_search_bounds.specs.wy_check_spec.valid.Products.{Affine}
use Rattle.wy_search_bounds.specs.wy_search_spec.Expansion.{tighter, with_bound}

abbrev pub IsBest : (Affine → Type 0) → Option (Affine × ℤ) → Type 0
IsBest P None = Unit {0}
IsBest P (Some b) = P b.0

module _ (P : Affine → Type 0) where
  best_tighter : (best : Option (Affine × ℤ)) (x : Affine) (at : ℤ) → IsBest P best → P x → IsBest P (tighter best x at)
  best_tighter None x at h g = g
  best_tighter (Some b) x at h g = by (int_lt at b.1)
    where
      by : (c : Bool) → IsBest P (cond c (Some (x, at)) (Some b))
      by true = g
      by false = h

  pub best_with : (side : Bool) (best : Option (Affine × ℤ)) (o : Option Affine) → IsBest P best → ((x : Affine) → o ≡ Some x → P x) → IsBest P (with_bound side best o)
  best_with side best None h g = h
  best_with side best (Some x) h g = by (beq (int_lt (pos 0) x.factor) side)
    where
      by : (c : Bool) → IsBest P (cond c (tighter best x (quotient_down x.more (unsigned_abs x.factor))) best)
      by true = best_tighter best x (quotient_down x.more (unsigned_abs x.factor)) h (g x refl)
      by false = h

  pub best_found : (o : Option (Affine × ℤ)) (x : Affine) → IsBest P o → (o >>= λ b. Some b.0) ≡ Some x → P x
  best_found None x h e = absurd cc
  best_found (Some b) x h e = subst P (some_is b.0 x e) h
