-- What the crates above prove of these words, each once.
use Rattle.std.proofs.Common.{ℕ, ◌≡◌, ◌∙◌, ◌≤◌, suc, Bool, true, false, cond, Option, Some, sym, arith, ℤ, pos, refl}
use Rattle.wy_value.proofs.wy_lemmas_proofs.Options.{some_number_is}
use Rattle.wy_term.proofs.SameLemmas.{terms_are}
use Rattle.wy_term.specs.Condition.{Entry}
use Rattle.wy_term.specs.Data.{quotient_down}
use Rattle.wy_term.specs.Same.{same_term}
use Rattle.wy_term.specs.Term.{Term}

abbrev pub entry_with : ℕ → Term → Term → Entry
entry_with n x f = record { type_number = n; name = x; formula = f }

pub same_step : (u s t : Term) (k i : ℕ) (o p : Option ℕ) (b c : Bool) → same_term u s ≡ b → same_term u t ≡ c → (o ≡ Some i → suc k ≤ i) → (p ≡ Some i → suc k ≤ i) → (o ≡ Some i → p ≡ Some i → s ≡ t) → cond b (Some k) o ≡ Some i → cond c (Some k) p ≡ Some i → s ≡ t
same_step u s t k i o p true true g h lo lp later x y = sym (terms_are u s g) ∙ terms_are u t h
same_step u s t k i o p true false g h lo lp later x y = let same : k ≡ i = some_number_is k i x in let up : suc k ≤ i = lp y in absurd (omega (arith, same, up))
same_step u s t k i o p false true g h lo lp later x y = let same : k ≡ i = some_number_is k i y in let up : suc k ≤ i = lo x in absurd (omega (arith, same, up))
same_step u s t k i o p false false g h lo lp later x y = later x y

pub unless_zero : (a : ℤ) (m : ℕ) (b : Bool) → b ≡ false → cond b (pos 0) (quotient_down a m) ≡ quotient_down a m
unless_zero a m true e = absurd cc
unless_zero a m false e = refl
