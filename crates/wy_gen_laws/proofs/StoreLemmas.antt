-- Registers, one of which gets another value.
use Rattle.std.proofs.Common.{◌≡◌, ◌<◌, ℕ, zero, suc, [], ◌∷◌, length, true, Option, Some, refl, ◌∙◌, ap, arith}
use Rattle.std.specs.Prelude.{◌≢◌}
use Rattle.wy_value.specs.Datum.{Datum}
use Rattle.wy_core.specs.formed.Bound.{Scope, Has}
use Rattle.wy_code_spec.specs.wy_live.Sets.{Variables, has}
use Rattle.wy_vc_spec.specs.wy_sem.Expressions.{Store, slot, put}
use Rattle.wy_gen_laws.specs.Registers.{Live}

pub put_here : (s : Store) (d : ℕ) (v : Option Datum) → d < length s → slot (put s d v) d ≡ v
put_here [] d v less = absurd (omega (arith, less))
put_here (w ∷ s) zero v less = refl
put_here (w ∷ s) (suc d) v less = put_here s d v (omega (arith, less))

pub put_other : (s : Store) (d x : ℕ) (v : Option Datum) → x ≢ d → slot (put s d v) x ≡ slot s x
put_other [] d x v other = refl
put_other (w ∷ s) zero zero v other = absurd (other refl)
put_other (w ∷ s) zero (suc x) v other = refl
put_other (w ∷ s) (suc d) zero v other = refl
put_other (w ∷ s) (suc d) (suc x) v other = put_other s d x v (λ e. other (ap suc e))

pub put_size : (s : Store) (d : ℕ) (v : Option Datum) → length (put s d v) ≡ length s
put_size [] d v = refl
put_size (w ∷ s) zero v = refl
put_size (w ∷ s) (suc d) v = let h = put_size s d v in omega (arith, h)

-- the store may have less room than the registers
pub put_says : (s : Store) (d : ℕ) (v w : Datum) → slot (put s d (Some v)) d ≡ Some w → v ≡ w
put_says [] d v w e = absurd cc
put_says (u ∷ s) zero v w e = cc
put_says (u ∷ s) (suc d) v w e = put_says s d v w e

-- ---- live variables

pub live_fewer : (vs : Scope) (s t : Variables) (store regs : Store) → ((x : ℕ) → has t x ≡ true → has s x ≡ true) → Live vs s store regs → Live vs t store regs
live_fewer vs s t store regs f h = record { holds = λ x v i a e. h.holds x v i (f x a) e }

-- a register that is no live variable's gets another value
pub live_put : (vs : Scope) (s : Variables) (store regs : Store) (d : ℕ) (v : Option Datum) → ((x : ℕ) → Has vs x → has s x ≡ true → x ≢ d) → Live vs s store regs → Live vs s store (put regs d v)
live_put vs s store regs d v f h = record { holds = λ x w i a e. put_other regs d x v (f x i a) ∙ h.holds x w i a e }
