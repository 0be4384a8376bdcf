-- What registers hold beside a store. The variables have the first n registers, and the values of expressions those behind.
use Rattle.std.specs.Prelude.{◌≡◌, ◌<◌, ◌≤◌, ℕ, suc, List, [], ◌∷◌, length, true, Some}
use Rattle.wy_value.specs.Datum.{Datum}
use Rattle.wy_core.specs.formed.Bound.{Scope, Has}
use Rattle.wy_code_spec.specs.wy_live.Sets.{Variables, has}
use Rattle.wy_vc_spec.specs.wy_sem.Expressions.{Store, slot}

-- the register of each live variable in scope that is set holds its value; all other registers may hold anything. A variable may be live where it isn't in scope yet: in front of a declaration without a value
pub record Live (vs : Scope) (s : Variables) (store regs : Store) : Type 0 where
  pub holds : (x : ℕ) (v : Datum) → Has vs x → has s x ≡ true → slot store x ≡ Some v → slot regs x ≡ Some v

-- the value has come into register d, the live variables are held, and the values before register d are still there
pub record Got (vs : Scope) (n d : ℕ) (s : Variables) (store before : Store) (v : Datum) (regs : Store) : Type 0 where
  pub value : slot regs d ≡ Some v
  pub live : Live vs s store regs
  pub kept : (t : ℕ) → n ≤ t → t < d → slot regs t ≡ slot before t
  pub size : length regs ≡ length before

-- the values stand in the registers from d on
abbrev pub Hold : Store → ℕ → List Datum → Type 0
Hold s d [] = Unit {0}
Hold s d (v ∷ vs) = (slot s d ≡ Some v) × Hold s (suc d) vs
