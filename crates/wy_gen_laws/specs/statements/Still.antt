-- Runs that spend no tick and print nothing: those of contracts.
use Rattle.std.specs.Prelude.{◌≡◌, ℕ}
use Rattle.wy_value.specs.Datum.{Datum}
use Rattle.wy_core.specs.Types.{Ty}
use Rattle.wy_core.specs.CoreTree.{Expr}
use Rattle.wy_vc_spec.specs.wy_sem.Meter.{Meter, Outcome, Done, Fault, More, Spent, Run}
use Rattle.wy_vc_spec.specs.wy_sem.Expressions.{Store, Setting, holds_at}
use Rattle.wy_vc_spec.specs.wy_sem.TypeTests.{Test}

-- an answer comes with as many ticks left and the same output; no tick is wanted
abbrev pub Stays : {X : Type 0} → Meter → Outcome X → Type 0
Stays m (Done x k) = (k.ticks ≡ m.ticks) × (k.output ≡ m.output)
Stays m (Fault kind at k) = Unit {0}
Stays m (More k) = ⊥
Stays m Spent = Unit {0}

pub record Still (X : Type 0) (r : Run X) : Type 0 where
  pub stays : (m : Meter) → Stays m (r m)

-- a clause does so, whatever its store
abbrev pub IsStill : Setting ℕ → Expr ℕ → Type 0
IsStill w e = (at : ℕ) (s : Store) → Still _ (holds_at w at e s)

-- what is asked of values that are given this type does so
abbrev pub IsStillTy : (Ty → Datum → Test) → Ty → Type 0
IsStillTy member t = (d : Datum) → Still _ (member t d)
