-- Relations of two runs that everything that an evaluation does respects.
use Rattle.std.specs.Prelude.{ℕ, zero, suc, Bool, Option, List}
use Rattle.wy_term.specs.wy_value.Datum.{Datum}
use Rattle.wy_term.specs.declared.cond.CondKind.{CondKind}
use Rattle.wy_sem.specs.Meter.{Done, Fault, More, Run, ◌>>=◌, spend, turn}
use Rattle.wy_sem.specs.TypeTests.{forgiven}
use Rattle.wy_sem.specs.Evaluation.{printed}

-- a relation of runs that ends, faults and sequences keep
pub record Relation : Type 1 where
  pub Rel : (X : Type 0) → Run X → Run X → Type 0
  pub done : (X : Type 0) (x : X) → Rel X (Done x) (Done x)
  pub fault : (X : Type 0) (kind : CondKind) (at : ℕ) → Rel X (Fault kind at) (Fault kind at)
  pub more : (X : Type 0) → Rel X More More
  pub bind : (X Y : Type 0) (r s : Run X) (f g : X → Run Y) → Rel X r s → ((x : X) → Rel Y (f x) (g x)) → Rel Y (λ m. r m >>= f) (λ m. s m >>= g)
  pub prints : (bytes : List ℕ) → Rel (Option Datum) (printed bytes) (printed bytes)
  pub pardon : (r s : Run Bool) → Rel Bool r s → Rel Bool (λ m. forgiven (r m)) (λ m. forgiven (s m))

-- spending keeps the relation, where nodes are paid or not
abbrev pub Spends : Relation → Bool → Type 1
Spends q paid = (X : Type 0) (r s : Run X) → q.Rel X r s → q.Rel X (spend paid r) (spend paid s)

-- turns keep the relation, with one limit on the left and another on the right
abbrev pub Turns : Relation → Option ℕ → Option ℕ → Bool → Type 1
Turns q left right paid = (X : Type 0) (r s : Run X) → q.Rel X r s → q.Rel X (turn left paid r) (turn right paid s)

-- two bounds that stand beside each other, on the turns of loops or on the depth of calls, where a run that starts with as many as it has ticks is bounded by them
pub record Bounds (q : Relation) : Type 1 where
  pub Beside : ℕ → ℕ → Type 0
  pub alike : (a : ℕ) → Beside a a
  pub below : (a b : ℕ) → Beside (suc a) (suc b) → Beside a b
  pub never : (a : ℕ) → Beside (suc a) zero → ⊥
  pub ended : (X : Type 0) (b : ℕ) (r s : Run X) → Beside zero (suc b) → q.Rel X r s → q.Rel X More s
  pub begun : (X : Type 0) (f g : ℕ → Run X) → ((a b : ℕ) → Beside a b → q.Rel X (f a) (g b)) → q.Rel X (λ m. f (suc m.ticks) m) (λ m. g (suc m.ticks) m)
