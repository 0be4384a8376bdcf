-- How an evaluation ends, and what it spends on its way.
use Rattle.std.specs.Prelude.{ℕ, zero, suc, ◌+◌, List, ◌++◌, Bool, true, false, cond, Option, Some, None, nat_lt}
use Rattle.wy_term.specs.declared.cond.CondKind.{CondKind}

-- the ticks that are left, the turns that contracts have spent, and the bytes that are printed
pub record Meter : Type 0 where
  pub ticks : ℕ
  pub turns : ℕ
  pub output : List ℕ

-- done with an answer; a fault of a kind, at a place; a tick was wanted and none was left; or a turn was wanted beyond the limit on turns
pub data Outcome (X : Type 0) : Type 0 where
  Done : (answer : X) (meter : Meter) → Outcome X
  Fault : (kind : CondKind) (at : ℕ) (meter : Meter) → Outcome X
  More : (meter : Meter) → Outcome X
  Spent : Outcome X

-- what goes on from a meter
abbrev pub Run : Type 0 → Type 0
Run X = Meter → Outcome X

infixl 10 ◌>>=◌
-- the one, and then the other with its answer
abbrev pub ◌>>=◌ : {X Y : Type 0} → Outcome X → (X → Run Y) → Outcome Y
Done x m >>= f = f x m
Fault kind at m >>= f = Fault kind at m
More m >>= f = More m
Spent >>= f = Spent

-- one of these ticks is spent, and then the next
abbrev pub tick : {X : Type 0} → ℕ → Run X → Run X
tick zero next m = More m
tick (suc left) next m = next (record m { ticks = left })

-- code spends a tick, and a contract spends none
abbrev pub spend : {X : Type 0} → Bool → Run X → Run X
spend true next m = tick m.ticks next m
spend false next m = next m

-- one turn more, where the limit allows it
abbrev pub count : {X : Type 0} → Option ℕ → Run X → Run X
count None next m = next (record m { turns = m.turns + 1 })
count (Some limit) next m = cond (nat_lt m.turns limit) (next (record m { turns = m.turns + 1 })) Spent

-- a turn of a quantifier or a visit of a type: a tick in code, a turn in a contract
abbrev pub turn : {X : Type 0} → Option ℕ → Bool → Run X → Run X
turn limit true next m = tick m.ticks next m
turn limit false next m = count limit next m

-- what must be true, else it is a fault of this kind at this place
abbrev pub check : {X : Type 0} → Bool → CondKind → ℕ → Run X → Run X
check true kind at next m = next m
check false kind at next m = Fault kind at m

-- the one or the other
abbrev pub choose : {X : Type 0} → Bool → Run X → Run X → Run X
choose true first second m = first m
choose false first second m = second m

-- these bytes are printed
abbrev pub print : List ℕ → Meter → Meter
print bytes m = record m { output = m.output ++ bytes }
