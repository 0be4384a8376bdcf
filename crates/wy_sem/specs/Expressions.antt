-- What an expression evaluates to.
use Rattle.std.specs.Prelude.{ℕ, zero, suc, List, [], ◌∷◌, Bool, false, Option, Some, None, ℤ, pos, ◌+ℤ◌, ◌-ℤ◌}
use Rattle.wy_term.specs.wy_value.Datum.{Datum, Null, Truth, Whole, Array, Record, Fields, no_fields, field}
use Rattle.wy_types.specs.wy_core.Types.{Ty}
use Rattle.wy_types.specs.wy_core.CoreTree as tree
use Rattle.wy_types.specs.wy_core.CoreTree.{Expr, NullExpr, BoolExpr, IntExpr, VarExpr, CallExpr, NegExpr, NotExpr, LenExpr, BinaryExpr, IsExpr, IndexExpr, FieldExpr, ListExpr, RepeatExpr, RecordExpr, QuantExpr, Exprs, NoExprs, MoreExprs, NoFields, MoreFields}
use Rattle.wy_term.specs.declared.cond.CondKind.{CondKind}
use Rattle.wy_sem.specs.Meter.{Done, More, Run, ◌>>=◌, spend, turn, check, choose}
use Rattle.wy_sem.specs.Operations.{nat_of, agrees, as_truth, needed, negated, denied, length_result, operated, item_of, field_of, repeated, numbers}
pub use Rattle.wy_term.specs.wy_value.Seen.{data_of}

-- the value of each variable by its number, None where it is unset
abbrev pub Store : Type 0
Store = List (Option Datum)

abbrev pub slot : Store → ℕ → Option Datum
slot [] x = None
slot (v ∷ vs) zero = v
slot (v ∷ vs) (suc x) = slot vs x

-- the store with this for the variable
abbrev pub put : Store → ℕ → Option Datum → Store
put [] x w = []
put (v ∷ vs) zero w = w ∷ vs
put (v ∷ vs) (suc x) w = v ∷ put vs x w

-- what an evaluation rests on: where nodes stand, the limit on turns, the tests of types (in code or in a contract), and what calls do, each call at its place
pub record Setting (N : Type 0) : Type 0 where
  pub place : N → ℕ
  pub limit : Option ℕ
  pub test : Bool → Ty → Datum → Run Bool
  pub call : ℕ → ℕ → List Datum → Run (Option Datum)

-- contracts call nothing
abbrev pub no_calls : ℕ → ℕ → List Datum → Run (Option Datum)
no_calls routine at args m = More m

abbrev pub quiet : {N : Type 0} → Setting N → Setting N
quiet w = record w { call = no_calls }

-- the node of an expression
abbrev pub node : {N : Type 0} → Expr N → N
node (NullExpr n) = n
node (BoolExpr n truth) = n
node (IntExpr n number) = n
node (VarExpr n variable) = n
node (CallExpr n routine args) = n
node (NegExpr n operand) = n
node (NotExpr n operand) = n
node (LenExpr n operand) = n
node (BinaryExpr n op left right) = n
node (IsExpr n operand ty) = n
node (IndexExpr n array index) = n
node (FieldExpr n whole name) = n
node (ListExpr n items) = n
node (RepeatExpr n one many) = n
node (RecordExpr n parts) = n
node (QuantExpr n all variable from to body) = n

-- how many numbers there are from the one to before the other
abbrev pub span : ℤ → ℤ → ℕ
span from to = nat_of (to -ℤ from)

-- this many turns, from this number on: `all` (true) ends at the first that is false, `some` (false) at the first that is true
abbrev pub each : Bool → ℕ → (ℤ → Run Datum) → ℤ → ℕ → Run Datum
each all at body i zero m = Done (Truth all) m
each all at body i (suc j) m = body i m >>= (λ v. as_truth at v (λ b. choose (agrees all b) (each all at body (i +ℤ pos 1) j) (Done (Truth b))))

abbrev pub quantified : Bool → ℕ → (ℤ → Run Datum) → Datum → Datum → Run Datum
quantified all at body v w = numbers at v w (λ from to. each all at body from (span from to))

abbrev mutual
  -- the datum of an expression; each node spends a tick in code
  pub eval : {N : Type 0} → Setting N → Bool → Expr N → Store → Run Datum
  eval w paid (NullExpr n) s = spend paid (Done Null)
  eval w paid (BoolExpr n b) s = spend paid (Done (Truth b))
  eval w paid (IntExpr n z) s = spend paid (Done (Whole z))
  eval w paid (VarExpr n x) s = spend paid (needed (w.place n) (slot s x) Done)
  eval w paid (CallExpr n f es) s = spend paid (λ m. eval_all w paid es s m >>= (λ vs k. w.call f (w.place n) vs k >>= (λ v. needed (w.place n) v Done)))
  eval w paid (NegExpr n a) s = spend paid (λ m. eval w paid a s m >>= negated (w.place n))
  eval w paid (NotExpr n a) s = spend paid (λ m. eval w paid a s m >>= denied (w.place n))
  eval w paid (LenExpr n a) s = spend paid (λ m. eval w paid a s m >>= length_result (w.place n))
  eval w paid (BinaryExpr n op a b) s = spend paid (λ m. eval w paid a s m >>= operated op (w.place n) (eval w paid b s))
  eval w paid (IsExpr n a t) s = spend paid (λ m. eval w paid a s m >>= (λ v k. w.test paid t v k >>= (λ b. Done (Truth b))))
  eval w paid (IndexExpr n a i) s = spend paid (λ m. eval w paid a s m >>= (λ v k. eval w paid i s k >>= item_of (w.place n) v))
  eval w paid (FieldExpr n a name) s = spend paid (λ m. eval w paid a s m >>= (λ v. field_of (w.place n) v name))
  eval w paid (ListExpr n es) s = spend paid (λ m. eval_all w paid es s m >>= (λ vs. Done (Array (data_of vs))))
  eval w paid (RepeatExpr n a c) s = spend paid (λ m. eval w paid a s m >>= (λ v k. eval w paid c s k >>= repeated (w.place n) v))
  eval w paid (RecordExpr n fs) s = spend paid (λ m. eval_fields w paid fs s m >>= (λ ds. Done (Record ds)))
  eval w paid (QuantExpr n all x a b body) s = spend paid (λ m. eval w paid a s m >>= (λ v k. eval w paid b s k >>= (λ u.
      quantified all (w.place n) (λ i. turn w.limit paid (eval w paid body (put s x (Some (Whole i))))) v u)))

  -- the data of expressions, from left to right
  pub eval_all : {N : Type 0} → Setting N → Bool → Exprs N → Store → Run (List Datum)
  eval_all w paid NoExprs s m = Done [] m
  eval_all w paid (MoreExprs e es) s m = eval w paid e s m >>= (λ v k. eval_all w paid es s k >>= (λ vs. Done (v ∷ vs)))

  -- the data of a record's fields, from left to right
  pub eval_fields : {N : Type 0} → Setting N → Bool → tree.Fields N → Store → Run Fields
  eval_fields w paid NoFields s m = Done no_fields m
  eval_fields w paid (MoreFields name e es) s m = eval w paid e s m >>= (λ v k. eval_fields w paid es s k >>= (λ ds. Done (field name v ds)))

-- whether an expression of a contract holds, which spends no tick; where it is no truth value, it is a fault at this place
abbrev pub holds_at : {N : Type 0} → Setting N → ℕ → Expr N → Store → Run Bool
holds_at w at e s m = eval (quiet w) false e s m >>= (λ v. as_truth at v Done)

-- whether a clause holds; its place is that of its expression
abbrev pub holds : {N : Type 0} → Setting N → Expr N → Store → Run Bool
holds w e s = holds_at w (w.place (node e)) e s

-- each of the clauses must hold, else it is a fault of this kind at this place
abbrev pub clauses : {X : Type 0} {N : Type 0} → Setting N → CondKind → ℕ → List (Expr N) → Store → Run X → Run X
clauses w kind at [] s next m = next m
clauses w kind at (e ∷ es) s next m = holds w e s m >>= (λ b. check b kind at (clauses w kind at es s next))
