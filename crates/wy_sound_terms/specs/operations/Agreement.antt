-- What an operation on data has to do with its term and its goals: where all goals hold it ends with what the term means, and else it is a fault.
use Rattle.std.specs.Prelude.{◌≡◌, ◌⊎◌, ℕ, List, [], ◌∷◌, ◌++◌, Bool, true, false, Option, Some}
use Rattle.wy_term_subst.specs.wy_value.Datum.{Datum, Truth, Array, Record}
use Rattle.wy_vc_spec.specs.wy_core.declared.expressions.Op.{Op}
use Rattle.wy_vc_spec.specs.wy_core.declared.expressions.Op.TheVariants.{And, Or}
use Rattle.wy_term_subst.specs.wy_term.declared.cond.CondKind.{CondKind}
use Rattle.wy_term_subst.specs.wy_term.Term.{Term}
use Rattle.wy_term_subst.specs.wy_term.Meaning.{Names, sense}
use Rattle.wy_term_subst.specs.wy_term.Condition.{AllTrue}
use Rattle.wy_vc_spec.specs.wy_sem.Meter.{Meter, Outcome, Done, Fault, Run}
use Rattle.wy_vc_spec.specs.wy_sem.Operations.{negated, denied, length_result, applied, operated, item_of, field_of, repeated}
use Rattle.wy_vc_spec.specs.Making.{field, truth}
use Rattle.wy_vc_spec.specs.Operations as op
use Rattle.wy_vc_spec.specs.Walks.{Goals, operator_goals, range_goals, index_goals, length_goals}
use Rattle.wy_sound_terms.specs.operations.Kinds.{IsWhole, IsTruth, IsArray, HasField, Takes}

-- the datum that the term means
abbrev pub datum_of : Names → Term → Datum
datum_of names t = (sense names t).datum

-- the run is a fault
abbrev pub IsFault : {X : Type 0} → Outcome X → Type 0
IsFault {X} o = (kind : CondKind) × (at : ℕ) × (m : Meter) × (◌≡◌ {A = Outcome X} o (Fault kind at m))

-- either all of the goals hold, and the run ends with what the term means and spends nothing; or one of them doesn't, and it is a fault
abbrev pub Follows : Names → List Term → Run Datum → Term → Type 0
Follows names goals run made = (m : Meter) → (AllTrue names goals × (run m ≡ Done (datum_of names made) m)) ⊎ ((AllTrue names goals → ⊥) × IsFault (run m))

-- the goals of each kind, one after the other
abbrev pub all_goals : List Goals → List Term
all_goals [] = []
all_goals (g ∷ gs) = g.goals ++ all_goals gs

-- an operator whose operands were both evaluated
abbrev pub OperatorsAgree : Type 0
OperatorsAgree = (names : Names) (o : Op) (numbers : Bool) (v w : Term) (at : ℕ) → Takes o numbers (datum_of names v) (datum_of names w)
    → Follows names (all_goals (operator_goals o w (op.operated o numbers v w))) (applied o at (datum_of names v) (datum_of names w)) (op.operated o numbers v w)

-- `&&` and `||` where the left operand decides: the right one, whatever it is, stays out
pub record EarlyAgree : Type 0 where
  pub and : (names : Names) (numbers : Bool) (v w : Term) (at : ℕ) (right : Run Datum) → datum_of names v ≡ Truth false → Follows names [] (operated And at right (datum_of names v)) (op.operated And numbers v w)
  pub or : (names : Names) (numbers : Bool) (v w : Term) (at : ℕ) (right : Run Datum) → datum_of names v ≡ Truth true → Follows names [] (operated Or at right (datum_of names v)) (op.operated Or numbers v w)

-- the other operations
pub record OthersAgree : Type 0 where
  pub negation : (names : Names) (v : Term) (at : ℕ) → IsWhole (datum_of names v) → Follows names (range_goals (op.negated v)) (negated at (datum_of names v)) (op.negated v)
  pub denial : (names : Names) (v : Term) (at : ℕ) → IsTruth (datum_of names v) → Follows names [] (denied at (datum_of names v)) (op.with_denial v)
  pub length : (names : Names) (v : Term) (at : ℕ) → IsArray (datum_of names v) → Follows names [] (length_result at (datum_of names v)) (op.length v)
  pub element : (names : Names) (v i : Term) (at : ℕ) → IsArray (datum_of names v) → IsWhole (datum_of names i) → Follows names (index_goals v i) (item_of at (datum_of names v) (datum_of names i)) (op.element v i)
  pub field_value : (names : Names) (v : Term) (name : List ℕ) (at : ℕ) → HasField name (datum_of names v) → Follows names [] (field_of at (datum_of names v) name) (field name v)
  pub repeat : (names : Names) (v n : Term) (at : ℕ) → IsWhole (datum_of names n) → Follows names (length_goals n) (repeated at (datum_of names v) (datum_of names n)) (op.repeated v n)
