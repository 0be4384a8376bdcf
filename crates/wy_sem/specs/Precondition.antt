-- Whether arguments meet a function or method, and what it costs to tell.
use Rattle.std.specs.Prelude.{◌≡◌, ℕ, ◌+◌, List, [], ◌∷◌, length, Bool, true, false, Option, None, nat_eq}
use Rattle.wy_term.specs.wy_value.Datum.{Datum}
use Rattle.wy_types.specs.wy_core.CoreTree.{Expr, Alias, Routine, Param, Core, aliases_of, routines_of}
use Rattle.wy_sem.specs.Meter.{Meter, Outcome, Done, Run, ◌>>=◌}
use Rattle.wy_sem.specs.Expressions.{Store, Setting, holds}
use Rattle.wy_sem.specs.TypeTests.{clause_setting, member, forgiven}
use Rattle.wy_sem.specs.Membership.{is_member, is_yes}
use Rattle.wy_sem.specs.Evaluation.{Callee, Declared, Print, PrintInt, Undeclared, callee, entry_of, start, turns_of}

-- what a test of a precondition finds: it is met; the number of arguments is wrong; the argument with this number, from 1, isn't of its type; or the requires clause with this number, from 1, isn't true
pub data Verdict : Type 0 where
  Met : Verdict
  CountFails : Verdict
  TypeFails : (argument : ℕ) → Verdict
  RequiresFails : (clause : ℕ) → Verdict

abbrev pub passed : Bool → Verdict → Run Verdict → Run Verdict
passed true wrong next = next
passed false wrong next = Done wrong

-- the requires clauses from this number on; one that faults isn't true
abbrev pub requires_met : {N : Type 0} → Setting N → List (Expr N) → Store → ℕ → Run Verdict
requires_met w [] s k = Done Met
requires_met w (e ∷ es) s k = λ m. forgiven (holds w e s m) >>= (λ b. passed b (RequiresFails k) (requires_met w es s (k + 1)))

-- the arguments from this number on
abbrev pub types_met : {N : Type 0} → (N → ℕ) → Option ℕ → List (Alias N) → List Param → List Datum → ℕ → Run Verdict → Run Verdict
types_met place limit types [] vs k next = next
types_met place limit types (p ∷ ps) [] k next = next
types_met place limit types (p ∷ ps) (v ∷ vs) k next = λ m. member place limit types p.ty v m >>= (λ b. passed b (TypeFails k) (types_met place limit types ps vs (k + 1) next))

abbrev pub routine_met : {N : Type 0} → (N → ℕ) → Option ℕ → List (Alias N) → Routine N → List Datum → Run Verdict
routine_met place limit types r vs = passed (nat_eq (length vs) (length r.params)) CountFails
    (types_met place limit types r.params vs 1 (requires_met (clause_setting place limit types) r.preconditions (entry_of r vs) 1))

abbrev pub callee_met : {N : Type 0} → (N → ℕ) → Option ℕ → List (Alias N) → Callee N → List Datum → Run Verdict
callee_met place limit types (Declared r) vs = routine_met place limit types r vs
callee_met place limit types Print vs = Done CountFails
callee_met place limit types PrintInt vs = Done CountFails
callee_met place limit types Undeclared vs = Done CountFails

-- the test of the precondition, with at most so many turns
abbrev pub precondition : {N : Type 0} → (N → ℕ) → Option ℕ → Core N → ℕ → List Datum → Outcome Verdict
precondition place limit core f vs = callee_met place limit (aliases_of core) (callee (routines_of core) f) vs (start 0)

-- how many visits and quantifier turns the test makes until its answer is fixed
abbrev pub cost : {N : Type 0} → (N → ℕ) → Core N → ℕ → List Datum → ℕ
cost place core f vs = turns_of (precondition place None core f vs)

-- ---- without a count

-- each argument is in the type of its parameter
abbrev pub AreMembers : {N : Type 0} → (N → ℕ) → List (Alias N) → List Param → List Datum → Type 0
AreMembers place types [] vs = Unit {0}
AreMembers place types (p ∷ ps) [] = Unit {0}
AreMembers place types (p ∷ ps) (v ∷ vs) = (is_member place types v p.ty ≡ true) × AreMembers place types ps vs

-- each clause evaluates to true
abbrev pub AreTrue : {N : Type 0} → Setting N → List (Expr N) → Store → Type 0
AreTrue w [] s = Unit {0}
AreTrue w (e ∷ es) s = (is_yes (holds w e s (start 0)) ≡ true) × AreTrue w es s

-- the number of arguments is right, each is in its type, and each requires clause evaluates to true
pub record RoutineMeets {N : Type 0} (place : N → ℕ) (types : List (Alias N)) (r : Routine N) (vs : List Datum) : Type 0 where
  pub count : length vs ≡ length r.params
  pub members : AreMembers place types r.params vs
  pub requires_hold : AreTrue (clause_setting place None types) r.preconditions (entry_of r vs)

abbrev pub CalleeMeets : {N : Type 0} → (N → ℕ) → List (Alias N) → Callee N → List Datum → Type 0
CalleeMeets place types (Declared r) vs = RoutineMeets place types r vs
CalleeMeets place types Print vs = ⊥
CalleeMeets place types PrintInt vs = ⊥
CalleeMeets place types Undeclared vs = ⊥

-- the arguments meet the function or method with this number
abbrev pub Meets : {N : Type 0} → (N → ℕ) → Core N → ℕ → List Datum → Type 0
Meets place core f vs = CalleeMeets place (aliases_of core) (callee (routines_of core) f) vs

-- where the test of a precondition has an answer, it is that the precondition is met exactly where it is
abbrev pub MetIsExact : {N : Type 0} → (N → ℕ) → Core N → ℕ → List Datum → Type 0
MetIsExact place core f vs = (v : Verdict) (m : Meter) → precondition place None core f vs ≡ Done v m → (v ≡ Met → Meets place core f vs) × (Meets place core f vs → v ≡ Met)
