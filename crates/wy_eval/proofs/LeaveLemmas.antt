-- Results that are given, and calls that are entered.
use Rattle.std.proofs.Common.{◌≡◌, ◌≢◌, ℕ, List, map, length, Option, Some, None, sym, ap, ◌∙◌}
use Rattle.std.proofs.lemmas.Bool.{eq-eqb}
use Rattle.wy_eval_exprs.proofs.BeginLemmas.{counts}
use Rattle.wy_value.specs.Datum.{Datum}
use Rattle.wy_value.specs.declared.value.Value.{Value}
use Rattle.wy_value.specs.Seen.{seen}
use Rattle.wy_core.specs.CoreSeen.{seen_exprs, seen_output, seen_param, seen_routine, seen_ty}
use Rattle.wy_core.specs.CoreTree as tree
use Rattle.wy_core.specs.declared.declarations.Output.{Output}
use Rattle.wy_core.specs.declared.declarations.Param.{Param}
use Rattle.wy_core.specs.declared.declarations.Routine.{Routine}
use Rattle.wy_core.specs.declared.expressions.Expr.{Expr}
use Rattle.wy_core.specs.declared.types.Ty.{Ty}
use Rattle.wy_term.specs.declared.cond.CondKind.TheVariants.{Ensures, Member, Requires}
use Rattle.wy_sem.specs.Evaluation.{arguments, bound, entry_of, owed_member}
use Rattle.wy_sem.specs.Expressions.{Store, clauses}
use Rattle.wy_sem.specs.Meter.{Meter, Done, Run, check}
use Rattle.wy_sem.specs.Statements.{Exit, Gave, given, leave}
use Rattle.wy_sem.specs.TypeTests.{clause_setting, set_if, unset}
use Rattle.wy_eval_exprs.specs.declared.stop.Stop.{Stop}
use Rattle.wy_eval_exprs.specs.declared.stop.Stop.TheVariants as stop
use Rattle.wy_eval_exprs.specs.Outcomes.{stopped}
use Rattle.wy_eval_exprs.specs.Settings.{here}
use Rattle.wy_eval_exprs.proofs.StepLemmas.{done}
use Rattle.wy_eval.specs.Entries.{entering}
use Rattle.wy_eval.specs.Exits.{frame}
use Rattle.wy_eval.proofs.FollowLemmas.{clauses_stops, clauses_then, given_stops, given_then}

-- ---- a result that is given

-- what the ensures clauses are followed by
abbrev pub left : ℕ → List (tree.Alias ℕ) → Routine → List Ty → Store → ℕ → Option Datum → Run Exit
left limit types r ts entry at v = leave (clause_setting here (Some limit) types) (frame limit types r ts entry) at (seen_output r.result) v

pub leave_none : (limit : ℕ) (types : List (tree.Alias ℕ)) (r : Routine) (ts : List Ty) (entry : Store) (at : ℕ) (cs : List Expr) (m k : Meter) → r.result ≡ None → cs ≡ r.postconditions
    → clauses (clause_setting here (Some limit) types) Ensures at (seen_exprs cs) entry done m ≡ Done tt k → left limit types r ts entry at None m ≡ Done (Gave None) k
leave_none limit types r ts entry at cs m k none same h =
    let w = clause_setting here (Some limit) types in
    ap (λ o. leave w (frame limit types r ts entry) at (seen_output o) None m) none
    ∙ (ap (λ l. clauses w Ensures at (seen_exprs l) entry (Done (Gave None)) m) (sym same)
    ∙ clauses_then w Ensures at (seen_exprs cs) entry (Done (Gave None)) m k h)

pub leave_none_stops : (limit : ℕ) (types : List (tree.Alias ℕ)) (r : Routine) (ts : List Ty) (entry : Store) (at : ℕ) (cs : List Expr) (m k : Meter) (e : Stop) → r.result ≡ None → cs ≡ r.postconditions
    → (e ≢ stop.NoMemory → clauses (clause_setting here (Some limit) types) Ensures at (seen_exprs cs) entry done m ≡ stopped e k) → e ≢ stop.NoMemory → left limit types r ts entry at None m ≡ stopped e k
leave_none_stops limit types r ts entry at cs m k e none same h not_memory =
    let w = clause_setting here (Some limit) types in
    ap (λ o. leave w (frame limit types r ts entry) at (seen_output o) None m) none
    ∙ (ap (λ l. clauses w Ensures at (seen_exprs l) entry (Done (Gave None)) m) (sym same)
    ∙ clauses_stops w Ensures at (seen_exprs cs) entry (Done (Gave None)) m k e h not_memory)

-- what is checked where a value is given
abbrev pub giving : ℕ → List (tree.Alias ℕ) → Routine → Store → ℕ → Output → Datum → Run Exit
giving limit types r entry at o d = given (owed_member here (Some limit) types) at (seen_ty o.ty) d
    (clauses (clause_setting here (Some limit) types) Ensures at (seen_exprs r.postconditions) (set_if entry o.variable (Some d)) (Done (Gave (Some d))))

leave_some : (limit : ℕ) (types : List (tree.Alias ℕ)) (r : Routine) (ts : List Ty) (entry : Store) (at : ℕ) (o : Output) (d : Datum) (m : Meter) → r.result ≡ Some o → left limit types r ts entry at (Some d) m ≡ giving limit types r entry at o d m
leave_some limit types r ts entry at o d m is = ap (λ x. leave (clause_setting here (Some limit) types) (frame limit types r ts entry) at (seen_output x) (Some d) m) is

pub leave_refused : (limit : ℕ) (types : List (tree.Alias ℕ)) (r : Routine) (ts : List Ty) (entry : Store) (at : ℕ) (o : Output) (d : Datum) (m k : Meter) (e : Stop) → r.result ≡ Some o
    → (e ≢ stop.NoMemory → given (owed_member here (Some limit) types) at (seen_ty o.ty) d done m ≡ stopped e k) → e ≢ stop.NoMemory → left limit types r ts entry at (Some d) m ≡ stopped e k
leave_refused limit types r ts entry at o d m k e is h none =
    leave_some limit types r ts entry at o d m is
    ∙ given_stops (owed_member here (Some limit) types) at (seen_ty o.ty) d
    (clauses (clause_setting here (Some limit) types) Ensures at (seen_exprs r.postconditions) (set_if entry o.variable (Some d)) (Done (Gave (Some d)))) m k e h none

leave_given : (limit : ℕ) (types : List (tree.Alias ℕ)) (r : Routine) (ts : List Ty) (entry : Store) (at : ℕ) (o : Output) (d : Datum) (cs : List Expr) (s : Store) (m k : Meter) → r.result ≡ Some o
    → given (owed_member here (Some limit) types) at (seen_ty o.ty) d done m ≡ Done tt k → cs ≡ r.postconditions → s ≡ set_if entry o.variable (Some d)
    → left limit types r ts entry at (Some d) m ≡ clauses (clause_setting here (Some limit) types) Ensures at (seen_exprs cs) s (Done (Gave (Some d))) k
leave_given limit types r ts entry at o d cs s m k is h same held =
    let w = clause_setting here (Some limit) types in
    leave_some limit types r ts entry at o d m is
    ∙ (given_then (owed_member here (Some limit) types) at (seen_ty o.ty) d (clauses w Ensures at (seen_exprs r.postconditions) (set_if entry o.variable (Some d)) (Done (Gave (Some d)))) m k h
    ∙ (ap (λ l. clauses w Ensures at (seen_exprs l) (set_if entry o.variable (Some d)) (Done (Gave (Some d))) k) (sym same) ∙ ap (λ z. clauses w Ensures at (seen_exprs cs) z (Done (Gave (Some d))) k) (sym held)))

pub leave_done : (limit : ℕ) (types : List (tree.Alias ℕ)) (r : Routine) (ts : List Ty) (entry : Store) (at : ℕ) (o : Output) (d : Datum) (cs : List Expr) (s : Store) (m k j : Meter) → r.result ≡ Some o
    → given (owed_member here (Some limit) types) at (seen_ty o.ty) d done m ≡ Done tt k → cs ≡ r.postconditions → s ≡ set_if entry o.variable (Some d)
    → clauses (clause_setting here (Some limit) types) Ensures at (seen_exprs cs) s done k ≡ Done tt j → left limit types r ts entry at (Some d) m ≡ Done (Gave (Some d)) j
leave_done limit types r ts entry at o d cs s m k j is h same held g =
    leave_given limit types r ts entry at o d cs s m k is h same held ∙ clauses_then (clause_setting here (Some limit) types) Ensures at (seen_exprs cs) s (Done (Gave (Some d))) k j g

pub leave_stops : (limit : ℕ) (types : List (tree.Alias ℕ)) (r : Routine) (ts : List Ty) (entry : Store) (at : ℕ) (o : Output) (d : Datum) (cs : List Expr) (s : Store) (m k j : Meter) (e : Stop) → r.result ≡ Some o
    → given (owed_member here (Some limit) types) at (seen_ty o.ty) d done m ≡ Done tt k → cs ≡ r.postconditions → s ≡ set_if entry o.variable (Some d)
    → (e ≢ stop.NoMemory → clauses (clause_setting here (Some limit) types) Ensures at (seen_exprs cs) s done k ≡ stopped e j) → e ≢ stop.NoMemory → left limit types r ts entry at (Some d) m ≡ stopped e j
leave_stops limit types r ts entry at o d cs s m k j e is h same held g none =
    leave_given limit types r ts entry at o d cs s m k is h same held ∙ clauses_stops (clause_setting here (Some limit) types) Ensures at (seen_exprs cs) s (Done (Gave (Some d))) k j e g none

-- ---- a call that is entered

-- the requires clauses of a call, and what follows
abbrev pub required : ℕ → List (tree.Alias ℕ) → Routine → ℕ → List Datum → Run (Option Datum) → Run (Option Datum)
required limit types r at vs next = clauses (clause_setting here (Some limit) types) Requires at (seen_exprs r.preconditions) (entry_of (seen_routine r) vs) next

pub counted : (limit : ℕ) (types : List (tree.Alias ℕ)) (r : Routine) (at : ℕ) (ps : List Param) (vs : List Value) (next : Run (Option Datum)) (m : Meter) → ps ≡ r.params → length vs ≡ length ps
    → entering limit types (seen_routine r) at (map seen vs) next m ≡ arguments (owed_member here (Some limit) types) at (map seen_param ps) (map seen vs) (required limit types r at (map seen vs) next) m
counted limit types r at ps vs next m same h =
    ap (λ b. check b Member at (arguments (owed_member here (Some limit) types) at (map seen_param r.params) (map seen vs) (required limit types r at (map seen vs) next)) m)
    (eq-eqb (length (map seen vs)) (length (map seen_param r.params)) ((counts vs r.params).0 ∙ (h ∙ (ap length same ∙ sym (counts vs r.params).1))))
    ∙ ap (λ l. arguments (owed_member here (Some limit) types) at (map seen_param l) (map seen vs) (required limit types r at (map seen vs) next) m) (sym same)

-- the variables at entry
pub entry_is : (r : Routine) (ps : List Param) (names : List (List ℕ)) (vs : List Datum) (s : Store) → ps ≡ r.params → names ≡ r.variables → s ≡ bound (map seen_param ps) vs (unset names) → s ≡ entry_of (seen_routine r) vs
entry_is r ps names vs s ps_is names_is s_is = s_is ∙ (ap (λ l. bound (map seen_param l) vs (unset names)) ps_is ∙ ap (λ l. bound (map seen_param r.params) vs (unset l)) names_is)

-- the requires clauses, where these are the parts of the declaration
pub required_here : (limit : ℕ) (types : List (tree.Alias ℕ)) (r : Routine) (at : ℕ) (ps : List Param) (names : List (List ℕ)) (cs : List Expr) (vs : List Datum) (s : Store) (next : Run (Option Datum)) (m : Meter) → ps ≡ r.params → names ≡ r.variables → cs ≡ r.preconditions
    → s ≡ bound (map seen_param ps) vs (unset names) → required limit types r at vs next m ≡ clauses (clause_setting here (Some limit) types) Requires at (seen_exprs cs) s next m
required_here limit types r at ps names cs vs s next m ps_is names_is cs_is s_is =
    let w = clause_setting here (Some limit) types in
    ap (λ l. clauses w Requires at (seen_exprs l) (entry_of (seen_routine r) vs) next m) (sym cs_is) ∙ ap (λ z. clauses w Requires at (seen_exprs cs) z next m) (sym (entry_is r ps names vs s ps_is names_is s_is))
