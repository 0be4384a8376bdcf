-- Calls: what is called, and that clauses in code are those of contracts.
use Rattle.std.proofs.Common.{◌≡◌, ◌≢◌, ℕ, zero, suc, ◌≤◌, Bool, true, false, List, [], ◌∷◌, map, length, Option, Some, None, refl, sym, ap, ◌∙◌, arith}
use Rattle.std.specs.Prelude.{nat_eq}
use Rattle.wy_value.specs.Datum.{Datum}
use Rattle.wy_core.specs.CoreSeen.{seen_block, seen_exprs, seen_output, seen_routine, seen_ty}
use Rattle.wy_core.specs.CoreTree as tree
use Rattle.wy_core.specs.CoreTree.{Core, Expr, aliases_of, routines_of}
use Rattle.wy_core.specs.Types.{Ty}
use Rattle.wy_core.specs.declared.declarations.Routine.{Routine}
use Rattle.wy_core.specs.declared.statements.Stmt.{Stmt}
use Rattle.wy_core.specs.declared.types.Ty as code_ty
use Rattle.wy_term.specs.declared.cond.CondKind.{CondKind}
use Rattle.wy_term.specs.declared.cond.CondKind.TheVariants.{Ensures, Member, Requires}
use Rattle.wy_sem.specs.Evaluation.{Declared, arguments, callee, called, entry_of, frame_of, owed_member, result_given, result_of, routine_call, run, types_of}
use Rattle.wy_sem.specs.Expressions.{Store, clauses}
use Rattle.wy_sem.specs.Meter.{Meter, Outcome, Done, Fault, More, Spent, Run, ◌>>=◌, check, spend}
use Rattle.wy_sem.specs.Statements.{Exit, Went, Broke, Continued, Gave, Frame, exec_all, leave}
use Rattle.wy_sem.specs.TypeTests.{Test, clause_setting, set_if}
use Rattle.wy_eval_exprs.specs.declared.stop.Stop.{Stop}
use Rattle.wy_eval_exprs.specs.declared.stop.Stop.TheVariants as stop
use Rattle.wy_eval_exprs.specs.Outcomes.{stopped}
use Rattle.wy_eval_exprs.specs.Settings.{here}
use Rattle.wy_eval_exprs.proofs.StepLemmas.{done, spent, spent_stops}
use Rattle.wy_eval.specs.Entries.{entering}
use Rattle.wy_eval.specs.Exits.{frame}
use Rattle.wy_eval.proofs.FollowLemmas.{clauses_same}
use Rattle.wy_eval.specs.Settings.{code, built_in_call}

-- ---- clauses in code are those of contracts

pub clauses_as : {X : Type 0} (core : Core ℕ) (types : List (tree.Alias ℕ)) (limit calls : ℕ) (kind : CondKind) (at : ℕ) (es : List (Expr ℕ)) (s : Store) (next : Run X) (m : Meter)
    → clauses (code core types limit calls) kind at es s next m ≡ clauses (clause_setting here (Some limit) types) kind at es s next m
clauses_as core types limit calls kind at es s next m = clauses_same (code core types limit calls) (clause_setting here (Some limit) types) kind at es s next m (λ e n. refl)

given_same : {X : Type 0} (o : Outcome Bool) (at : ℕ) (f g : Run X) → ((n : Meter) → f n ≡ g n) → (o >>= (λ b. check b Member at f)) ≡ (o >>= (λ b. check b Member at g))
given_same (Done true m) at f g same = same m
given_same (Done false m) at f g same = refl
given_same (Fault kind place m) at f g same = refl
given_same (More m) at f g same = refl
given_same Spent at f g same = refl

pub leave_as : (core : Core ℕ) (types : List (tree.Alias ℕ)) (limit calls : ℕ) (fr : Frame ℕ) (at : ℕ) (o : Option tree.Output) (v : Option Datum) (m : Meter) → leave (code core types limit calls) fr at o v m ≡ leave (clause_setting here (Some limit) types) fr at o v m
leave_as core types limit calls fr at None None m = clauses_as core types limit calls Ensures at fr.postconditions fr.entry (Done (Gave None)) m
leave_as core types limit calls fr at None (Some v) m = refl
leave_as core types limit calls fr at (Some o) None m = refl
leave_as core types limit calls fr at (Some o) (Some v) m =
    given_same (fr.member o.ty v m) at (clauses (code core types limit calls) Ensures at fr.postconditions (set_if fr.entry o.variable (Some v)) (Done (Gave (Some v))))
    (clauses (clause_setting here (Some limit) types) Ensures at fr.postconditions (set_if fr.entry o.variable (Some v)) (Done (Gave (Some v))))
    (λ n. clauses_as core types limit calls Ensures at fr.postconditions (set_if fr.entry o.variable (Some v)) (Done (Gave (Some v))) n)

pub result_as : (core : Core ℕ) (types : List (tree.Alias ℕ)) (limit calls : ℕ) (fr : Frame ℕ) (at : ℕ) (x : Exit) (m : Meter) → result_of (code core types limit calls) fr at x m ≡ result_of (clause_setting here (Some limit) types) fr at x m
result_as core types limit calls fr at (Gave v) m = refl
result_as core types limit calls fr at (Went s) m = ap (λ o. o >>= result_given at) (leave_as core types limit calls fr at fr.result None m)
result_as core types limit calls fr at (Broke s) m = refl
result_as core types limit calls fr at (Continued from s) m = refl

-- ---- a call of a declared function or method

arguments_same : (member : Ty → Datum → Test) (at : ℕ) (ps : List tree.Param) (vs : List Datum) (f g : Run (Option Datum)) (m : Meter) → ((n : Meter) → f n ≡ g n) → arguments member at ps vs f m ≡ arguments member at ps vs g m
arguments_same member at [] vs f g m same = same m
arguments_same member at (p ∷ ps) [] f g m same = same m
arguments_same member at (p ∷ ps) (v ∷ vs) f g m same = given_same (member p.ty v m) at (arguments member at ps vs f) (arguments member at ps vs g) (λ n. arguments_same member at ps vs f g n same)

checked_same : (b : Bool) (at : ℕ) (f g : Run (Option Datum)) (m : Meter) → ((n : Meter) → f n ≡ g n) → check b Member at f m ≡ check b Member at g m
checked_same true at f g m same = same m
checked_same false at f g m same = refl

-- what a call does after it is entered
abbrev pub body_of : Core ℕ → List (tree.Alias ℕ) → ℕ → ℕ → tree.Routine ℕ → List Datum → Run (Option Datum)
body_of core types limit calls r vs m =
    exec_all (code core types limit calls) (frame_of (owed_member here (Some limit) types) r vs) r.body (entry_of r vs) m >>= result_of (code core types limit calls) (frame_of (owed_member here (Some limit) types) r vs) r.at

pub enters : (core : Core ℕ) (types : List (tree.Alias ℕ)) (limit calls : ℕ) (r : tree.Routine ℕ) (at : ℕ) (vs : List Datum) (m : Meter)
    → routine_call (code core types limit calls) (owed_member here (Some limit) types) r at vs m ≡ entering limit types r at vs (body_of core types limit calls r vs) m
enters core types limit calls r at vs m =
    let body = body_of core types limit calls r vs in
    let here_clauses = clauses (code core types limit calls) Requires at r.preconditions (entry_of r vs) body in
    let there_clauses = clauses (clause_setting here (Some limit) types) Requires at r.preconditions (entry_of r vs) body in
    checked_same (nat_eq (length vs) (length r.params)) at (arguments (owed_member here (Some limit) types) at r.params vs here_clauses) (arguments (owed_member here (Some limit) types) at r.params vs there_clauses) m
    (λ n. arguments_same (owed_member here (Some limit) types) at r.params vs here_clauses there_clauses n (λ k. clauses_as core types limit calls Requires at r.preconditions (entry_of r vs) body k))

-- a call spends a tick, and then does what is called
pub run_begins : (core : Core ℕ) (types : List (tree.Alias ℕ)) (limit calls j f at : ℕ) (vs : List Datum) (m k : Meter) → calls ≡ suc j → types ≡ aliases_of core → spend true done m ≡ Done tt k
    → run here (Some limit) core calls f at vs m ≡ called (code core types limit j) (owed_member here (Some limit) types) (callee (routines_of core) f) at vs k
run_begins core types limit calls j f at vs m k more same ticked =
    let go = λ (l : List (tree.Alias ℕ)). called (code core l limit j) (owed_member here (Some limit) l) (callee (routines_of core) f) at vs in
    ap (λ n. run here (Some limit) core n f at vs m) more ∙ (spent true (go (aliases_of core)) m k ticked ∙ ap (λ l. go l k) (sym same))

-- the frame of a call, where these are the types and the variables at entry
pub frame_is : (limit : ℕ) (types : List (tree.Alias ℕ)) (r : Routine) (ts : List code_ty.Ty) (en : Store) (vs : List Datum) → map seen_ty ts ≡ types_of (seen_routine r) → en ≡ entry_of (seen_routine r) vs
    → frame limit types r ts en ≡ frame_of (owed_member here (Some limit) types) (seen_routine r) vs
frame_is limit types r ts en vs types_are entry_is =
    let F : List Ty → Store → Frame ℕ = λ l s. record { types = l; member = owed_member here (Some limit) types; result = seen_output r.result; postconditions = seen_exprs r.postconditions; entry = s } in
    ap (λ l. F l en) types_are ∙ ap (λ s. F (types_of (seen_routine r)) s) entry_is

-- a call of a declared function or method
pub run_declared : (core : Core ℕ) (types : List (tree.Alias ℕ)) (limit calls j f at : ℕ) (vs : List Datum) (m k : Meter) (r : tree.Routine ℕ) → calls ≡ suc j → types ≡ aliases_of core → spend true done m ≡ Done tt k → callee (routines_of core) f ≡ Declared r
    → run here (Some limit) core calls f at vs m ≡ entering limit types r at vs (body_of core types limit j r vs) k
run_declared core types limit calls j f at vs m k r more same ticked there =
    run_begins core types limit calls j f at vs m k more same ticked
    ∙ (ap (λ c. called (code core types limit j) (owed_member here (Some limit) types) c at vs k) there ∙ enters core types limit j r at vs k)

-- the body of a call, in the frame and on the variables of the code
pub body_is : (core : Core ℕ) (types : List (tree.Alias ℕ)) (limit j : ℕ) (r : Routine) (ts : List code_ty.Ty) (en s : Store) (ss : List Stmt) (vs : List Datum) (k : Meter) → map seen_ty ts ≡ types_of (seen_routine r) → en ≡ entry_of (seen_routine r) vs → s ≡ en → ss ≡ r.body
    → body_of core types limit j (seen_routine r) vs k ≡ (exec_all (code core types limit j) (frame limit types r ts en) (seen_block ss) s k >>= result_of (code core types limit j) (frame limit types r ts en) r.at)
body_is core types limit j r ts en s ss vs k types_are entry_is store_is body_same =
    let w = code core types limit j in
    let go = λ (fr : Frame ℕ) (l : List Stmt) (z : Store). exec_all w fr (seen_block l) z k >>= result_of w fr r.at in
    let R = seen_routine r in
    let fr = frame limit types r ts en in
    ap (λ x. go x r.body (entry_of R vs)) (sym (frame_is limit types r ts en vs types_are entry_is))
    ∙ (ap (λ l. go fr l (entry_of R vs)) (sym body_same) ∙ ap (λ z. go fr ss z) (sym (store_is ∙ entry_is)))

pub run_stops : (core : Core ℕ) (limit calls j f at : ℕ) (vs : List Datum) (m k : Meter) (e : Stop) → calls ≡ suc j → (e ≢ stop.NoMemory → spend true done m ≡ stopped e k) → e ≢ stop.NoMemory → run here (Some limit) core calls f at vs m ≡ stopped e k
run_stops core limit calls j f at vs m k e more h none =
    ap (λ n. run here (Some limit) core n f at vs m) more
    ∙ spent_stops true (called (code core (aliases_of core) limit j) (owed_member here (Some limit) (aliases_of core)) (callee (routines_of core) f) at vs) m k e h none

-- a method that isn't declared
pub run_built_in : (core : Core ℕ) (types : List (tree.Alias ℕ)) (limit calls j f at : ℕ) (vs : List Datum) (m k : Meter) → calls ≡ suc j → types ≡ aliases_of core → spend true done m ≡ Done tt k → length (routines_of core) ≤ f
    → run here (Some limit) core calls f at vs m ≡ built_in_call limit (callee (routines_of core) f) at vs k
run_built_in core types limit calls j f at vs m k more same ticked behind =
    run_begins core types limit calls j f at vs m k more same ticked ∙ not_declared core types limit j (routines_of core) f at vs k behind
  where
    not_declared : (core : Core ℕ) (types : List (tree.Alias ℕ)) (limit j : ℕ) (rs : List (tree.Routine ℕ)) (f at : ℕ) (vs : List Datum) (k : Meter) → length rs ≤ f
        → called (code core types limit j) (owed_member here (Some limit) types) (callee rs f) at vs k ≡ built_in_call limit (callee rs f) at vs k
    not_declared core types limit j [] zero at vs k behind = refl
    not_declared core types limit j [] (suc zero) at vs k behind = refl
    not_declared core types limit j [] (suc (suc f)) at vs k behind = refl
    not_declared core types limit j (r ∷ rs) zero at vs k behind = absurd (omega (arith, behind))
    not_declared core types limit j (r ∷ rs) (suc f) at vs k behind = not_declared core types limit j rs f at vs k (omega (arith, behind))
