-- Statements keep each relation of runs.
use Rattle.std.proofs.Common.{ℕ, zero, suc, List, [], ◌∷◌, Bool, true, false}
use Rattle.std.specs.Prelude.{Option, Some, None}
use Rattle.wy_term.specs.wy_value.Datum.{Datum}
use Rattle.wy_types.specs.wy_core.Types.{Ty}
use Rattle.wy_types.specs.wy_core.CoreTree as tree
use Rattle.wy_types.specs.wy_core.CoreTree.{Expr, Step, IndexStep, FieldStep, Stmt, DeclareStmt, AssignStmt, CallStmt, ReturnStmt, AssertStmt, BreakStmt, ContinueStmt, SkipStmt, FailStmt, IfStmt, WhileStmt, Stmts, NoStmts, MoreStmts}
use Rattle.wy_term.specs.declared.cond.CondKind.{CondKind}
use Rattle.wy_term.specs.declared.cond.CondKind.TheVariants as kind
use Rattle.wy_sem.specs.Meter.{Run}
use Rattle.wy_sem.specs.Operations.{Slot, ItemSlot, FieldSlot, item_at, find, updated}
use Rattle.wy_sem.specs.Expressions.{Store, slot, put, eval, clauses}
use Rattle.wy_sem.specs.TypeTests.{Test, set_if}
use Rattle.wy_sem.specs.Statements.{Exit, Went, Broke, Continued, Gave, Frame, type_at, given, stored, path_of, assigned, leave, go_on, go_round, rounds, tested_truth, exec, exec_all}
use Rattle.wy_sem.specs.Relation.{Relation, Spends, Turns, Bounds}
use Rattle.wy_sem.proofs.RelatedOperations.{choose-kept, check-kept, truth-kept, fields-kept, needed-kept, indexed-kept}
use Rattle.wy_sem.proofs.RelatedExpressions.{setting, eval-kept, eval_all-kept}
use Rattle.wy_sem.proofs.RelatedTests.{holds_at-kept, clauses-kept}

abbrev pub frame : {N : Type 0} → List Ty → (Ty → Datum → Test) → Option tree.Output → List (Expr N) → Store → Frame N
frame types member result postconditions entry = record { types = types; member = member; result = result; postconditions = postconditions; entry = entry }

module _ (q : Relation) where
  pub given-kept : (X : Type 0) (m1 m2 : Ty → Datum → Test) → ((t : Ty) (d : Datum) → q.Rel Bool (m1 t d) (m2 t d)) → (at : ℕ) (t : Ty) (v : Datum) (f g : Run X) → q.Rel X f g
      → q.Rel X (given m1 at t v f) (given m2 at t v g)
  given-kept X m1 m2 h at t v f g p = q.bind Bool X _ _ _ _ (h t v) (λ b. check-kept q X b kind.Member at _ _ p)

  go_on-kept : (x : Exit) (f g : Store → Run Exit) → ((s : Store) → q.Rel Exit (f s) (g s)) → q.Rel Exit (go_on x f) (go_on x g)
  go_on-kept (Went s) f g p = p s
  go_on-kept (Broke s) f g p = q.done Exit (Broke s)
  go_on-kept (Continued at s) f g p = q.done Exit (Continued at s)
  go_on-kept (Gave v) f g p = q.done Exit (Gave v)

  go_round-kept : (at : ℕ) (k1 k2 : ℕ → Store → Run Exit → Run Exit) (f g : Store → Run Exit) → ((from : ℕ) (s : Store) → q.Rel Exit (k1 from s (f s)) (k2 from s (g s)))
      → (x : Exit) → q.Rel Exit (go_round at k1 f x) (go_round at k2 g x)
  go_round-kept at k1 k2 f g p (Went s) = p at s
  go_round-kept at k1 k2 f g p (Broke s) = q.done Exit (Went s)
  go_round-kept at k1 k2 f g p (Continued from s) = p from s
  go_round-kept at k1 k2 f g p (Gave v) = q.done Exit (Gave v)

module _ (q : Relation) (fuel : Bounds q) (spends : Spends q true) where
  module _ (at : ℕ) (t1 t2 : Store → Run Bool) (b1 b2 : Store → Run Exit) (k1 k2 : ℕ → Store → Run Exit → Run Exit)
      (ht : (s : Store) → q.Rel Bool (t1 s) (t2 s)) (hb : (s : Store) → q.Rel Exit (b1 s) (b2 s)) (hk : (from : ℕ) (s : Store) (f g : Run Exit) → q.Rel Exit f g → q.Rel Exit (k1 from s f) (k2 from s g)) where
    round-kept : (a b : ℕ) → ((s : Store) → q.Rel Exit (rounds a at t1 b1 k1 s) (rounds b at t2 b2 k2 s)) → (s : Store) → q.Rel Exit (rounds (suc a) at t1 b1 k1 s) (rounds (suc b) at t2 b2 k2 s)
    round-kept a b again s = spends Exit _ _ (q.bind Bool Exit _ _ _ _ (ht s) (λ x. choose-kept q Exit x _ _ _ _
        (q.bind Exit Exit _ _ _ _ (hb s) (λ e. go_round-kept q at k1 k2 _ _ (λ from u. hk from u _ _ (again u)) e))
        (q.done Exit (Went s))))

    rounds-alike : (a : ℕ) (s : Store) → q.Rel Exit (rounds a at t1 b1 k1 s) (rounds a at t2 b2 k2 s)
    rounds-alike zero s = q.more Exit
    rounds-alike (suc a) s = round-kept a a (λ u. rounds-alike a u) s

    rounds-kept : (a b : ℕ) → fuel.Beside a b → (s : Store) → q.Rel Exit (rounds a at t1 b1 k1 s) (rounds b at t2 b2 k2 s)
    rounds-kept zero zero near s = q.more Exit
    rounds-kept (suc a) zero near s = absurd (fuel.never a near)
    rounds-kept zero (suc b) near s = fuel.ended Exit b _ _ near (rounds-alike (suc b) s)
    rounds-kept (suc a) (suc b) near s = round-kept a b (λ u. rounds-kept a b (fuel.below a b near) u) s

module _ {N : Type 0} (place : N → ℕ) (q : Relation) (fuel : Bounds q) (spends : Spends q true) (l1 l2 : Option ℕ) (paid_turns : Turns q l1 l2 true) (turns : Turns q l1 l2 false)
    (t1 t2 : Bool → Ty → Datum → Run Bool) (paid_tests : (t : Ty) (d : Datum) → q.Rel Bool (t1 true t d) (t2 true t d)) (free_tests : (t : Ty) (d : Datum) → q.Rel Bool (t1 false t d) (t2 false t d))
    (c1 c2 : ℕ → ℕ → List Datum → Run (Option Datum)) (calls : (f at : ℕ) (vs : List Datum) → q.Rel (Option Datum) (c1 f at vs) (c2 f at vs))
    (m1 m2 : Ty → Datum → Test) (members : (t : Ty) (d : Datum) → q.Rel Bool (m1 t d) (m2 t d))
    (types : List Ty) (result : Option tree.Output) (posts : List (Expr N)) (entry : Store) where
  code-kept : (e : Expr N) (s : Store) → q.Rel Datum (eval (setting place l1 t1 c1) true e s) (eval (setting place l2 t2 c2) true e s)
  code-kept e s = eval-kept place q true l1 l2 spends paid_turns t1 t2 paid_tests c1 c2 calls e s

  checks-kept : (X : Type 0) (why : CondKind) (at : ℕ) (es : List (Expr N)) (s : Store) (f g : Run X) → q.Rel X f g
      → q.Rel X (clauses (setting place l1 t1 c1) why at es s f) (clauses (setting place l2 t2 c2) why at es s g)
  checks-kept X why at es s f g p = clauses-kept place q l1 l2 turns t1 t2 free_tests c1 c2 X why at es s f g p

  stored-kept : (at x : ℕ) (t : Ty) (s : Store) (v : Datum) → q.Rel Exit (stored (frame types m1 result posts entry) at x t s v) (stored (frame types m2 result posts entry) at x t s v)
  stored-kept at x t s v = given-kept q Exit m1 m2 members at t v _ _ (q.done Exit (Went (put s x (Some v))))

  path-kept : (s : Store) (path : List (Step N)) (d : Datum) → q.Rel (List Slot) (path_of (setting place l1 t1 c1) s path d) (path_of (setting place l2 t2 c2) s path d)
  path-kept s [] d = q.done (List Slot) []
  path-kept s (IndexStep at e ∷ path) d = q.bind Datum (List Slot) _ _ _ _ (code-kept e s) (λ v. indexed-kept q (List Slot) at d v _ _ (λ ds i. q.bind (List Slot) (List Slot) _ _ _ _ (path-kept s path (item_at ds i)) (λ slots. q.done (List Slot) (ItemSlot i ∷ slots))))
  path-kept s (FieldStep at name ∷ path) d = fields-kept q (List Slot) at d _ _ (λ fs. needed-kept q Datum (List Slot) at (find fs name) _ _ (λ part. q.bind (List Slot) (List Slot) _ _ _ _ (path-kept s path part) (λ slots. q.done (List Slot) (FieldSlot name ∷ slots))))

  assigned-kept : (at x : ℕ) (path : List (Step N)) (e : Expr N) (s : Store)
      → q.Rel Exit (assigned (setting place l1 t1 c1) (frame types m1 result posts entry) at x path e s) (assigned (setting place l2 t2 c2) (frame types m2 result posts entry) at x path e s)
  assigned-kept at x [] e s = q.bind Datum Exit _ _ _ _ (code-kept e s) (λ v. stored-kept at x (type_at types x) s v)
  assigned-kept at x (step ∷ path) e s = needed-kept q Datum Exit at (slot s x) _ _ (λ d. q.bind (List Slot) Exit _ _ _ _ (path-kept s (step ∷ path) d) (λ slots.
      q.bind Datum Exit _ _ _ _ (code-kept e s) (λ v. stored-kept at x (type_at types x) s (updated d slots v))))

  pub leave-kept : (at : ℕ) (o : Option tree.Output) (v : Option Datum) → q.Rel Exit (leave (setting place l1 t1 c1) (frame types m1 result posts entry) at o v) (leave (setting place l2 t2 c2) (frame types m2 result posts entry) at o v)
  leave-kept at None None = checks-kept Exit kind.Ensures at posts entry _ _ (q.done Exit (Gave None))
  leave-kept at None (Some v) = q.fault Exit kind.Member at
  leave-kept at (Some o) None = q.fault Exit kind.Member at
  leave-kept at (Some o) (Some v) = given-kept q Exit m1 m2 members at o.ty v _ _ (checks-kept Exit kind.Ensures at posts (set_if entry o.variable (Some v)) _ _ (q.done Exit (Gave (Some v))))

  truth_of-kept : (at : ℕ) (e : Expr N) (s : Store) → q.Rel Bool (tested_truth (setting place l1 t1 c1) at e s) (tested_truth (setting place l2 t2 c2) at e s)
  truth_of-kept at e s = q.bind Datum Bool _ _ _ _ (code-kept e s) (λ v. truth-kept q Bool at v _ _ (λ b. q.done Bool b))

  mutual
    pub exec-kept : (st : Stmt N) (s : Store) → q.Rel Exit (exec (setting place l1 t1 c1) (frame types m1 result posts entry) st s) (exec (setting place l2 t2 c2) (frame types m2 result posts entry) st s)
    exec-kept (DeclareStmt at t x None) s = spends Exit _ _ (q.done Exit (Went (put s x None)))
    exec-kept (DeclareStmt at t x (Some e)) s = spends Exit _ _ (q.bind Datum Exit _ _ _ _ (code-kept e s) (λ v. stored-kept at x t s v))
    exec-kept (AssignStmt at x path e) s = spends Exit _ _ (assigned-kept at x path e s)
    exec-kept (CallStmt at f es) s = spends Exit _ _ (q.bind (List Datum) Exit _ _ _ _ (eval_all-kept place q true l1 l2 spends paid_turns t1 t2 paid_tests c1 c2 calls es s)
        (λ vs. q.bind (Option Datum) Exit _ _ _ _ (calls f at vs) (λ v. q.done Exit (Went s))))
    exec-kept (ReturnStmt at None) s = spends Exit _ _ (leave-kept at result None)
    exec-kept (ReturnStmt at (Some e)) s = spends Exit _ _ (q.bind Datum Exit _ _ _ _ (code-kept e s) (λ v. leave-kept at result (Some v)))
    exec-kept (AssertStmt at e) s = spends Exit _ _ (q.bind Bool Exit _ _ _ _ (holds_at-kept place q l1 l2 turns t1 t2 free_tests c1 c2 at e s) (λ b. check-kept q Exit b kind.Assert at _ _ (q.done Exit (Went s))))
    exec-kept (BreakStmt at) s = spends Exit _ _ (q.done Exit (Broke s))
    exec-kept (ContinueStmt at) s = spends Exit _ _ (q.done Exit (Continued at s))
    exec-kept (SkipStmt at) s = spends Exit _ _ (q.done Exit (Went s))
    exec-kept (FailStmt at) s = spends Exit _ _ (q.fault Exit kind.Fail at)
    exec-kept (IfStmt at e first second) s = spends Exit _ _ (q.bind Bool Exit _ _ _ _ (truth_of-kept at e s) (λ b. choose-kept q Exit b _ _ _ _ (exec_all-kept first s) (exec_all-kept second s)))
    exec-kept (WhileStmt at e invariants body) s = spends Exit _ _ (checks-kept Exit kind.Entry at invariants s _ _
        (fuel.begun Exit (λ j. rounds j at _ _ _ s) (λ j. rounds j at _ _ _ s) (λ a b near. rounds-kept q fuel spends at _ _ _ _ _ _
        (λ u. truth_of-kept at e u) (λ u. exec_all-kept body u) (λ from u f g p. checks-kept Exit kind.Keep from invariants u f g p) a b near s)))

    pub exec_all-kept : (sts : Stmts N) (s : Store) → q.Rel Exit (exec_all (setting place l1 t1 c1) (frame types m1 result posts entry) sts s) (exec_all (setting place l2 t2 c2) (frame types m2 result posts entry) sts s)
    exec_all-kept NoStmts s = q.done Exit (Went s)
    exec_all-kept (MoreStmts first rest) s = q.bind Exit Exit _ _ _ _ (exec-kept first s) (λ x. go_on-kept q x _ _ (λ u. exec_all-kept rest u))
