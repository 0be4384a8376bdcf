-- Statements keep variables that they neither assign nor declare.
use Rattle.std.proofs.Common.{◌≡◌, ℕ, zero, suc, List, [], ◌∷◌, Bool, true, false, ◌||◌, ◌==◌, Option, Some, None, refl, sym, ap, ◌∙◌}
use Rattle.wy_lemmas.proofs.Choices.{first_false as or_first, apart_of}
use Rattle.wy_value.specs.Datum.{Datum}
use Rattle.wy_core.specs.Types.{Ty}
use Rattle.wy_core.specs.CoreTree as tree
use Rattle.wy_core.specs.CoreTree.{Expr, Step, Stmt, DeclareStmt, AssignStmt, CallStmt, ReturnStmt, AssertStmt, BreakStmt, ContinueStmt, SkipStmt, FailStmt, IfStmt, WhileStmt, Stmts, NoStmts, MoreStmts}
use Rattle.wy_term.specs.declared.cond.CondKind.{CondKind}
use Rattle.wy_term.specs.declared.cond.CondKind.TheVariants as kind
use Rattle.wy_sound_walks.specs.wy_sem.Meter.{Meter, Outcome, Done, Fault, Run, ◌>>=◌, check, choose}
use Rattle.wy_sound_walks.specs.wy_sem.Operations.{needed, updated}
use Rattle.wy_sound_walks.specs.wy_sem.Expressions.{Store, slot, put, Setting, eval, eval_all, holds, holds_at, clauses}
use Rattle.wy_sound_walks.specs.wy_sem.Statements.{Exit, Went, Broke, Continued, Gave, Frame, type_at, given, stored, path_of, assigned, leave, go_on, go_round, rounds, tested_truth, exec, exec_all}
use Rattle.wy_sound_walks.specs.wy_sem.TypeTests.{set_if}
use Rattle.wy_sound_walks.specs.wy_vc_spec.Numbered.{Node}
use Rattle.wy_sound_walks.specs.wy_vc_spec.Assigned.{assigns, assigns_in}
use Rattle.wy_sound_kinds.specs.frames.Frames.{unsets, unsets_in, Keeps, AtExit, StatementsKeepOthers}
use Rattle.wy_sound_kinds.proofs.frames_lemmas.EveryLemmas.{Every, every_bind, every_map, every_told, every_of, every_spend, every_check, every_choose, every_needed}

-- ---- stores

pub keeps_same : (a u : ℕ → Bool) (s : Store) → Keeps a u s s
keeps_same a u s = record { others = λ x e f. refl; lasts = λ x d e f. (d, e) }

pub keeps_trans : (a u : ℕ → Bool) (s t r : Store) → Keeps a u s t → Keeps a u t r → Keeps a u s r
keeps_trans a u s t r h g = record {
  others = λ x e f. g.others x e f ∙ h.others x e f;
  lasts = λ x d e f. let o = h.lasts x d e f in g.lasts x o.0 o.1 f;
}

or_second : (a b : Bool) → (a || b) ≡ false → b ≡ false
or_second false b e = e
or_second true b e = absurd cc

pub keeps_first : (a u b v : ℕ → Bool) (s t : Store) → Keeps a u s t → Keeps (λ x. a x || b x) (λ x. u x || v x) s t
keeps_first a u b v s t h = record {
  others = λ x e f. h.others x (or_first (a x) (b x) e) (or_first (u x) (v x) f);
  lasts = λ x d e f. h.lasts x d e (or_first (u x) (v x) f);
}

pub keeps_second : (a u b v : ℕ → Bool) (s t : Store) → Keeps b v s t → Keeps (λ x. a x || b x) (λ x. u x || v x) s t
keeps_second a u b v s t h = record {
  others = λ x e f. h.others x (or_second (a x) (b x) e) (or_second (u x) (v x) f);
  lasts = λ x d e f. h.lasts x d e (or_second (u x) (v x) f);
}

pub put_other : (s : Store) (x : ℕ) (v : Option Datum) (y : ℕ) → (x ≡ y → ⊥) → slot (put s x v) y ≡ slot s y
put_other [] x v y h = refl
put_other (o ∷ s) zero v zero h = absurd (h refl)
put_other (o ∷ s) zero v (suc y) h = refl
put_other (o ∷ s) (suc x) v zero h = refl
put_other (o ∷ s) (suc x) v (suc y) h = put_other s x v y (λ e. h (ap suc e))

put_lasts : (s : Store) (x : ℕ) (v : Datum) (y : ℕ) (d : Datum) → slot s y ≡ Some d → (e : Datum) × (slot (put s x (Some v)) y ≡ Some e)
put_lasts [] x v y d h = (d, h)
put_lasts (o ∷ s) zero v zero d h = (v, refl)
put_lasts (o ∷ s) zero v (suc y) d h = (d, h)
put_lasts (o ∷ s) (suc x) v zero d h = (d, h)
put_lasts (o ∷ s) (suc x) v (suc y) d h = put_lasts s x v y d h

pub put_keeps : (x : ℕ) (u : ℕ → Bool) (s : Store) (d : Datum) → Keeps (λ y. x == y) u s (put s x (Some d))
put_keeps x u s d = record {
  others = λ y e f. put_other s x (Some d) y (apart_of x y e);
  lasts = λ y c e f. put_lasts s x d y c e;
}

pub unset_keeps : (x : ℕ) (a : ℕ → Bool) (s : Store) → Keeps a (λ y. x == y) s (put s x None)
unset_keeps x a s = record {
  others = λ y e f. put_other s x None y (apart_of x y f);
  lasts = λ y c e f. (c, put_other s x None y (apart_of x y f) ∙ e);
}

-- ---- ends

exit_map : (P Q : Store → Type 0) (x : Exit) → ((s : Store) → P s → Q s) → AtExit P x → AtExit Q x
exit_map P Q (Went s) f h = f s h
exit_map P Q (Broke s) f h = f s h
exit_map P Q (Continued at s) f h = f s h
exit_map P Q (Gave v) f h = tt

-- clauses change nothing
every_clauses : {X : Type 0} {N : Type 0} (w : Setting N) (why : CondKind) (at : ℕ) (es : List (Expr N)) (s : Store) (next : Run X) (m : Meter) (P : X → Type 0) → ((k : Meter) → Every (next k) P) → Every (clauses w why at es s next m) P
every_clauses w why at [] s next m P h = h m
every_clauses w why at (e ∷ es) s next m P h =
    every_bind (holds w e s m) (λ b. check b why at (clauses w why at es s next)) (λ b. Unit {0}) P (every_told _ _ (λ b k q. tt))
    (λ b k q u. every_check b why at (clauses w why at es s next) k P (λ yes. every_clauses w why at es s next k P h))

-- a result has no store
leaves : {N : Type 0} (w : Setting N) (fr : Frame N) (at : ℕ) (out : Option tree.Output) (v : Option Datum) (m : Meter) (P : Store → Type 0) → Every (leave w fr at out v m) (AtExit P)
leaves w fr at None None m P = every_clauses w kind.Ensures at fr.postconditions fr.entry (Done (Gave None)) m (AtExit P) (λ k. tt)
leaves w fr at None (Some v) m P = tt
leaves w fr at (Some o) None m P = tt
leaves w fr at (Some o) (Some v) m P =
    every_bind (fr.member o.ty v m) (λ b. check b kind.Member at (clauses w kind.Ensures at fr.postconditions (set_if fr.entry o.variable (Some v)) (Done (Gave (Some v))))) (λ b. Unit {0}) (AtExit P) (every_told _ _ (λ b k e. tt))
    (λ b k e q. every_check b kind.Member at (clauses w kind.Ensures at fr.postconditions (set_if fr.entry o.variable (Some v)) (Done (Gave (Some v)))) k (AtExit P)
    (λ yes. every_clauses w kind.Ensures at fr.postconditions (set_if fr.entry o.variable (Some v)) (Done (Gave (Some v))) k (AtExit P) (λ l. tt)))

module _ (w : Setting Node) (fr : Frame Node) where
  stored_keeps : (at x : ℕ) (t : Ty) (s : Store) (d : Datum) (m : Meter) → Every (stored fr at x t s d m) (AtExit (Keeps (λ y. x == y) (λ y. false) s))
  stored_keeps at x t s d m =
      every_bind (fr.member t d m) (λ b. check b kind.Member at (Done (Went (put s x (Some d))))) (λ b. Unit {0}) (AtExit (Keeps (λ y. x == y) (λ y. false) s)) (every_told _ _ (λ b k e. tt))
      (λ b k e q. every_check b kind.Member at (Done (Went (put s x (Some d)))) k (AtExit (Keeps (λ y. x == y) (λ y. false) s)) (λ yes. put_keeps x (λ y. false) s d))

  assigned_keeps : (at x : ℕ) (path : List (Step Node)) (e : Expr Node) (s : Store) (m : Meter) → Every (assigned w fr at x path e s m) (AtExit (Keeps (λ y. x == y) (λ y. false) s))
  assigned_keeps at x [] e s m =
      every_bind (eval w true e s m) (stored fr at x (type_at fr.types x) s) (λ d. Unit {0}) (AtExit (Keeps (λ y. x == y) (λ y. false) s)) (every_told _ _ (λ d k q. tt)) (λ d k q u. stored_keeps at x (type_at fr.types x) s d k)
  assigned_keeps at x (step ∷ steps) e s m =
      let P : Exit → Type 0 = AtExit (Keeps (λ y. x == y) (λ y. false) s) in
      every_needed at (slot s x) (λ d j. path_of w s (step ∷ steps) d j >>= (λ slots k. eval w true e s k >>= (λ v. stored fr at x (type_at fr.types x) s (updated d slots v)))) m P
      (λ d q. every_bind (path_of w s (step ∷ steps) d m) (λ slots k. eval w true e s k >>= (λ v. stored fr at x (type_at fr.types x) s (updated d slots v))) (λ slots. Unit {0}) P (every_told _ _ (λ slots k r. tt))
      (λ slots k r u. every_bind (eval w true e s k) (λ v. stored fr at x (type_at fr.types x) s (updated d slots v)) (λ v. Unit {0}) P (every_told _ _ (λ v l z. tt))
      (λ v l z y. stored_keeps at x (type_at fr.types x) s (updated d slots v) l)))

  never : (at : ℕ) (s : Store) (m : Meter) (x : Exit) (k : Meter) → exec w fr (FailStmt at) s m ≡ Done x k → ⊥
  never at s m x k q = every_of (exec w fr (FailStmt at) s m) (λ y. ⊥) (every_spend true (Fault kind.Fail at) (λ y. ⊥) (λ j. tt) m) x k q

  -- a block goes on where the statement before it went on
  goes_keep : (a u b v : ℕ → Bool) (s : Store) (next : Store → Run Exit) → ((t : Store) (l : Meter) → Every (next t l) (AtExit (Keeps b v t))) → (x : Exit) (k : Meter) → AtExit (Keeps a u s) x
      → Every (go_on x next k) (AtExit (Keeps (λ y. a y || b y) (λ y. u y || v y) s))
  goes_keep a u b v s next f (Went t) k h =
      let K : Store → Store → Type 0 = Keeps (λ y. a y || b y) (λ y. u y || v y) in
      every_map (next t k) (AtExit (Keeps b v t)) (AtExit (K s)) (f t k)
      (λ x g. exit_map (Keeps b v t) (K s) x (λ r q. keeps_trans (λ y. a y || b y) (λ y. u y || v y) s t r (keeps_first a u b v s t h) (keeps_second a u b v t r q)) g)
  goes_keep a u b v s next f (Broke t) k h = keeps_first a u b v s t h
  goes_keep a u b v s next f (Continued at t) k h = keeps_first a u b v s t h
  goes_keep a u b v s next f (Gave r) k h = tt

  abbrev keep_of : List (Expr Node) → ℕ → Store → Run Exit → Run Exit
  keep_of invariants from = clauses w kind.Keep from invariants

  abbrev next_of : ℕ → Expr Node → List (Expr Node) → Stmts Node → ℕ → Store → Run Exit
  next_of at e invariants body j = rounds j at (tested_truth w at e) (exec_all w fr body) (keep_of invariants)

  abbrev turned : ℕ → Expr Node → List (Expr Node) → Stmts Node → ℕ → Store → Run Exit
  turned at e invariants body j t k = exec_all w fr body t k >>= go_round at (keep_of invariants) (next_of at e invariants body j)

  abbrev Kept : Stmts Node → Store → Store → Type 0
  Kept body s t = Keeps (λ y. assigns_in y body) (λ y. unsets_in y body) s t

  abbrev Ends : Stmts Node → Store → Exit → Type 0
  Ends body s = AtExit (Kept body s)

  kept_on : (body : Stmts Node) (s t r : Store) → Kept body s t → Kept body t r → Kept body s r
  kept_on body s t r h g = keeps_trans (λ y. assigns_in y body) (λ y. unsets_in y body) s t r h g

  -- behind the body of a loop
  ended : (at : ℕ) (e : Expr Node) (invariants : List (Expr Node)) (body : Stmts Node) (s t : Store) → Kept body s t → (j : ℕ) → ((r : Store) → Kept body s r → (l : Meter) → Every (next_of at e invariants body j r l) (Ends body s))
      → (x : Exit) (i : Meter) → Ends body t x → Every (go_round at (keep_of invariants) (next_of at e invariants body j) x i) (Ends body s)
  ended at e invariants body s t h j more (Went r) i g = every_clauses w kind.Keep at invariants r (next_of at e invariants body j r) i (Ends body s) (λ l. more r (kept_on body s t r h g) l)
  ended at e invariants body s t h j more (Continued from r) i g = every_clauses w kind.Keep from invariants r (next_of at e invariants body j r) i (Ends body s) (λ l. more r (kept_on body s t r h g) l)
  ended at e invariants body s t h j more (Broke r) i g = kept_on body s t r h g
  ended at e invariants body s t h j more (Gave v) i g = tt

  -- each turn of a loop keeps what its body keeps
  rounds_keep : (at : ℕ) (e : Expr Node) (invariants : List (Expr Node)) (body : Stmts Node) (s : Store)
      → ((t : Store) (l : Meter) → Every (exec_all w fr body t l) (Ends body t)) → (j : ℕ) (t : Store) → Kept body s t → (m : Meter) → Every (next_of at e invariants body j t m) (Ends body s)
  rounds_keep at e invariants body s f zero t h m = tt
  rounds_keep at e invariants body s f (suc j) t h m =
      every_spend true (λ k. tested_truth w at e t k >>= (λ c. choose c (turned at e invariants body j t) (Done (Went t)))) (Ends body s)
      (λ k. every_bind (tested_truth w at e t k) (λ c. choose c (turned at e invariants body j t) (Done (Went t))) (λ c. Unit {0}) (Ends body s) (every_told _ _ (λ c l q. tt))
      (λ c l q z. every_choose c (turned at e invariants body j t) (Done (Went t)) l (Ends body s)
      (λ yes. every_bind (exec_all w fr body t l) (go_round at (keep_of invariants) (next_of at e invariants body j)) (Ends body t) (Ends body s) (f t l)
      (λ x i r g. ended at e invariants body s t h j (λ y k2 i2. rounds_keep at e invariants body s f j y k2 i2) x i g))
      (λ no. h))) m

  mutual
    pub stmt_keeps : (st : Stmt Node) (s : Store) (m : Meter) → Every (exec w fr st s m) (AtExit (Keeps (λ y. assigns y st) (λ y. unsets y st) s))
    stmt_keeps (DeclareStmt at t x None) s m =
        every_spend true (Done (Went (put s x None))) (AtExit (Keeps (λ y. false) (λ y. x == y) s)) (λ k. unset_keeps x (λ y. false) s) m
    stmt_keeps (DeclareStmt at t x (Some e)) s m =
        let P : Exit → Type 0 = AtExit (Keeps (λ y. x == y) (λ y. false) s) in
        every_spend true (λ j. eval w true e s j >>= stored fr at x t s) P
        (λ j. every_bind (eval w true e s j) (stored fr at x t s) (λ d. Unit {0}) P (every_told _ _ (λ d k q. tt)) (λ d k q u. stored_keeps at x t s d k)) m
    stmt_keeps (AssignStmt at x path e) s m = every_spend true (assigned w fr at x path e s) (AtExit (Keeps (λ y. x == y) (λ y. false) s)) (λ j. assigned_keeps at x path e s j) m
    stmt_keeps (CallStmt at f es) s m =
        let P : Exit → Type 0 = AtExit (Keeps (λ y. false) (λ y. false) s) in
        every_spend true (λ j. eval_all w true es s j >>= (λ vs k. w.call f at vs k >>= (λ v. Done (Went s)))) P
        (λ j. every_bind (eval_all w true es s j) (λ vs k. w.call f at vs k >>= (λ v. Done (Went s))) (λ vs. Unit {0}) P (every_told _ _ (λ vs k q. tt))
        (λ vs k q u. every_bind (w.call f at vs k) (λ v. Done (Went s)) (λ v. Unit {0}) P (every_told _ _ (λ v l r. tt)) (λ v l r z. keeps_same (λ y. false) (λ y. false) s))) m
    stmt_keeps (ReturnStmt at None) s m = every_spend true (leave w fr at fr.result None) (AtExit (Keeps (λ y. false) (λ y. false) s)) (λ j. leaves w fr at fr.result None j (Keeps (λ y. false) (λ y. false) s)) m
    stmt_keeps (ReturnStmt at (Some e)) s m =
        let P : Exit → Type 0 = AtExit (Keeps (λ y. false) (λ y. false) s) in
        every_spend true (λ j. eval w true e s j >>= (λ v. leave w fr at fr.result (Some v))) P
        (λ j. every_bind (eval w true e s j) (λ v. leave w fr at fr.result (Some v)) (λ v. Unit {0}) P (every_told _ _ (λ v k q. tt)) (λ v k q u. leaves w fr at fr.result (Some v) k (Keeps (λ y. false) (λ y. false) s))) m
    stmt_keeps (AssertStmt at e) s m =
        let P : Exit → Type 0 = AtExit (Keeps (λ y. false) (λ y. false) s) in
        every_spend true (λ j. holds_at w at e s j >>= (λ b. check b kind.Assert at (Done (Went s)))) P
        (λ j. every_bind (holds_at w at e s j) (λ b. check b kind.Assert at (Done (Went s))) (λ b. Unit {0}) P (every_told _ _ (λ b k q. tt))
        (λ b k q u. every_check b kind.Assert at (Done (Went s)) k P (λ yes. keeps_same (λ y. false) (λ y. false) s))) m
    stmt_keeps (BreakStmt at) s m = every_spend true (Done (Broke s)) (AtExit (Keeps (λ y. false) (λ y. false) s)) (λ j. keeps_same (λ y. false) (λ y. false) s) m
    stmt_keeps (ContinueStmt at) s m = every_spend true (Done (Continued at s)) (AtExit (Keeps (λ y. false) (λ y. false) s)) (λ j. keeps_same (λ y. false) (λ y. false) s) m
    stmt_keeps (SkipStmt at) s m = every_spend true (Done (Went s)) (AtExit (Keeps (λ y. false) (λ y. false) s)) (λ j. keeps_same (λ y. false) (λ y. false) s) m
    stmt_keeps (FailStmt at) s m = every_told _ _ (λ x k q. absurd (never at s m x k q))
    stmt_keeps (IfStmt at e first second) s m =
        let a : ℕ → Bool = λ y. assigns_in y first in let b : ℕ → Bool = λ y. assigns_in y second in
        let u : ℕ → Bool = λ y. unsets_in y first in let v : ℕ → Bool = λ y. unsets_in y second in
        let P : Exit → Type 0 = AtExit (Keeps (λ y. a y || b y) (λ y. u y || v y) s) in
        every_spend true (λ j. tested_truth w at e s j >>= (λ c. choose c (exec_all w fr first s) (exec_all w fr second s))) P
        (λ j. every_bind (tested_truth w at e s j) (λ c. choose c (exec_all w fr first s) (exec_all w fr second s)) (λ c. Unit {0}) P (every_told _ _ (λ c k q. tt))
        (λ c k q z. every_choose c (exec_all w fr first s) (exec_all w fr second s) k P
        (λ yes. every_map (exec_all w fr first s k) (AtExit (Keeps a u s)) P (block_keeps first s k) (λ x h. exit_map (Keeps a u s) (Keeps (λ y. a y || b y) (λ y. u y || v y) s) x (λ t g. keeps_first a u b v s t g) h))
        (λ no. every_map (exec_all w fr second s k) (AtExit (Keeps b v s)) P (block_keeps second s k) (λ x h. exit_map (Keeps b v s) (Keeps (λ y. a y || b y) (λ y. u y || v y) s) x (λ t g. keeps_second a u b v s t g) h)))) m
    stmt_keeps (WhileStmt at e invariants body) s m =
        let P : Exit → Type 0 = AtExit (Keeps (λ y. assigns_in y body) (λ y. unsets_in y body) s) in
        let go : Run Exit = λ j. next_of at e invariants body (suc j.ticks) s j in
        every_spend true (clauses w kind.Entry at invariants s go) P
        (λ j. every_clauses w kind.Entry at invariants s go j P
        (λ k. rounds_keep at e invariants body s (λ t l. block_keeps body t l) (suc k.ticks) s (keeps_same (λ y. assigns_in y body) (λ y. unsets_in y body) s) k)) m

    pub block_keeps : (b : Stmts Node) (s : Store) (m : Meter) → Every (exec_all w fr b s m) (AtExit (Keeps (λ y. assigns_in y b) (λ y. unsets_in y b) s))
    block_keeps NoStmts s m = keeps_same (λ y. false) (λ y. false) s
    block_keeps (MoreStmts first rest) s m =
        let a : ℕ → Bool = λ y. assigns y first in let b : ℕ → Bool = λ y. assigns_in y rest in
        let u : ℕ → Bool = λ y. unsets y first in let v : ℕ → Bool = λ y. unsets_in y rest in
        let K : Store → Type 0 = Keeps (λ y. a y || b y) (λ y. u y || v y) s in
        every_bind (exec w fr first s m) (λ x. go_on x (exec_all w fr rest)) (AtExit (Keeps a u s)) (AtExit K) (stmt_keeps first s m)
        (λ x k e h. goes_keep a u b v s (exec_all w fr rest) (λ t l. block_keeps rest t l) x k h)

pub statements_keep : StatementsKeepOthers
statements_keep = record {
  statement = λ w fr st s x m k e. every_of (exec w fr st s m) (AtExit (Keeps (λ y. assigns y st) (λ y. unsets y st) s)) (stmt_keeps w fr st s m) x k e;
  block = λ w fr b s x m k e. every_of (exec_all w fr b s m) (AtExit (Keeps (λ y. assigns_in y b) (λ y. unsets_in y b) s)) (block_keeps w fr b s m) x k e;
}
