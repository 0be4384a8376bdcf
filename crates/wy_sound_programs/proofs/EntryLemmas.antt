-- Where the body of a function or method begins, and how it ends.
use Rattle.std.proofs.Common.{◌≡◌, ℕ, zero, suc, ◌+◌, List, [], ◌∷◌, Bool, true, false, Option, Some, None, refl, ◌∙◌}
use Rattle.wy_value.specs.Datum.{Datum}
use Rattle.wy_core.specs.Types.{Ty}
use Rattle.wy_core.specs.CoreTree as tree
use Rattle.wy_core.specs.CoreTree.{Param, Routine, Core, Decl, AliasDecl, RoutineDecl, Expr, Step, IndexStep, FieldStep, Stmt, DeclareStmt, AssignStmt, CallStmt, ReturnStmt, AssertStmt, BreakStmt, ContinueStmt, SkipStmt, FailStmt, IfStmt, WhileStmt, Stmts, NoStmts, MoreStmts}
use Rattle.wy_term.specs.declared.cond.CondKind.{CondKind}
use Rattle.wy_term.specs.declared.cond.CondKind.TheVariants as kind
use Rattle.wy_sem.specs.Meter.{Meter, Done, Fault, Run, ◌>>=◌, check, choose}
use Rattle.wy_sem.specs.Operations.{updated}
use Rattle.wy_sem.specs.Expressions as sem
use Rattle.wy_sem.specs.Expressions.{Store, slot, put}
use Rattle.wy_sem.specs.TypeTests.{set_if}
use Rattle.wy_sem.specs.Statements as run
use Rattle.wy_sem.specs.Statements.{Exit, Went, Broke, Continued, Gave, Frame, type_at}
use Rattle.wy_core.specs.formed.Offers.{Offers}
use Rattle.wy_core.specs.formed.Bound as bound
use Rattle.wy_core.specs.formed.Bound.{Around, looped, behind, BoundStmt, BoundStmts}
use Rattle.wy_vc_spec.specs.Making.{val_name}
use Rattle.wy_vc_spec.specs.Sizes.{exprs_in, exprs_in_list, exprs_in_path, exprs_in_stmt, exprs_in_block}
use Rattle.wy_vc_spec.specs.Numbered.{Node, numbered, numbered_all, numbered_list, numbered_path, numbered_stmt, numbered_block}
use Rattle.wy_vc_spec.specs.Values.{Setting, word_at, variable}
use Rattle.wy_vc_spec.specs.Clauses.{assume_in_type}
use Rattle.wy_vc_spec.specs.Spots.{Spot, spot, assign, with_hyps}
use Rattle.wy_vc_spec.specs.Programs.{name_params, assume_params}
use Rattle.wy_sound_statements.proofs.wy_sound_kinds_proofs.frames_lemmas.EveryLemmas.{Every, every_bind, every_told, every_of, every_spend, every_check, every_choose, every_needed}
use Rattle.wy_sound_programs.specs.Bodies.{NoneLeft}
use Rattle.wy_sound_programs.specs.Entries.{marked_params, EntriesMarkParams, BodiesStayInside}

-- ---- marks of parameters

pub named_set : (words : List (List ℕ)) (ps : List Param) (p : Spot) (n : ℕ) → (name_params words ps p n).spot.set ≡ marked_params ps p.set
named_set words [] p n = refl
named_set words (x ∷ xs) p n = named_set words xs (assign x.variable (val_name (word_at words x.variable) n) p) (suc n)

pub assumed_set : (s : Setting Node) (ps : List Param) (p : Spot) (n : ℕ) → (assume_params s ps p n).spot.set ≡ p.set
assumed_set s [] p n = refl
assumed_set s (x ∷ xs) p n = let f = assume_in_type s x.ty (variable p.vars x.variable) p.hyps n in assumed_set s xs (with_hyps f.hyps p) f.count

pub entries_mark : EntriesMarkParams
entries_mark s r = let start = name_params r.variables r.params (spot [] [] []) 0 in assumed_set s r.params start.spot start.count ∙ named_set r.variables r.params (spot [] [] []) 0

-- ---- ends of bodies

pub clauses_any : {X : Type 0} {N : Type 0} (w : sem.Setting N) (why : CondKind) (at : ℕ) (es : List (Expr N)) (s : Store) (next : Run X) (m : Meter) (P : X → Type 0) → ((k : Meter) → Every (next k) P) → Every (sem.clauses w why at es s next m) P
clauses_any w why at [] s next m P h = h m
clauses_any w why at (e ∷ es) s next m P h =
    every_bind (sem.holds w e s m) (λ b. check b why at (sem.clauses w why at es s next)) (λ b. Unit {0}) P (every_told _ _ (λ b k q. tt))
    (λ b k q u. every_check b why at (sem.clauses w why at es s next) k P (λ on. clauses_any w why at es s next k P h))

pub leaves_any : {N : Type 0} (w : sem.Setting N) (fr : Frame N) (at : ℕ) (out : Option tree.Output) (v : Option Datum) (m : Meter) (P : Exit → Type 0) → ((r : Option Datum) → P (Gave r)) → Every (run.leave w fr at out v m) P
leaves_any w fr at None None m P h = clauses_any w kind.Ensures at fr.postconditions fr.entry (Done (Gave None)) m P (λ k. h None)
leaves_any w fr at None (Some v) m P h = tt
leaves_any w fr at (Some o) None m P h = tt
leaves_any w fr at (Some o) (Some v) m P h =
    every_bind (fr.member o.ty v m) (λ b. check b kind.Member at (sem.clauses w kind.Ensures at fr.postconditions (set_if fr.entry o.variable (Some v)) (Done (Gave (Some v))))) (λ b. Unit {0}) P (every_told _ _ (λ b k e. tt))
    (λ b k e q. every_check b kind.Member at (sem.clauses w kind.Ensures at fr.postconditions (set_if fr.entry o.variable (Some v)) (Done (Gave (Some v)))) k P
    (λ on. clauses_any w kind.Ensures at fr.postconditions (set_if fr.entry o.variable (Some v)) (Done (Gave (Some v))) k P (λ l. h (Some v))))

-- what isn't left by `break` or `continue`
abbrev Inside : Exit → Type 0
Inside x = NoneLeft x

module _ (w : sem.Setting Node) (fr : Frame Node) (o : Offers) (n : ℕ) where
  stored_inside : (at x : ℕ) (t : Ty) (s : Store) (d : Datum) (m : Meter) → Every (run.stored fr at x t s d m) Inside
  stored_inside at x t s d m =
      every_bind (fr.member t d m) (λ r. check r kind.Member at (Done (Went (put s x (Some d))))) (λ r. Unit {0}) Inside (every_told _ _ (λ r i e. tt)) (λ r i e u. every_check r kind.Member at (Done (Went (put s x (Some d)))) i Inside (λ q. tt))

  assigned_inside : (at x : ℕ) (path : List (Step Node)) (e : Expr Node) (s : Store) (m : Meter) → Every (run.assigned w fr at x path e s m) Inside
  assigned_inside at x [] e s m =
      every_bind (sem.eval w true e s m) (run.stored fr at x (type_at fr.types x) s) (λ d. Unit {0}) Inside (every_told _ _ (λ d k q. tt)) (λ d k q u. stored_inside at x (type_at fr.types x) s d k)
  assigned_inside at x (step ∷ steps) e s m =
      every_needed at (slot s x) (λ d j. run.path_of w s (step ∷ steps) d j >>= (λ slots k. sem.eval w true e s k >>= (λ v. run.stored fr at x (type_at fr.types x) s (updated d slots v)))) m Inside
      (λ d q. every_bind (run.path_of w s (step ∷ steps) d m) (λ slots k. sem.eval w true e s k >>= (λ v. run.stored fr at x (type_at fr.types x) s (updated d slots v))) (λ slots. Unit {0}) Inside (every_told _ _ (λ slots k r. tt))
      (λ slots k r u. every_bind (sem.eval w true e s k) (λ v. run.stored fr at x (type_at fr.types x) s (updated d slots v)) (λ v. Unit {0}) Inside (every_told _ _ (λ v l z. tt)) (λ v l z y. stored_inside at x (type_at fr.types x) s (updated d slots v) l)))

  goes_inside : (x : Exit) (next : Store → Run Exit) (m : Meter) → NoneLeft x → ((s : Store) (k : Meter) → Every (next s k) Inside) → Every (run.go_on x next m) Inside
  goes_inside (Went s) next m h f = f s m
  goes_inside (Broke s) next m h f = h
  goes_inside (Continued at s) next m h f = h
  goes_inside (Gave v) next m h f = h

  -- a loop ends behind it, or with a result
  round_inside : (at : ℕ) (keep : ℕ → Store → Run Exit → Run Exit) (next : Store → Run Exit) → ((from : ℕ) (s : Store) (k : Meter) → ((j : Meter) → Every (next s j) Inside) → Every (keep from s (next s) k) Inside) → ((s : Store) (k : Meter) → Every (next s k) Inside) → (x : Exit) (m : Meter) → Every (run.go_round at keep next x m) Inside
  round_inside at keep next k f (Went s) m = k at s m (f s)
  round_inside at keep next k f (Broke s) m = tt
  round_inside at keep next k f (Continued from s) m = k from s m (f s)
  round_inside at keep next k f (Gave v) m = tt

  rounds_inside : (at : ℕ) (e : Expr Node) (clauses : List (Expr Node)) (body : Stmts Node) (j : ℕ) (s : Store) (m : Meter) → Every (run.rounds j at (run.tested_truth w at e) (run.exec_all w fr body) (λ from. sem.clauses w kind.Keep from clauses) s m) Inside
  rounds_inside at e clauses body zero s m = tt
  rounds_inside at e clauses body (suc j) s m =
      let next : Store → Run Exit = run.rounds j at (run.tested_truth w at e) (run.exec_all w fr body) (λ from. sem.clauses w kind.Keep from clauses) in
      let turn : Bool → Run Exit = λ b. choose b (λ k. run.exec_all w fr body s k >>= run.go_round at (λ from. sem.clauses w kind.Keep from clauses) next) (Done (Went s)) in
      every_spend true (λ k. run.tested_truth w at e s k >>= turn) Inside
      (λ k. every_bind (run.tested_truth w at e s k) turn (λ b. Unit {0}) Inside (every_told _ _ (λ b i q. tt))
      (λ b i q u. every_choose b (λ z. run.exec_all w fr body s z >>= run.go_round at (λ from. sem.clauses w kind.Keep from clauses) next) (Done (Went s)) i Inside
      (λ on. every_bind (run.exec_all w fr body s i) (run.go_round at (λ from. sem.clauses w kind.Keep from clauses) next) (λ x. Unit {0}) Inside (every_told _ _ (λ x z q2. tt))
      (λ x z q2 u2. round_inside at (λ from. sem.clauses w kind.Keep from clauses) next (λ from t y f. clauses_any w kind.Keep from clauses t (next t) y Inside f) (λ t y. rounds_inside at e clauses body j t y) x z))
      (λ off. tt))) m

  mutual
    inside : (st : Stmt ℕ) (a : Around) (vs : bound.Scope) (k : ℕ) (s : Store) (m : Meter) → a.in_loop ≡ false → BoundStmt o n a vs st → Every (run.exec w fr (numbered_stmt st k) s m) Inside
    inside (DeclareStmt at t x None) a vs k s m out b = every_spend true (Done (Went (put s x None))) Inside (λ l. tt) m
    inside (DeclareStmt at t x (Some e)) a vs k s m out b =
        every_spend true (λ z. sem.eval w true (numbered e k) s z >>= run.stored fr at x t s) Inside
        (λ z. every_bind (sem.eval w true (numbered e k) s z) (run.stored fr at x t s) (λ d. Unit {0}) Inside (every_told _ _ (λ d l q. tt)) (λ d l q u. stored_inside at x t s d l)) m
    inside (AssignStmt at x path e) a vs k s m out b = every_spend true (run.assigned w fr at x (numbered_path path k) (numbered e (k + exprs_in_path path)) s) Inside (λ z. assigned_inside at x (numbered_path path k) (numbered e (k + exprs_in_path path)) s z) m
    inside (CallStmt at f es) a vs k s m out b =
        every_spend true (λ z. sem.eval_all w true (numbered_all es k) s z >>= (λ us y. w.call f at us y >>= (λ r. Done (Went s)))) Inside
        (λ z. every_bind (sem.eval_all w true (numbered_all es k) s z) (λ us y. w.call f at us y >>= (λ r. Done (Went s))) (λ us. Unit {0}) Inside (every_told _ _ (λ us y q. tt))
        (λ us y q u. every_bind (w.call f at us y) (λ r. Done (Went s)) (λ r. Unit {0}) Inside (every_told _ _ (λ r l q2. tt)) (λ r l q2 u2. tt))) m
    inside (ReturnStmt at None) a vs k s m out b = every_spend true (run.leave w fr at fr.result None) Inside (λ z. leaves_any w fr at fr.result None z Inside (λ r. tt)) m
    inside (ReturnStmt at (Some e)) a vs k s m out b =
        every_spend true (λ z. sem.eval w true (numbered e k) s z >>= (λ d. run.leave w fr at fr.result (Some d))) Inside
        (λ z. every_bind (sem.eval w true (numbered e k) s z) (λ d. run.leave w fr at fr.result (Some d)) (λ d. Unit {0}) Inside (every_told _ _ (λ d y q. tt)) (λ d y q u. leaves_any w fr at fr.result (Some d) y Inside (λ r. tt))) m
    inside (AssertStmt at e) a vs k s m out b =
        every_spend true (λ z. sem.holds_at w at (numbered e k) s z >>= (λ r. check r kind.Assert at (Done (Went s)))) Inside
        (λ z. every_bind (sem.holds_at w at (numbered e k) s z) (λ r. check r kind.Assert at (Done (Went s))) (λ r. Unit {0}) Inside (every_told _ _ (λ r y q. tt)) (λ r y q u. every_check r kind.Assert at (Done (Went s)) y Inside (λ on. tt))) m
    inside (BreakStmt at) a vs k s m out b = absurd (cc (out, b))
    inside (ContinueStmt at) a vs k s m out b = absurd (cc (out, b))
    inside (SkipStmt at) a vs k s m out b = every_spend true (Done (Went s)) Inside (λ z. tt) m
    inside (FailStmt at) a vs k s m out b = every_spend true (Fault kind.Fail at) Inside (λ z. tt) m
    inside (IfStmt at e first second) a vs k s m out b =
        let b1 = numbered_block first (k + exprs_in e) in
        let b2 = numbered_block second (k + exprs_in e + exprs_in_block first) in
        every_spend true (λ z. run.tested_truth w at (numbered e k) s z >>= (λ r. choose r (run.exec_all w fr b1 s) (run.exec_all w fr b2 s))) Inside
        (λ z. every_bind (run.tested_truth w at (numbered e k) s z) (λ r. choose r (run.exec_all w fr b1 s) (run.exec_all w fr b2 s)) (λ r. Unit {0}) Inside (every_told _ _ (λ r y q. tt))
        (λ r y q u. every_choose r (run.exec_all w fr b1 s) (run.exec_all w fr b2 s) y Inside (λ on. all_inside first a vs (k + exprs_in e) s y out b.1) (λ off. all_inside second a vs (k + exprs_in e + exprs_in_block first) s y out b.2))) m
    inside (WhileStmt at e invariants body) a vs k s m out b =
        let clauses = numbered_list invariants (k + exprs_in e) in
        let block = numbered_block body (k + exprs_in e + exprs_in_list invariants) in
        let go : Run Exit = λ z. run.rounds (suc z.ticks) at (run.tested_truth w at (numbered e k)) (run.exec_all w fr block) (λ from. sem.clauses w kind.Keep from clauses) s z in
        every_spend true (sem.clauses w kind.Entry at clauses s go) Inside (λ z. clauses_any w kind.Entry at clauses s go z Inside (λ y. rounds_inside at (numbered e k) clauses block (suc y.ticks) s y)) m

    all_inside : (block : Stmts ℕ) (a : Around) (vs : bound.Scope) (k : ℕ) (s : Store) (m : Meter) → a.in_loop ≡ false → BoundStmts o n a vs block → Every (run.exec_all w fr (numbered_block block k) s m) Inside
    all_inside NoStmts a vs k s m out b = tt
    all_inside (MoreStmts first rest) a vs k s m out b =
        every_bind (run.exec w fr (numbered_stmt first k) s m) (λ x. run.go_on x (run.exec_all w fr (numbered_block rest (k + exprs_in_stmt first)))) Inside Inside (inside first a vs k s m out b.0)
        (λ x z q h. goes_inside x (run.exec_all w fr (numbered_block rest (k + exprs_in_stmt first))) z h (λ t y. all_inside rest a (behind vs first) (k + exprs_in_stmt first) t y out b.1))

pub bodies_inside : BodiesStayInside
bodies_inside w fr o n a vs block k s x m j out b e = every_of (run.exec_all w fr (numbered_block block k) s m) Inside (all_inside w fr o n block a vs k s m out b) x j e
