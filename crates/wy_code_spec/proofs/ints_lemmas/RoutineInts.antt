-- Each number that the code of a program puts into a register is an `int`.
use Rattle.std.proofs.Common.{◌+◌, ℕ, zero, suc, max, List, [], ◌∷◌, ◌++◌, length, Bool, true, false, ◌&&◌, cond, Option, Some, None}
use Rattle.std.specs.List.{All}
use Rattle.std.proofs.lemmas.List.Elements.{All-nil, All-cons, All-append}
use Rattle.wy_core.specs.CoreTree as tree
use Rattle.wy_core.specs.CoreTree.{Expr, Exprs, Step, IndexStep, FieldStep, Stmt, DeclareStmt, AssignStmt, CallStmt, ReturnStmt, AssertStmt, BreakStmt, ContinueStmt, SkipStmt, FailStmt, IfStmt, WhileStmt, Stmts, NoStmts, MoreStmts, Decl, AliasDecl, RoutineDecl, Core, aliases_of, routines_of}
use Rattle.wy_live.specs.Sets.{Variables, has, with, without}
use Rattle.wy_live.specs.Walks.{before, before_steps, live_all, head_live, around, nothing}
use Rattle.wy_live.specs.declared.walk.Ends.{Ends}
use Rattle.wy_code.specs.declared.instructions.Instr.TheVariants as instr
use Rattle.wy_code.specs.declared.pieces.steps.Step as steps
use Rattle.wy_code.specs.declared.pieces.steps.Step.TheVariants.{Does, GoesOn, GoesBack, GoesOnUnless}
use Rattle.wy_code.specs.pieces.Steps.{clear, dropped, fork, over, turns}
use Rattle.wy_code.specs.pieces.Placing.{placed}
use Rattle.wy_code_spec.specs.declared.tables.context.Context.{Context}
use Rattle.wy_code_spec.specs.declared.tables.targets.Target.{Target}
use Rattle.wy_code_spec.specs.declared.tables.targets.Target.TheVariants.{Declared, Prints, PrintsInt, Nothing}
use Rattle.wy_code_spec.specs.tables.Tables.{target, context_of}
use Rattle.wy_core.specs.formed.Literals.{IntsExpr, IntsClauses, IntsOption, IntsPath, IntsStmt, IntsStmts, Ints}
use Rattle.wy_code_spec.specs.compiled.TypeTests as types
use Rattle.wy_code_spec.specs.compiled.Operands.{read, unless_read}
use Rattle.wy_code_spec.specs.compiled.Expressions.{released, release_unless, is_plain, count_of, code, codes}
use Rattle.wy_code_spec.specs.compiled.Straight.{is_straight, into}
use Rattle.wy_code_spec.specs.compiled.Statements as spec
use Rattle.wy_code_spec.specs.compiled.Programs as programs
use Rattle.wy_code_spec.specs.ints.Loadable.{PutsInt, PutsInts}
use Rattle.wy_code_spec.proofs.ints_lemmas.IntLemmas.{AllPut, ints_append, clear_ints, dropped_ints, fork_ints, turns_ints, released_ints, unless_ints, operand_ints, test_ints, code_ints, codes_ints, into_ints}

-- ---- statements

store_ints : (x : ℕ) (s : Variables) (r : ℕ) (plain : Bool) → AllPut (spec.store x s r plain)
store_ints x s r plain = both (has s x)
  where
    both : (h : Bool) → AllPut (cond h (Does (instr.Move x r) ∷ []) (release_unless plain r))
    both true = (tt, tt)
    both false = unless_ints plain r

set_ints : (c : Context) (x : ℕ) (e : Expr ℕ) (s : Variables) (n : ℕ) → IntsExpr e → AllPut (spec.set c x e s n)
set_ints c x e s n h = both (has s x && is_straight e (without s x))
  where
    both : (k : Bool) → AllPut (cond k (into c e (without s x) n x) (code c e (without s x) n ++ spec.store x s n (is_plain e)))
    both true = into_ints c e (without s x) n x h
    both false = ints_append (code c e (without s x) n) (spec.store x s n (is_plain e)) (code_ints c e (without s x) n h) (store_ints x s n (is_plain e))

declare_ints : (c : Context) (x : ℕ) (value : Option (Expr ℕ)) (s : Variables) (n : ℕ) → IntsOption value → AllPut (spec.declare c x value s n)
declare_ints c x None s n h = tt
declare_ints c x (Some e) s n h = set_ints c x e s n h

indices_ints : (c : Context) (path : List (Step ℕ)) (b s : Variables) (r : ℕ) → IntsPath path → AllPut (spec.indices c path b s r)
indices_ints c [] b s r h = tt
indices_ints c (IndexStep at e ∷ path) b s r h =
    let one = code c e (before_steps path b) r in
    ints_append (unless_read (read e s) one) (spec.indices c path b s (suc r)) (operand_ints (read e s) one (code_ints c e (before_steps path b) r h.0)) (indices_ints c path b s (suc r) h.1)
indices_ints c (FieldStep at name ∷ path) b s r h = indices_ints c path b s r h

kept_ints : (x : ℕ) (s : Variables) → AllPut (spec.kept x s)
kept_ints x s = both (has s x)
  where
    both : (h : Bool) → AllPut (cond h [] (clear (x ∷ [])))
    both true = tt
    both false = (tt, tt)

update_ints : (c : Context) (x : ℕ) (path : List (Step ℕ)) (e : Expr ℕ) (s : Variables) (n : ℕ) → IntsPath path → IntsExpr e → AllPut (spec.update c x path e s n)
update_ints c x path e s n h k =
    ints_append (spec.indices c path (before e (with s x)) s n) _ (indices_ints c path (before e (with s x)) s n h)
    (ints_append (code c e (with s x) (n + spec.index_count path)) _ (code_ints c e (with s x) (n + spec.index_count path) k) (tt, kept_ints x s))

assign_ints : (c : Context) (x : ℕ) (path : List (Step ℕ)) (e : Expr ℕ) (s : Variables) (n : ℕ) → IntsPath path → IntsExpr e → AllPut (spec.assign c x path e s n)
assign_ints c x [] e s n h k = set_ints c x e s n k
assign_ints c x (step ∷ path) e s n h k = update_ints c x (step ∷ path) e s n h k

where_ints : (some : Bool) (r : ℕ) → AllPut (spec.release_where some r)
where_ints true r = (tt, tt)
where_ints false r = tt

call_step_ints : (to : Target) (f n count : ℕ) → AllPut (spec.call_step to f n count)
call_step_ints (Declared gives) f n count = (tt, where_ints gives n)
call_step_ints Prints f n count = (tt, (tt, tt))
call_step_ints PrintsInt f n count = (tt, tt)
call_step_ints Nothing f n count = tt

give_ints : (c : Context) (value : Option (Expr ℕ)) (n : ℕ) → IntsOption value → AllPut (spec.give c value n)
give_ints c None n h = (tt, (tt, tt))
give_ints c (Some e) n h = ints_append (code c e [] n) _ (code_ints c e [] n h) (tt, tt)

branches_ints : (r : ℕ) (plain : Bool) (first second : List steps.Step) → AllPut first → AllPut second → AllPut (spec.branches r plain first second)
branches_ints r plain [] [] a b = unless_ints plain r
branches_ints r plain (s ∷ first) [] a b = fork_ints r (s ∷ first) [] a b
branches_ints r plain first (s ∷ second) a b = fork_ints r first (s ∷ second) a b

mutual
  stmt_ints : (c : Context) (st : Stmt ℕ) (s : Variables) (ends : Ends) (n exit again : ℕ) → IntsStmt st → AllPut (spec.stmt_code c st s ends n exit again)
  stmt_ints c (DeclareStmt at ty x value) s ends n exit again h = declare_ints c x value s n h
  stmt_ints c (AssignStmt at x path e) s ends n exit again h = assign_ints c x path e s n h.0 h.1
  stmt_ints c (CallStmt at f args) s ends n exit again h = ints_append (codes c args s n) _ (codes_ints c args s n h) (call_step_ints (target c.results f) f n (count_of args))
  stmt_ints c (ReturnStmt at value) s ends n exit again h = give_ints c value n h
  stmt_ints c (AssertStmt at e) s ends n exit again h = tt
  stmt_ints c (BreakStmt at) s ends n exit again h = tt
  stmt_ints c (ContinueStmt at) s ends n exit again h = tt
  stmt_ints c (SkipStmt at) s ends n exit again h = tt
  stmt_ints c (FailStmt at) s ends n exit again h = (tt, (tt, tt))
  stmt_ints c (IfStmt at e first second) s ends n exit again h =
      let both = spec.choice first second s ends in
      let two = released both (live_all second s ends) ++ spec.stmts_code c second s ends n exit again in
      let one = released both (live_all first s ends) ++ spec.stmts_code c first s ends n (over two + exit) (over two + again) in
      ints_append (code c e both n) (spec.branches n (is_plain e) one two) (code_ints c e both n h.0)
      (branches_ints n (is_plain e) one two
      (ints_append (released both (live_all first s ends)) _ (released_ints both (live_all first s ends)) (stmts_ints c first s ends n (over two + exit) (over two + again) h.1))
      (ints_append (released both (live_all second s ends)) _ (released_ints both (live_all second s ends)) (stmts_ints c second s ends n exit again h.2)))
  stmt_ints c (WhileStmt at e invariants body) s ends n exit again h =
      let head = head_live e body s in let both = spec.turn e body s in let gone = released both s in
      let inner = spec.stmts_code c body head (around s head) n (length gone + 1) 0 in
      ints_append (turns (code c e both n) n (released both (spec.inside e body s) ++ inner)) gone
      (turns_ints (code c e both n) n (released both (spec.inside e body s) ++ inner) (code_ints c e both n h.0)
      (ints_append (released both (spec.inside e body s)) inner (released_ints both (spec.inside e body s)) (stmts_ints c body head (around s head) n (length gone + 1) 0 h.2)))
      (released_ints both s)

  stmts_ints : (c : Context) (ss : Stmts ℕ) (s : Variables) (ends : Ends) (n exit again : ℕ) → IntsStmts ss → AllPut (spec.stmts_code c ss s ends n exit again)
  stmts_ints c NoStmts s ends n exit again h = tt
  stmts_ints c (MoreStmts st rest) s ends n exit again h =
      let after = spec.stmts_code c rest s ends n exit again in
      ints_append (spec.stmt_code c st (live_all rest s ends) ends n (length after + exit) (length after + again)) after
      (stmt_ints c st (live_all rest s ends) ends n (length after + exit) (length after + again) h.0) (stmts_ints c rest s ends n exit again h.1)

-- ---- routines

ints_placed : (at : ℕ) (xs : List steps.Step) → AllPut xs → All PutsInt (placed at xs)
ints_placed at [] a = All-nil PutsInt
ints_placed at (Does i ∷ xs) a = All-cons PutsInt i (placed (suc at) xs) a.0 (ints_placed (suc at) xs a.1)
ints_placed at (GoesOn n ∷ xs) a = All-cons PutsInt _ (placed (suc at) xs) tt (ints_placed (suc at) xs a)
ints_placed at (GoesBack n ∷ xs) a = All-cons PutsInt _ (placed (suc at) xs) tt (ints_placed (suc at) xs a)
ints_placed at (GoesOnUnless r n ∷ xs) a = All-cons PutsInt _ (placed (suc at) xs) tt (ints_placed (suc at) xs a)

body_ints : (c : Context) (r : tree.Routine ℕ) → IntsStmts r.body → PutsInts (programs.body_routine c r)
body_ints c r h =
    let n = length r.variables in
    ints_placed 0 (programs.body_steps c r)
    (ints_append (clear (programs.unused_params (live_all r.body [] nothing) r.params)) _ (clear_ints (programs.unused_params (live_all r.body [] nothing) r.params))
    (ints_append (spec.stmts_code c r.body [] nothing n 0 0) _ (stmts_ints c r.body [] nothing n 0 0 h) (tt, (tt, tt))))

clauses_ints : (c : Context) (es : List (Expr ℕ)) (s : Variables) (r : ℕ) → IntsClauses es → AllPut (programs.clauses_steps c es s r)
clauses_ints c [] s r h = tt
clauses_ints c (e ∷ es) s r h = ints_append (code c e s r) _ (code_ints c e s r h.0) (fork_ints r (programs.clauses_steps c es s r) [] (clauses_ints c es s r h.1) tt)

taken_ints : (x : ℕ) → AllPut (programs.taken x)
taken_ints zero = tt
taken_ints (suc x) = (tt, tt)

type_ints : (c : Context) (a : tree.Alias ℕ) → IntsClauses a.clauses → PutsInts (programs.type_routine c a)
type_ints c a k =
    let x = programs.variable_of a.variable in let n = max 1 (length a.variables) in
    ints_placed 0 (programs.type_steps_at c a x n)
    (ints_append (programs.taken x) _ (taken_ints x)
    (ints_append (types.test c a.ty x n (suc n)) _ (test_ints c a.ty x n (suc n))
    (ints_append (fork n (programs.clauses_steps c a.clauses (with [] x) n) []) _ (fork_ints n (programs.clauses_steps c a.clauses (with [] x) n) [] (clauses_ints c a.clauses (with [] x) n k) tt)
    (ints_append (dropped x (suc n)) (Does (instr.Return n) ∷ []) (dropped_ints x (suc n)) (tt, tt)))))

bodies_ints : (c : Context) (ds : Core ℕ) → Ints ds → All PutsInts (programs.body_routines c (routines_of ds))
bodies_ints c [] h = All-nil PutsInts
bodies_ints c (AliasDecl a ∷ ds) h = bodies_ints c ds h.1
bodies_ints c (RoutineDecl r ∷ ds) h = All-cons PutsInts (programs.body_routine c r) (programs.body_routines c (routines_of ds)) (body_ints c r h.0.body) (bodies_ints c ds h.1)

types_ints : (c : Context) (ds : Core ℕ) → Ints ds → All PutsInts (programs.type_routines c (aliases_of ds))
types_ints c [] h = All-nil PutsInts
types_ints c (AliasDecl a ∷ ds) h = All-cons PutsInts (programs.type_routine c a) (programs.type_routines c (aliases_of ds)) (type_ints c a h.0) (types_ints c ds h.1)
types_ints c (RoutineDecl r ∷ ds) h = types_ints c ds h.1

pub all_ints : (core : Core ℕ) → Ints core → All PutsInts (programs.code_of core).routines
all_ints core h =
    let c = context_of core in
    All-append PutsInts (programs.body_routines c (routines_of core)) (programs.type_routines c (aliases_of core)) (bodies_ints c core h) (types_ints c core h)
