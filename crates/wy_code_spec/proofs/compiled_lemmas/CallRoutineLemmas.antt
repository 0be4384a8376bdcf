-- Each call in a program is one of a routine of it.
use Rattle.std.proofs.Common.{◌≡◌, ◌<◌, ◌+◌, ◌-◌, ℕ, zero, suc, max, List, [], ◌∷◌, ◌++◌, length, Bool, true, false, ◌&&◌, cond, Option, Some, None, refl, ap, subst, length-append, arith}
use Rattle.std.specs.List.{All}
use Rattle.std.proofs.lemmas.List.Elements.{All-nil, All-cons, All-append}
use Rattle.wy_core.specs.CoreTree as tree
use Rattle.wy_core.specs.CoreTree.{Expr, Exprs, Step, IndexStep, FieldStep, Stmt, DeclareStmt, AssignStmt, CallStmt, ReturnStmt, AssertStmt, BreakStmt, ContinueStmt, SkipStmt, FailStmt, IfStmt, WhileStmt, Stmts, NoStmts, MoreStmts, Decl, AliasDecl, RoutineDecl, Core, aliases_of, routines_of}
use Rattle.wy_lemmas.proofs.Lists.{below_all}
use Rattle.wy_live.specs.Sets.{Variables, has, with, without}
use Rattle.wy_live.specs.Walks.{before, before_steps, live_all, head_live, around, nothing}
use Rattle.wy_live.specs.declared.walk.Ends.{Ends}
use Rattle.wy_code.specs.declared.instructions.Instr.TheVariants as instr
use Rattle.wy_code.specs.declared.pieces.steps.Step as steps
use Rattle.wy_code.specs.declared.pieces.steps.Step.TheVariants.{Does, GoesOn, GoesBack, GoesOnUnless}
use Rattle.wy_code.specs.pieces.Steps.{clear, dropped, fork, over, turns}
use Rattle.wy_code.specs.pieces.Placing.{placed}
use Rattle.wy_code_spec.specs.declared.tables.context.Context.{Context}
use Rattle.wy_code_spec.specs.declared.tables.targets.Target.{Target}
use Rattle.wy_code_spec.specs.declared.tables.targets.Target.TheVariants.{Declared, Prints, PrintsInt, Nothing}
use Rattle.wy_code_spec.specs.tables.Tables.{target, context_of, results_of}
use Rattle.wy_code_spec.specs.compiled.TypeTests as types
use Rattle.wy_code_spec.specs.compiled.Operands.{read, unless_read}
use Rattle.wy_code_spec.specs.compiled.Expressions.{released, release_unless, is_plain, count_of, code, codes}
use Rattle.wy_core.specs.formed.Offers.{Offers, offers_of}
use Rattle.wy_core.specs.formed.Bound.{Scope, Around, looped, behind, Bound, BoundExpr, BoundOption, BoundPath, BoundStmt, BoundStmts, BoundClauses, BoundAlias, BoundRoutine, BoundDecls}
use Rattle.wy_code_spec.specs.compiled.Straight.{is_straight, into}
use Rattle.wy_code_spec.specs.compiled.Statements as spec
use Rattle.wy_code_spec.specs.compiled.Programs as programs
use Rattle.wy_code_spec.specs.compiled.Ranges.{routines_in, CallsBelow}
use Rattle.wy_code_spec.proofs.compiled_lemmas.CallLemmas.{AllCall, calls_append, clear_calls, dropped_calls, fork_calls, turns_calls, released_calls, unless_calls, operand_calls, test_calls, code_calls, codes_calls, into_calls, called_within}

-- ---- statements

store_calls : (t : ℕ) (x : ℕ) (s : Variables) (r : ℕ) (plain : Bool) → AllCall t (spec.store x s r plain)
store_calls t x s r plain = both (has s x)
  where
    both : (h : Bool) → AllCall t (cond h (Does (instr.Move x r) ∷ []) (release_unless plain r))
    both true = (tt, tt)
    both false = unless_calls t plain r

set_calls : (c : Context) (o : Offers) (m : ℕ) (vs : Scope) (x : ℕ) (e : Expr ℕ) (s : Variables) (n : ℕ) → BoundExpr o m vs e → AllCall (length c.results + o.types) (spec.set c x e s n)
set_calls c o m vs x e s n h = both (has s x && is_straight e (without s x))
  where
    both : (k : Bool) → AllCall (length c.results + o.types) (cond k (into c e (without s x) n x) (code c e (without s x) n ++ spec.store x s n (is_plain e)))
    both true = into_calls c o m vs e (without s x) n x h
    both false = calls_append (length c.results + o.types) (code c e (without s x) n) (spec.store x s n (is_plain e)) (code_calls c o m vs e (without s x) n h) (store_calls (length c.results + o.types) x s n (is_plain e))

declare_calls : (c : Context) (o : Offers) (m : ℕ) (vs : Scope) (x : ℕ) (value : Option (Expr ℕ)) (s : Variables) (n : ℕ) → BoundOption o m vs value → AllCall (length c.results + o.types) (spec.declare c x value s n)
declare_calls c o m vs x None s n h = tt
declare_calls c o m vs x (Some e) s n h = set_calls c o m vs x e s n h

indices_calls : (c : Context) (o : Offers) (m : ℕ) (vs : Scope) (path : List (Step ℕ)) (b s : Variables) (r : ℕ) → BoundPath o m vs path → AllCall (length c.results + o.types) (spec.indices c path b s r)
indices_calls c o m vs [] b s r h = tt
indices_calls c o m vs (IndexStep at e ∷ path) b s r h =
    let one = code c e (before_steps path b) r in
    calls_append (length c.results + o.types) (unless_read (read e s) one) (spec.indices c path b s (suc r)) (operand_calls (length c.results + o.types) (read e s) one (code_calls c o m vs e (before_steps path b) r h.0)) (indices_calls c o m vs path b s (suc r) h.1)
indices_calls c o m vs (FieldStep at name ∷ path) b s r h = indices_calls c o m vs path b s r h

kept_calls : (t : ℕ) (x : ℕ) (s : Variables) → AllCall t (spec.kept x s)
kept_calls t x s = both (has s x)
  where
    both : (h : Bool) → AllCall t (cond h [] (clear (x ∷ [])))
    both true = tt
    both false = (tt, tt)

update_calls : (c : Context) (o : Offers) (m : ℕ) (vs : Scope) (x : ℕ) (path : List (Step ℕ)) (e : Expr ℕ) (s : Variables) (n : ℕ) → BoundPath o m vs path → BoundExpr o m vs e → AllCall (length c.results + o.types) (spec.update c x path e s n)
update_calls c o m vs x path e s n h k =
    calls_append (length c.results + o.types) (spec.indices c path (before e (with s x)) s n) _ (indices_calls c o m vs path (before e (with s x)) s n h)
    (calls_append (length c.results + o.types) (code c e (with s x) (n + spec.index_count path)) _ (code_calls c o m vs e (with s x) (n + spec.index_count path) k) (tt, kept_calls (length c.results + o.types) x s))

assign_calls : (c : Context) (o : Offers) (m : ℕ) (vs : Scope) (x : ℕ) (path : List (Step ℕ)) (e : Expr ℕ) (s : Variables) (n : ℕ) → BoundPath o m vs path → BoundExpr o m vs e → AllCall (length c.results + o.types) (spec.assign c x path e s n)
assign_calls c o m vs x [] e s n h k = set_calls c o m vs x e s n k
assign_calls c o m vs x (step ∷ path) e s n h k = update_calls c o m vs x (step ∷ path) e s n h k

where_calls : (t : ℕ) (some : Bool) (r : ℕ) → AllCall t (spec.release_where some r)
where_calls t true r = (tt, tt)
where_calls t false r = tt

call_step_calls : (results : List Bool) (k f n count : ℕ) → AllCall (length results + k) (spec.call_step (target results f) f n count)
call_step_calls results k f n count = go (target results f) (λ gives is. called_within results f gives is)
  where
    go : (to : Target) → ((gives : Bool) → to ≡ Declared gives → f < length results) → AllCall (length results + k) (spec.call_step to f n count)
    go (Declared gives) h = let l : f < length results = h gives refl in ((omega arith, tt), where_calls (length results + k) gives n)
    go Prints h = (tt, (tt, tt))
    go PrintsInt h = (tt, tt)
    go Nothing h = tt

give_calls : (c : Context) (o : Offers) (m : ℕ) (vs : Scope) (value : Option (Expr ℕ)) (n : ℕ) → BoundOption o m vs value → AllCall (length c.results + o.types) (spec.give c value n)
give_calls c o m vs None n h = (tt, (tt, tt))
give_calls c o m vs (Some e) n h = calls_append (length c.results + o.types) (code c e [] n) _ (code_calls c o m vs e [] n h) (tt, tt)

branches_calls : (t r : ℕ) (plain : Bool) (first second : List steps.Step) → AllCall t first → AllCall t second → AllCall t (spec.branches r plain first second)
branches_calls t r true [] [] a b = tt
branches_calls t r false [] [] a b = (tt, tt)
branches_calls t r plain (s ∷ first) [] a b = fork_calls t r (s ∷ first) [] a b
branches_calls t r plain first (s ∷ second) a b = fork_calls t r first (s ∷ second) a b

mutual
  stmt_calls : (c : Context) (o : Offers) (m : ℕ) (w : Around) (vs : Scope) (st : Stmt ℕ) (s : Variables) (ends : Ends) (n exit again : ℕ) → BoundStmt o m w vs st → AllCall (length c.results + o.types) (spec.stmt_code c st s ends n exit again)
  stmt_calls c o m w vs (DeclareStmt at ty x value) s ends n exit again h = declare_calls c o m vs x value s n h.1
  stmt_calls c o m w vs (AssignStmt at x path e) s ends n exit again h = assign_calls c o m vs x path e s n h.1 h.2
  stmt_calls c o m w vs (CallStmt at f args) s ends n exit again h = calls_append (length c.results + o.types) (codes c args s n) _ (codes_calls c o m vs args s n h.1) (call_step_calls c.results o.types f n (count_of args))
  stmt_calls c o m w vs (ReturnStmt at value) s ends n exit again h = give_calls c o m vs value n h.1
  stmt_calls c o m w vs (AssertStmt at e) s ends n exit again h = tt
  stmt_calls c o m w vs (BreakStmt at) s ends n exit again h = tt
  stmt_calls c o m w vs (ContinueStmt at) s ends n exit again h = tt
  stmt_calls c o m w vs (SkipStmt at) s ends n exit again h = tt
  stmt_calls c o m w vs (FailStmt at) s ends n exit again h = (tt, (tt, tt))
  stmt_calls c o m w vs (IfStmt at e first second) s ends n exit again h =
      let both = spec.choice first second s ends in
      let two = released both (live_all second s ends) ++ spec.stmts_code c second s ends n exit again in
      let one = released both (live_all first s ends) ++ spec.stmts_code c first s ends n (over two + exit) (over two + again) in
      calls_append (length c.results + o.types) (code c e both n) (spec.branches n (is_plain e) one two) (code_calls c o m vs e both n h.0)
      (branches_calls (length c.results + o.types) n (is_plain e) one two
      (calls_append (length c.results + o.types) (released both (live_all first s ends)) _ (released_calls (length c.results + o.types) both (live_all first s ends)) (stmts_calls c o m w vs first s ends n (over two + exit) (over two + again) h.1))
      (calls_append (length c.results + o.types) (released both (live_all second s ends)) _ (released_calls (length c.results + o.types) both (live_all second s ends)) (stmts_calls c o m w vs second s ends n exit again h.2)))
  stmt_calls c o m w vs (WhileStmt at e invariants body) s ends n exit again h =
      let head = head_live e body s in let both = spec.turn e body s in let gone = released both s in
      let inner = spec.stmts_code c body head (around s head) n (length gone + 1) 0 in
      calls_append (length c.results + o.types) (turns (code c e both n) n (released both (spec.inside e body s) ++ inner)) gone
      (turns_calls (length c.results + o.types) (code c e both n) n (released both (spec.inside e body s) ++ inner) (code_calls c o m vs e both n h.0)
      (calls_append (length c.results + o.types) (released both (spec.inside e body s)) inner (released_calls (length c.results + o.types) both (spec.inside e body s)) (stmts_calls c o m (looped w) vs body head (around s head) n (length gone + 1) 0 h.2)))
      (released_calls (length c.results + o.types) both s)

  stmts_calls : (c : Context) (o : Offers) (m : ℕ) (w : Around) (vs : Scope) (ss : Stmts ℕ) (s : Variables) (ends : Ends) (n exit again : ℕ) → BoundStmts o m w vs ss → AllCall (length c.results + o.types) (spec.stmts_code c ss s ends n exit again)
  stmts_calls c o m w vs NoStmts s ends n exit again h = tt
  stmts_calls c o m w vs (MoreStmts st rest) s ends n exit again h =
      let after = spec.stmts_code c rest s ends n exit again in
      calls_append (length c.results + o.types) (spec.stmt_code c st (live_all rest s ends) ends n (length after + exit) (length after + again)) after
      (stmt_calls c o m w vs st (live_all rest s ends) ends n (length after + exit) (length after + again) h.0) (stmts_calls c o m w (behind vs st) rest s ends n exit again h.1)

-- ---- routines

placed_calls : (n at : ℕ) (xs : List steps.Step) → AllCall n xs → All (λ i. All (λ f. f < n) (routines_in i)) (placed at xs)
placed_calls n at [] a = All-nil (λ i. All (λ f. f < n) (routines_in i))
placed_calls n at (Does i ∷ xs) a = All-cons (λ i. All (λ f. f < n) (routines_in i)) i (placed (suc at) xs) (below_all n (routines_in i) a.0) (placed_calls n (suc at) xs a.1)
placed_calls n at (GoesOn k ∷ xs) a = All-cons (λ i. All (λ f. f < n) (routines_in i)) (instr.Jump (suc at + k)) (placed (suc at) xs) (All-nil (λ f. f < n)) (placed_calls n (suc at) xs a)
placed_calls n at (GoesBack k ∷ xs) a = All-cons (λ i. All (λ f. f < n) (routines_in i)) (instr.Jump (at - k)) (placed (suc at) xs) (All-nil (λ f. f < n)) (placed_calls n (suc at) xs a)
placed_calls n at (GoesOnUnless r k ∷ xs) a = All-cons (λ i. All (λ f. f < n) (routines_in i)) (instr.Branch r (suc at + k)) (placed (suc at) xs) (All-nil (λ f. f < n)) (placed_calls n (suc at) xs a)

body_calls : (c : Context) (o : Offers) (r : tree.Routine ℕ) → BoundRoutine o r → CallsBelow (length c.results + o.types) (programs.body_routine c r)
body_calls c o r h =
    let n = length r.variables in let t = length c.results + o.types in
    placed_calls t 0 (programs.body_steps c r) (calls_append t (clear (programs.unused_params (live_all r.body [] nothing) r.params)) _ (clear_calls t (programs.unused_params (live_all r.body [] nothing) r.params))
    (calls_append t (spec.stmts_code c r.body [] nothing n 0 0) _ (stmts_calls c o n _ _ r.body [] nothing n 0 0 h.body) (tt, (tt, tt))))

clauses_calls : (c : Context) (o : Offers) (m : ℕ) (vs : Scope) (es : List (Expr ℕ)) (s : Variables) (r : ℕ) → BoundClauses o m vs es → AllCall (length c.results + o.types) (programs.clauses_steps c es s r)
clauses_calls c o m vs [] s r h = tt
clauses_calls c o m vs (e ∷ es) s r h =
    calls_append (length c.results + o.types) (code c e s r) _ (code_calls c o m vs e s r h.0) (fork_calls (length c.results + o.types) r (programs.clauses_steps c es s r) [] (clauses_calls c o m vs es s r h.1) tt)

taken_calls : (t : ℕ) (x : ℕ) → AllCall t (programs.taken x)
taken_calls t zero = tt
taken_calls t (suc x) = (tt, tt)

type_calls : (c : Context) (o : Offers) (a : tree.Alias ℕ) → BoundAlias o a → CallsBelow (length c.results + o.types) (programs.type_routine c a)
type_calls c o a h =
    let x = programs.variable_of a.variable in let n = max 1 (length a.variables) in let t = length c.results + o.types in
    placed_calls t 0 (programs.type_steps_at c a x n) (calls_append t (programs.taken x) _ (taken_calls t x) (calls_append t (types.test c a.ty x n (suc n)) _ (test_calls c o.types a.ty x n (suc n) h.ty)
    (calls_append t (fork n (programs.clauses_steps c a.clauses (with [] x) n) []) _ (fork_calls t n (programs.clauses_steps c a.clauses (with [] x) n) [] (clauses_calls c o (length a.variables) _ a.clauses (with [] x) n h.clauses) tt)
    (calls_append t (dropped x (suc n)) (Does (instr.Return n) ∷ []) (dropped_calls t x (suc n)) (tt, tt)))))

bodies_call : (c : Context) (o : Offers) (ds : Core ℕ) → BoundDecls o ds → All (CallsBelow (length c.results + o.types)) (programs.body_routines c (routines_of ds))
bodies_call c o [] h = All-nil (CallsBelow (length c.results + o.types))
bodies_call c o (AliasDecl a ∷ ds) h = bodies_call c o ds h.1
bodies_call c o (RoutineDecl r ∷ ds) h = All-cons (CallsBelow (length c.results + o.types)) (programs.body_routine c r) (programs.body_routines c (routines_of ds)) (body_calls c o r h.0) (bodies_call c o ds h.1)

types_call : (c : Context) (o : Offers) (ds : Core ℕ) → BoundDecls o ds → All (CallsBelow (length c.results + o.types)) (programs.type_routines c (aliases_of ds))
types_call c o [] h = All-nil (CallsBelow (length c.results + o.types))
types_call c o (AliasDecl a ∷ ds) h = All-cons (CallsBelow (length c.results + o.types)) (programs.type_routine c a) (programs.type_routines c (aliases_of ds)) (type_calls c o a h.0) (types_call c o ds h.1)
types_call c o (RoutineDecl r ∷ ds) h = types_call c o ds h.1

-- as many routines as functions, methods and declared types
bodies_length : (c : Context) (rs : List (tree.Routine ℕ)) → length (programs.body_routines c rs) ≡ length (results_of rs)
bodies_length c [] = refl
bodies_length c (r ∷ rs) = ap suc (bodies_length c rs)

types_length : (c : Context) (more : List (tree.Alias ℕ)) → length (programs.type_routines c more) ≡ length more
types_length c [] = refl
types_length c (a ∷ more) = ap suc (types_length c more)

pub all_call : (core : Core ℕ) → Bound core → All (CallsBelow (length (programs.code_of core).routines)) (programs.code_of core).routines
all_call core h =
    let c = context_of core in let o = offers_of core in
    let many : length c.results + o.types ≡ length (programs.code_of core).routines =
    omega (arith, bodies_length c (routines_of core), types_length c (aliases_of core), length-append (programs.body_routines c (routines_of core)) (programs.type_routines c (aliases_of core))) in
    subst (λ (n : ℕ). All (CallsBelow n) (programs.code_of core).routines) many
    (All-append (CallsBelow (length c.results + o.types)) (programs.body_routines c (routines_of core)) (programs.type_routines c (aliases_of core)) (bodies_call c o core h) (types_call c o core h))
