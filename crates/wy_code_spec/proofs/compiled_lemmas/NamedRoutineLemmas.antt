-- Each routine names shapes and names of fields that stand in the table of the program.
use Rattle.std.proofs.Common.{◌<◌, ◌+◌, ℕ, zero, suc, max, List, [], ◌∷◌, ◌++◌, length, Bool, true, false, ◌&&◌, cond, Option, Some, None}
use Rattle.std.specs.List.{All}
use Rattle.std.proofs.lemmas.List.Elements.{All-nil, All-cons, All-append}
use Rattle.wy_lemmas.proofs.Lists.{AreAllBelow as Below, below_all}
use Rattle.wy_value.specs.declared.shapes.Shapes.{Shapes}
use Rattle.wy_core.specs.CoreTree as tree
use Rattle.wy_core.specs.CoreTree.{Expr, Exprs, Step, IndexStep, FieldStep, Stmt, DeclareStmt, AssignStmt, CallStmt, ReturnStmt, AssertStmt, BreakStmt, ContinueStmt, SkipStmt, FailStmt, IfStmt, WhileStmt, Stmts, NoStmts, MoreStmts, Decl, AliasDecl, RoutineDecl, Core, aliases_of, routines_of}
use Rattle.wy_live.specs.Sets.{Variables, has, with, without}
use Rattle.wy_live.specs.Walks.{before, before_steps, live_all, head_live, around, nothing}
use Rattle.wy_live.specs.declared.walk.Ends.{Ends}
use Rattle.wy_code.specs.declared.instructions.Instr.{Instr}
use Rattle.wy_code.specs.declared.instructions.Instr.TheVariants as instr
use Rattle.wy_code.specs.declared.pieces.steps.Step as steps
use Rattle.wy_code.specs.declared.pieces.steps.Step.TheVariants.{Does, GoesOn, GoesBack, GoesOnUnless}
use Rattle.wy_code.specs.pieces.Steps.{clear, dropped, fork, over, turns}
use Rattle.wy_code.specs.pieces.Placing.{placed, routine_of}
use Rattle.wy_code_spec.specs.declared.tables.context.Context.{Context}
use Rattle.wy_code_spec.specs.declared.tables.targets.Target.{Target}
use Rattle.wy_code_spec.specs.declared.tables.targets.Target.TheVariants.{Declared, Prints, PrintsInt, Nothing}
use Rattle.wy_code_spec.specs.tables.Tables.{target, context_of}
use Rattle.wy_code_spec.specs.compiled.TypeTests as types
use Rattle.wy_code_spec.specs.compiled.Operands.{read, unless_read}
use Rattle.wy_code_spec.specs.compiled.Expressions.{released, release_unless, is_plain, count_of, code, codes}
use Rattle.wy_code_spec.specs.compiled.Straight.{is_straight, into}
use Rattle.wy_code_spec.specs.compiled.Statements as spec
use Rattle.wy_code_spec.specs.compiled.Programs as programs
use Rattle.wy_code_spec.specs.compiled.Ranges.{shapes_in, fields_in, slot_fields, IsNamed}
use Rattle.wy_code_spec.proofs.compiled_lemmas.TableLemmas.{StandsTy, StandsExpr, StandExprs, StandsOption, StandsPath, StandsStmt, StandStmts, StandDecls, number_within, core_stands}
use Rattle.wy_code_spec.proofs.compiled_lemmas.NamedLemmas.{AllName, names_append, clear_names, dropped_names, fork_names, turns_names, released_names, unless_names, operand_names, test_names, code_names, codes_names, into_names}

-- ---- statements

store_names : (t : Shapes) (x : ℕ) (s : Variables) (r : ℕ) (plain : Bool) → AllName t (spec.store x s r plain)
store_names t x s r plain = both (has s x)
  where
    both : (h : Bool) → AllName t (cond h (Does (instr.Move x r) ∷ []) (release_unless plain r))
    both true = ((tt, tt), tt)
    both false = unless_names t plain r

set_names : (c : Context) (x : ℕ) (e : Expr ℕ) (s : Variables) (n : ℕ) → StandsExpr c.table e → AllName c.table (spec.set c x e s n)
set_names c x e s n h = both (has s x && is_straight e (without s x))
  where
    both : (k : Bool) → AllName c.table (cond k (into c e (without s x) n x) (code c e (without s x) n ++ spec.store x s n (is_plain e)))
    both true = into_names c e (without s x) n x h
    both false = names_append c.table (code c e (without s x) n) (spec.store x s n (is_plain e)) (code_names c e (without s x) n h) (store_names c.table x s n (is_plain e))

declare_names : (c : Context) (x : ℕ) (value : Option (Expr ℕ)) (s : Variables) (n : ℕ) → StandsOption c.table value → AllName c.table (spec.declare c x value s n)
declare_names c x None s n h = tt
declare_names c x (Some e) s n h = set_names c x e s n h

indices_names : (c : Context) (path : List (Step ℕ)) (b s : Variables) (r : ℕ) → StandsPath c.table path → AllName c.table (spec.indices c path b s r)
indices_names c [] b s r h = tt
indices_names c (IndexStep at e ∷ path) b s r h =
    let one = code c e (before_steps path b) r in
    names_append c.table (unless_read (read e s) one) (spec.indices c path b s (suc r)) (operand_names c.table (read e s) one (code_names c e (before_steps path b) r h.0)) (indices_names c path b s (suc r) h.1)
indices_names c (FieldStep at name ∷ path) b s r h = indices_names c path b s r h.1

slots_below : (c : Context) (path : List (Step ℕ)) (s : Variables) (r : ℕ) → StandsPath c.table path → Below (length c.table.names) (slot_fields (spec.slots c path s r))
slots_below c [] s r h = tt
slots_below c (IndexStep at e ∷ path) s r h = slots_below c path s (suc r) h.1
slots_below c (FieldStep at name ∷ path) s r h = (number_within name c.table.names h.0, slots_below c path s r h.1)

kept_names : (t : Shapes) (x : ℕ) (s : Variables) → AllName t (spec.kept x s)
kept_names t x s = both (has s x)
  where
    both : (h : Bool) → AllName t (cond h [] (clear (x ∷ [])))
    both true = tt
    both false = ((tt, tt), tt)

update_names : (c : Context) (x : ℕ) (path : List (Step ℕ)) (e : Expr ℕ) (s : Variables) (n : ℕ) → StandsPath c.table path → StandsExpr c.table e → AllName c.table (spec.update c x path e s n)
update_names c x path e s n h k =
    names_append c.table (spec.indices c path (before e (with s x)) s n) _ (indices_names c path (before e (with s x)) s n h)
    (names_append c.table (code c e (with s x) (n + spec.index_count path)) _ (code_names c e (with s x) (n + spec.index_count path) k) ((tt, slots_below c path s n h), kept_names c.table x s))

assign_names : (c : Context) (x : ℕ) (path : List (Step ℕ)) (e : Expr ℕ) (s : Variables) (n : ℕ) → StandsPath c.table path → StandsExpr c.table e → AllName c.table (spec.assign c x path e s n)
assign_names c x [] e s n h k = set_names c x e s n k
assign_names c x (step ∷ path) e s n h k = update_names c x (step ∷ path) e s n h k

where_names : (t : Shapes) (some : Bool) (r : ℕ) → AllName t (spec.release_where some r)
where_names t true r = ((tt, tt), tt)
where_names t false r = tt

call_step_names : (t : Shapes) (to : Target) (f n count : ℕ) → AllName t (spec.call_step to f n count)
call_step_names t (Declared gives) f n count = ((tt, tt), where_names t gives n)
call_step_names t Prints f n count = ((tt, tt), ((tt, tt), tt))
call_step_names t PrintsInt f n count = ((tt, tt), tt)
call_step_names t Nothing f n count = tt

give_names : (c : Context) (value : Option (Expr ℕ)) (n : ℕ) → StandsOption c.table value → AllName c.table (spec.give c value n)
give_names c None n h = ((tt, tt), ((tt, tt), tt))
give_names c (Some e) n h = names_append c.table (code c e [] n) _ (code_names c e [] n h) ((tt, tt), tt)

branches_names : (t : Shapes) (r : ℕ) (plain : Bool) (first second : List steps.Step) → AllName t first → AllName t second → AllName t (spec.branches r plain first second)
branches_names t r true [] [] a b = tt
branches_names t r false [] [] a b = ((tt, tt), tt)
branches_names t r plain (s ∷ first) [] a b = fork_names t r (s ∷ first) [] a b
branches_names t r plain first (s ∷ second) a b = fork_names t r first (s ∷ second) a b

mutual
  stmt_names : (c : Context) (st : Stmt ℕ) (s : Variables) (ends : Ends) (n exit again : ℕ) → StandsStmt c.table st → AllName c.table (spec.stmt_code c st s ends n exit again)
  stmt_names c (DeclareStmt at ty x value) s ends n exit again h = declare_names c x value s n h
  stmt_names c (AssignStmt at x path e) s ends n exit again h = assign_names c x path e s n h.0 h.1
  stmt_names c (CallStmt at f args) s ends n exit again h = names_append c.table (codes c args s n) _ (codes_names c args s n h) (call_step_names c.table (target c.results f) f n (count_of args))
  stmt_names c (ReturnStmt at value) s ends n exit again h = give_names c value n h
  stmt_names c (AssertStmt at e) s ends n exit again h = tt
  stmt_names c (BreakStmt at) s ends n exit again h = tt
  stmt_names c (ContinueStmt at) s ends n exit again h = tt
  stmt_names c (SkipStmt at) s ends n exit again h = tt
  stmt_names c (FailStmt at) s ends n exit again h = ((tt, tt), ((tt, tt), tt))
  stmt_names c (IfStmt at e first second) s ends n exit again h =
      let both = spec.choice first second s ends in
      let two = released both (live_all second s ends) ++ spec.stmts_code c second s ends n exit again in
      let one = released both (live_all first s ends) ++ spec.stmts_code c first s ends n (over two + exit) (over two + again) in
      names_append c.table (code c e both n) (spec.branches n (is_plain e) one two) (code_names c e both n h.0)
      (branches_names c.table n (is_plain e) one two
      (names_append c.table (released both (live_all first s ends)) _ (released_names c.table both (live_all first s ends)) (stmts_names c first s ends n (over two + exit) (over two + again) h.1.0))
      (names_append c.table (released both (live_all second s ends)) _ (released_names c.table both (live_all second s ends)) (stmts_names c second s ends n exit again h.1.1)))
  stmt_names c (WhileStmt at e invariants body) s ends n exit again h =
      let head = head_live e body s in let both = spec.turn e body s in let gone = released both s in
      let inner = spec.stmts_code c body head (around s head) n (length gone + 1) 0 in
      names_append c.table (turns (code c e both n) n (released both (spec.inside e body s) ++ inner)) gone
      (turns_names c.table (code c e both n) n (released both (spec.inside e body s) ++ inner) (code_names c e both n h.0)
      (names_append c.table (released both (spec.inside e body s)) inner (released_names c.table both (spec.inside e body s)) (stmts_names c body head (around s head) n (length gone + 1) 0 h.1)))
      (released_names c.table both s)

  stmts_names : (c : Context) (ss : Stmts ℕ) (s : Variables) (ends : Ends) (n exit again : ℕ) → StandStmts c.table ss → AllName c.table (spec.stmts_code c ss s ends n exit again)
  stmts_names c NoStmts s ends n exit again h = tt
  stmts_names c (MoreStmts st rest) s ends n exit again h =
      let after = spec.stmts_code c rest s ends n exit again in
      names_append c.table (spec.stmt_code c st (live_all rest s ends) ends n (length after + exit) (length after + again)) after
      (stmt_names c st (live_all rest s ends) ends n (length after + exit) (length after + again) h.0) (stmts_names c rest s ends n exit again h.1)

-- ---- routines

module _ (t : Shapes) where
  abbrev HasShapes : Instr → Type 0
  HasShapes i = All (λ k. k < length t.lists) (shapes_in i)

  abbrev HasFields : Instr → Type 0
  HasFields i = All (λ f. f < length t.names) (fields_in i)

  shapes_placed : (at : ℕ) (xs : List steps.Step) → AllName t xs → All HasShapes (placed at xs)
  shapes_placed at [] a = All-nil HasShapes
  shapes_placed at (Does i ∷ xs) a = All-cons HasShapes i (placed (suc at) xs) (below_all (length t.lists) (shapes_in i) a.0.0) (shapes_placed (suc at) xs a.1)
  shapes_placed at (GoesOn n ∷ xs) a = All-cons HasShapes _ (placed (suc at) xs) (All-nil (λ k. k < length t.lists)) (shapes_placed (suc at) xs a)
  shapes_placed at (GoesBack n ∷ xs) a = All-cons HasShapes _ (placed (suc at) xs) (All-nil (λ k. k < length t.lists)) (shapes_placed (suc at) xs a)
  shapes_placed at (GoesOnUnless r n ∷ xs) a = All-cons HasShapes _ (placed (suc at) xs) (All-nil (λ k. k < length t.lists)) (shapes_placed (suc at) xs a)

  fields_placed : (at : ℕ) (xs : List steps.Step) → AllName t xs → All HasFields (placed at xs)
  fields_placed at [] a = All-nil HasFields
  fields_placed at (Does i ∷ xs) a = All-cons HasFields i (placed (suc at) xs) (below_all (length t.names) (fields_in i) a.0.1) (fields_placed (suc at) xs a.1)
  fields_placed at (GoesOn n ∷ xs) a = All-cons HasFields _ (placed (suc at) xs) (All-nil (λ f. f < length t.names)) (fields_placed (suc at) xs a)
  fields_placed at (GoesBack n ∷ xs) a = All-cons HasFields _ (placed (suc at) xs) (All-nil (λ f. f < length t.names)) (fields_placed (suc at) xs a)
  fields_placed at (GoesOnUnless r n ∷ xs) a = All-cons HasFields _ (placed (suc at) xs) (All-nil (λ f. f < length t.names)) (fields_placed (suc at) xs a)

named : (t : Shapes) (params : ℕ) (xs : List steps.Step) → AllName t xs → IsNamed t (routine_of params xs)
named t params xs a = record { shapes = shapes_placed t 0 xs a; fields = fields_placed t 0 xs a }

body_named : (c : Context) (r : tree.Routine ℕ) → StandStmts c.table r.body → IsNamed c.table (programs.body_routine c r)
body_named c r h =
    let n = length r.variables in
    named c.table (length r.params) (programs.body_steps c r) (names_append c.table (clear (programs.unused_params (live_all r.body [] nothing) r.params)) _ (clear_names c.table (programs.unused_params (live_all r.body [] nothing) r.params))
    (names_append c.table (spec.stmts_code c r.body [] nothing n 0 0) _ (stmts_names c r.body [] nothing n 0 0 h) ((tt, tt), ((tt, tt), tt))))

clauses_names : (c : Context) (es : List (Expr ℕ)) (s : Variables) (r : ℕ) → StandExprs c.table (tree.exprs_of es) → AllName c.table (programs.clauses_steps c es s r)
clauses_names c [] s r h = tt
clauses_names c (e ∷ es) s r h = names_append c.table (code c e s r) _ (code_names c e s r h.0) (fork_names c.table r (programs.clauses_steps c es s r) [] (clauses_names c es s r h.1) tt)

taken_names : (t : Shapes) (x : ℕ) → AllName t (programs.taken x)
taken_names t zero = tt
taken_names t (suc x) = ((tt, tt), tt)

type_named : (c : Context) (a : tree.Alias ℕ) → StandsTy c.table a.ty → StandExprs c.table (tree.exprs_of a.clauses) → IsNamed c.table (programs.type_routine c a)
type_named c a h k =
    let x = programs.variable_of a.variable in let n = max 1 (length a.variables) in
    named c.table 1 (programs.type_steps_at c a x n) (names_append c.table (programs.taken x) _ (taken_names c.table x) (names_append c.table (types.test c a.ty x n (suc n)) _ (test_names c a.ty x n (suc n) h)
    (names_append c.table (fork n (programs.clauses_steps c a.clauses (with [] x) n) []) _ (fork_names c.table n (programs.clauses_steps c a.clauses (with [] x) n) [] (clauses_names c a.clauses (with [] x) n k) tt)
    (names_append c.table (dropped x (suc n)) (Does (instr.Return n) ∷ []) (dropped_names c.table x (suc n)) ((tt, tt), tt)))))

bodies_named : (c : Context) (ds : Core ℕ) → StandDecls c.table ds → All (IsNamed c.table) (programs.body_routines c (routines_of ds))
bodies_named c [] h = All-nil (IsNamed c.table)
bodies_named c (AliasDecl a ∷ ds) h = bodies_named c ds h.1
bodies_named c (RoutineDecl r ∷ ds) h = All-cons (IsNamed c.table) (programs.body_routine c r) (programs.body_routines c (routines_of ds)) (body_named c r h.0) (bodies_named c ds h.1)

types_named : (c : Context) (ds : Core ℕ) → StandDecls c.table ds → All (IsNamed c.table) (programs.type_routines c (aliases_of ds))
types_named c [] h = All-nil (IsNamed c.table)
types_named c (AliasDecl a ∷ ds) h = All-cons (IsNamed c.table) (programs.type_routine c a) (programs.type_routines c (aliases_of ds)) (type_named c a h.0.0 h.0.1) (types_named c ds h.1)
types_named c (RoutineDecl r ∷ ds) h = types_named c ds h.1

pub all_named : (core : Core ℕ) → All (IsNamed (programs.code_of core).shapes) (programs.code_of core).routines
all_named core =
    let c = context_of core in
    All-append (IsNamed c.table) (programs.body_routines c (routines_of core)) (programs.type_routines c (aliases_of core)) (bodies_named c core (core_stands core)) (types_named c core (core_stands core))
