-- A statement has few steps for each of its ticks.
use Rattle.std.proofs.Common.{◌≤◌, ◌+◌, ◌*◌, ℕ, suc, Bool, true, false, ◌&&◌, List, [], ◌∷◌, ◌++◌, length, Option, Some, None, arith, length-append}
use Rattle.wy_core.specs.CoreTree as tree
use Rattle.wy_core.specs.CoreTree.{Expr, Exprs, IndexStep, FieldStep, Stmt, DeclareStmt, AssignStmt, CallStmt, ReturnStmt, AssertStmt, BreakStmt, ContinueStmt, SkipStmt, FailStmt, IfStmt, WhileStmt, Stmts, NoStmts, MoreStmts}
use Rattle.wy_live.specs.Sets.{Variables, has, with, without}
use Rattle.wy_live.specs.Walks.{before, before_steps, live_all, head_live, around}
use Rattle.wy_live.specs.declared.walk.Ends.{Ends}
use Rattle.wy_code.specs.declared.instructions.Instr.TheVariants as instr
use Rattle.wy_code_spec.specs.declared.tables.context.Context.{Context}
use Rattle.wy_code_spec.specs.declared.tables.targets.Target.{Target}
use Rattle.wy_code_spec.specs.declared.tables.targets.Target.TheVariants.{Declared, Prints, PrintsInt, Nothing}
use Rattle.wy_code_spec.specs.tables.Tables.{target}
use Rattle.wy_code.specs.declared.pieces.steps.Step.{Step}
use Rattle.wy_code.specs.declared.pieces.steps.Step.TheVariants.{Does}
use Rattle.wy_code.specs.pieces.Steps.{clear, turns}
use Rattle.wy_code_spec.specs.compiled.Operands.{read, unless_read}
use Rattle.wy_code_spec.specs.compiled.Expressions.{released, is_plain, release_unless, count_of, code, codes}
use Rattle.wy_code_spec.specs.compiled.Straight.{is_straight, into}
use Rattle.wy_code_spec.specs.compiled.Statements.{store, set, declare, slots, index_count, indices, kept, update, assign, release_where, call_step, call, give, choice, branches, inside, turn, stmt_code, stmts_code}
use Rattle.wy_code_spec.proofs.compiled_lemmas.StraightLemmas.{into_length}
use Rattle.wy_code_spec.specs.ints.Ticks.{ticks, all_ticks, option_ticks, path_ticks, stmt_ticks, stmts_ticks}
use Rattle.wy_code_spec.proofs.ints_lemmas.PieceLemmas.{clear_small, cond_small, fork_small, turns_small}
use Rattle.wy_code_spec.proofs.ints_lemmas.ExpressionLemmas.{released_small, release_small, operand_small, expr_small, codes_small}

store_small : (x : ℕ) (s : Variables) (r : ℕ) (plain : Bool) → length (store x s r plain) ≤ 1
store_small x s r plain = cond_small (has s x) (Does (instr.Move x r) ∷ []) (release_unless plain r) 1 (omega arith) (release_small plain r)

set_small : (c : Context) (x : ℕ) (e : Expr ℕ) (s : Variables) (n : ℕ) → length (set c x e s n) ≤ 16 * suc (ticks e)
set_small c x e s n =
    let straight = into c e (without s x) n x in let stored = code c e (without s x) n ++ store x s n (is_plain e) in
    let h : length (code c e (without s x) n) + 2 ≤ 16 * ticks e = expr_small c e (without s x) n in let k : length (store x s n (is_plain e)) ≤ 1 = store_small x s n (is_plain e) in
    cond_small (has s x && is_straight e (without s x)) straight stored (16 * suc (ticks e)) (omega (arith, into_length c e (without s x) n x)) (omega (arith, length-append (code c e (without s x) n) (store x s n (is_plain e))))

declare_small : (c : Context) (x : ℕ) (value : Option (Expr ℕ)) (s : Variables) (n : ℕ) → length (declare c x value s n) ≤ 16 * suc (option_ticks value)
declare_small c x None s n = omega arith
declare_small c x (Some e) s n = set_small c x e s n

indices_small : (c : Context) (path : List (tree.Step ℕ)) (b s : Variables) (r : ℕ) → length (indices c path b s r) ≤ 16 * path_ticks path
indices_small c [] b s r = omega arith
indices_small c (IndexStep at e ∷ path) b s r =
    let one = unless_read (read e s) (code c e (before_steps path b) r) in
    let h : length one + 2 ≤ 16 * ticks e = operand_small (read e s) (code c e (before_steps path b) r) (16 * ticks e) (expr_small c e (before_steps path b) r) in
    let k : length (indices c path b s (suc r)) ≤ 16 * path_ticks path = indices_small c path b s (suc r) in
    omega (arith, length-append one (indices c path b s (suc r)))
indices_small c (FieldStep at name ∷ path) b s r = indices_small c path b s r

kept_small : (x : ℕ) (s : Variables) → length (kept x s) ≤ 1
kept_small x s = cond_small (has s x) [] (clear (x ∷ [])) 1 (omega arith) (clear_small (x ∷ []))

update_sum : (xs ys zs : List Step) (i : Step) (t u : ℕ) → length xs ≤ 16 * t → length ys + 2 ≤ 16 * u → length zs ≤ 1 → length (xs ++ (ys ++ i ∷ zs)) ≤ 16 * suc (t + u)
update_sum xs ys zs i t u h k l = omega (arith, length-append xs (ys ++ i ∷ zs), length-append ys (i ∷ zs))

update_small : (c : Context) (x : ℕ) (path : List (tree.Step ℕ)) (e : Expr ℕ) (s : Variables) (n : ℕ) → length (update c x path e s n) ≤ 16 * suc (path_ticks path + ticks e)
update_small c x path e s n =
    update_sum (indices c path (before e (with s x)) s n) (code c e (with s x) (n + index_count path)) (kept x s) (Does (instr.Put x (slots c path s n) (n + index_count path))) (path_ticks path) (ticks e)
    (indices_small c path (before e (with s x)) s n) (expr_small c e (with s x) (n + index_count path)) (kept_small x s)

assign_small : (c : Context) (x : ℕ) (path : List (tree.Step ℕ)) (e : Expr ℕ) (s : Variables) (n : ℕ) → length (assign c x path e s n) ≤ 16 * suc (path_ticks path + ticks e)
assign_small c x [] e s n = let h : length (set c x e s n) ≤ 16 * suc (ticks e) = set_small c x e s n in omega arith
assign_small c x (step ∷ path) e s n = update_small c x (step ∷ path) e s n

release_where_small : (some : Bool) (r : ℕ) → length (release_where some r) ≤ 1
release_where_small true r = omega arith
release_where_small false r = omega arith

call_step_small : (t : Target) (f n count : ℕ) → length (call_step t f n count) ≤ 2
call_step_small (Declared gives) f n count = let h : length (release_where gives n) ≤ 1 = release_where_small gives n in omega arith
call_step_small Prints f n count = omega arith
call_step_small PrintsInt f n count = omega arith
call_step_small Nothing f n count = omega arith

call_small : (c : Context) (f : ℕ) (args : Exprs ℕ) (s : Variables) (n : ℕ) → length (call c f args s n) ≤ 16 * suc (suc (all_ticks args))
call_small c f args s n =
    let h : length (codes c args s n) ≤ 16 * all_ticks args = codes_small c args s n in
    let k : length (call_step (target c.results f) f n (count_of args)) ≤ 2 = call_step_small (target c.results f) f n (count_of args) in
    omega (arith, length-append (codes c args s n) (call_step (target c.results f) f n (count_of args)))

give_small : (c : Context) (value : Option (Expr ℕ)) (n : ℕ) → length (give c value n) ≤ 16 * suc (option_ticks value)
give_small c None n = omega arith
give_small c (Some e) n = let h : length (code c e [] n) + 2 ≤ 16 * ticks e = expr_small c e [] n in omega (arith, length-append (code c e [] n) (Does (instr.Return n) ∷ []))

-- ---- blocks

branches_small : (r : ℕ) (plain : Bool) (first second : List Step) → length (branches r plain first second) ≤ length first + length second + 2
branches_small r true [] [] = omega arith
branches_small r false [] [] = omega arith
branches_small r plain (s ∷ first) [] = fork_small r (s ∷ first) []
branches_small r plain first (s ∷ second) = fork_small r first (s ∷ second)

if_sum : (xs one two : List Step) (r : ℕ) (plain : Bool) (gone lost : List Step) (t u v : ℕ) → length xs + 2 ≤ 16 * t → length gone ≤ 1 → length lost ≤ 1 → length one ≤ 16 * u → length two ≤ 16 * v
    → length (xs ++ branches r plain (gone ++ one) (lost ++ two)) ≤ 16 * suc (t + (u + v))
if_sum xs one two r plain gone lost t u v h g k l m =
    let f : length (branches r plain (gone ++ one) (lost ++ two)) ≤ length (gone ++ one) + length (lost ++ two) + 2 = branches_small r plain (gone ++ one) (lost ++ two) in
    omega (arith, length-append xs (branches r plain (gone ++ one) (lost ++ two)), length-append gone one, length-append lost two)

while_sum : (xs body gone lost : List Step) (r : ℕ) (t u : ℕ) → length xs + 2 ≤ 16 * t → length gone ≤ 1 → length lost ≤ 1 → length body ≤ 16 * u → length (turns xs r (gone ++ body) ++ lost) ≤ 16 * suc (suc (t + u))
while_sum xs body gone lost r t u h g k l =
    let f : length (turns xs r (gone ++ body)) ≤ length xs + length (gone ++ body) + 2 = turns_small xs (gone ++ body) r in
    omega (arith, length-append (turns xs r (gone ++ body)) lost, length-append gone body)

row_sum : (xs ys : List Step) (t u : ℕ) → length xs ≤ 16 * t → length ys ≤ 16 * u → length (xs ++ ys) ≤ 16 * (t + u)
row_sum xs ys t u h k = omega (arith, length-append xs ys)

mutual
  pub stmt_small : (c : Context) (st : Stmt ℕ) (s : Variables) (ends : Ends) (n exit again : ℕ) → length (stmt_code c st s ends n exit again) ≤ 16 * stmt_ticks st
  stmt_small c (DeclareStmt at ty x value) s ends n exit again = declare_small c x value s n
  stmt_small c (AssignStmt at x path e) s ends n exit again = assign_small c x path e s n
  stmt_small c (CallStmt at f args) s ends n exit again = call_small c f args s n
  stmt_small c (ReturnStmt at value) s ends n exit again = give_small c value n
  stmt_small c (AssertStmt at e) s ends n exit again = omega arith
  stmt_small c (BreakStmt at) s ends n exit again = omega arith
  stmt_small c (ContinueStmt at) s ends n exit again = omega arith
  stmt_small c (SkipStmt at) s ends n exit again = omega arith
  stmt_small c (FailStmt at) s ends n exit again = omega arith
  stmt_small c (IfStmt at e first second) s ends n exit again =
      let both = choice first second s ends in
      if_sum (code c e both n) _ _ n (is_plain e) _ _ (ticks e) (stmts_ticks first) (stmts_ticks second) (expr_small c e both n)
      (released_small both (live_all first s ends)) (released_small both (live_all second s ends))
      (stmts_small c first s ends n _ _) (stmts_small c second s ends n exit again)
  stmt_small c (WhileStmt at e invariants body) s ends n exit again =
      let head = head_live e body s in let both = turn e body s in
      while_sum (code c e both n) _ _ _ n (ticks e) (stmts_ticks body) (expr_small c e both n) (released_small both (inside e body s)) (released_small both s)
      (stmts_small c body head (around s head) n (length (released both s) + 1) 0)

  pub stmts_small : (c : Context) (ss : Stmts ℕ) (s : Variables) (ends : Ends) (n exit again : ℕ) → length (stmts_code c ss s ends n exit again) ≤ 16 * stmts_ticks ss
  stmts_small c NoStmts s ends n exit again = omega arith
  stmts_small c (MoreStmts st rest) s ends n exit again =
      let after = stmts_code c rest s ends n exit again in
      row_sum (stmt_code c st (live_all rest s ends) ends n (length after + exit) (length after + again)) after (stmt_ticks st) (stmts_ticks rest)
      (stmt_small c st (live_all rest s ends) ends n (length after + exit) (length after + again)) (stmts_small c rest s ends n exit again)
