-- The jumps in the code of statements stay within it, the loop around and what stands behind.
use Rattle.std.proofs.Common.{◌≤◌, ◌+◌, ℕ, suc, List, [], ◌∷◌, ◌++◌, length, Bool, true, false, ◌&&◌, cond, Option, Some, None, refl, arith}
use Rattle.wy_core.specs.CoreTree.{Expr, Step, IndexStep, FieldStep, Stmt, DeclareStmt, AssignStmt, CallStmt, ReturnStmt, AssertStmt, BreakStmt, ContinueStmt, SkipStmt, FailStmt, IfStmt, WhileStmt, Stmts, NoStmts, MoreStmts}
use Rattle.wy_live.specs.Sets.{Variables, has, with, without}
use Rattle.wy_live.specs.Walks.{before, before_steps, live_all, head_live, around}
use Rattle.wy_live.specs.declared.walk.Ends.{Ends}
use Rattle.wy_code.specs.declared.instructions.Instr.TheVariants as instr
use Rattle.wy_code.specs.declared.pieces.steps.Step as steps
use Rattle.wy_code.specs.declared.pieces.steps.Step.TheVariants.{Does}
use Rattle.wy_code.specs.pieces.Steps.{clear, over, turns}
use Rattle.wy_code_spec.specs.declared.tables.context.Context.{Context}
use Rattle.wy_code_spec.specs.declared.tables.targets.Target.{Target}
use Rattle.wy_code_spec.specs.declared.tables.targets.Target.TheVariants.{Declared, Prints, PrintsInt, Nothing}
use Rattle.wy_code_spec.specs.tables.Tables.{target}
use Rattle.wy_code_spec.specs.compiled.Operands.{read, unless_read}
use Rattle.wy_code_spec.specs.compiled.Expressions.{released, release_unless, is_plain, count_of, code, codes}
use Rattle.wy_code_spec.specs.compiled.Straight.{is_straight, into}
use Rattle.wy_code_spec.specs.compiled.Statements as spec
use Rattle.wy_code_spec.proofs.compiled_lemmas.WithinLemmas.{Within, within_append, fork_within, turns_within}
use Rattle.wy_code_spec.proofs.compiled_lemmas.JumpLemmas.{code_within, codes_within, into_within, released_within, unless_within, operand_within}

store_within : (x : ℕ) (s : Variables) (r : ℕ) (plain : Bool) (b : ℕ) → Within b (spec.store x s r plain)
store_within x s r plain b = both (has s x)
  where
    both : (h : Bool) → Within b (cond h (Does (instr.Move x r) ∷ []) (release_unless plain r))
    both true = (refl, tt)
    both false = unless_within plain r b

set_within : (c : Context) (x : ℕ) (e : Expr ℕ) (s : Variables) (n b : ℕ) → Within b (spec.set c x e s n)
set_within c x e s n b = both (has s x && is_straight e (without s x))
  where
    both : (h : Bool) → Within b (cond h (into c e (without s x) n x) (code c e (without s x) n ++ spec.store x s n (is_plain e)))
    both true = into_within c e (without s x) n x b
    both false = within_append b (code c e (without s x) n) (spec.store x s n (is_plain e)) (code_within c e (without s x) n _) (store_within x s n (is_plain e) b)

declare_within : (c : Context) (x : ℕ) (value : Option (Expr ℕ)) (s : Variables) (n b : ℕ) → Within b (spec.declare c x value s n)
declare_within c x None s n b = tt
declare_within c x (Some e) s n b = set_within c x e s n b

indices_within : (c : Context) (path : List (Step ℕ)) (u s : Variables) (r b : ℕ) → Within b (spec.indices c path u s r)
indices_within c [] u s r b = tt
indices_within c (IndexStep at e ∷ path) u s r b =
    let one = code c e (before_steps path u) r in
    within_append b (unless_read (read e s) one) (spec.indices c path u s (suc r)) (operand_within _ (read e s) one (code_within c e (before_steps path u) r _)) (indices_within c path u s (suc r) b)
indices_within c (FieldStep at name ∷ path) u s r b = indices_within c path u s r b

kept_within : (x : ℕ) (s : Variables) (b : ℕ) → Within b (spec.kept x s)
kept_within x s b = both (has s x)
  where
    both : (h : Bool) → Within b (cond h [] (clear (x ∷ [])))
    both true = tt
    both false = (refl, tt)

update_within : (c : Context) (x : ℕ) (path : List (Step ℕ)) (e : Expr ℕ) (s : Variables) (n b : ℕ) → Within b (spec.update c x path e s n)
update_within c x path e s n b =
    within_append b (spec.indices c path (before e (with s x)) s n) _ (indices_within c path (before e (with s x)) s n _)
    (within_append b (code c e (with s x) (n + spec.index_count path)) _ (code_within c e (with s x) (n + spec.index_count path) _) (refl, kept_within x s b))

assign_within : (c : Context) (x : ℕ) (path : List (Step ℕ)) (e : Expr ℕ) (s : Variables) (n b : ℕ) → Within b (spec.assign c x path e s n)
assign_within c x [] e s n b = set_within c x e s n b
assign_within c x (step ∷ path) e s n b = update_within c x (step ∷ path) e s n b

where_within : (some : Bool) (r b : ℕ) → Within b (spec.release_where some r)
where_within true r b = (refl, tt)
where_within false r b = tt

call_step_within : (t : Target) (f n count b : ℕ) → Within b (spec.call_step t f n count)
call_step_within (Declared gives) f n count b = (refl, where_within gives n b)
call_step_within Prints f n count b = (refl, (refl, tt))
call_step_within PrintsInt f n count b = (refl, tt)
call_step_within Nothing f n count b = tt

give_within : (c : Context) (value : Option (Expr ℕ)) (n b : ℕ) → Within b (spec.give c value n)
give_within c None n b = (refl, (refl, tt))
give_within c (Some e) n b = within_append b (code c e [] n) _ (code_within c e [] n _) (refl, tt)

branches_within : (b r : ℕ) (plain : Bool) (first second : List steps.Step) → Within (over second + b) first → Within b second → Within b (spec.branches r plain first second)
branches_within b r true [] [] w v = tt
branches_within b r false [] [] w v = (refl, tt)
branches_within b r plain (s ∷ first) [] w v = fork_within b r (s ∷ first) [] w v
branches_within b r plain first (s ∷ second) w v = fork_within b r first (s ∷ second) w v

mutual
  pub stmt_within : (c : Context) (st : Stmt ℕ) (s : Variables) (ends : Ends) (n exit again b : ℕ) → exit ≤ b → again ≤ b → Within b (spec.stmt_code c st s ends n exit again)
  stmt_within c (DeclareStmt at ty x value) s ends n exit again b h k = declare_within c x value s n b
  stmt_within c (AssignStmt at x path e) s ends n exit again b h k = assign_within c x path e s n b
  stmt_within c (CallStmt at f args) s ends n exit again b h k = within_append b (codes c args s n) _ (codes_within c args s n _) (call_step_within (target c.results f) f n (count_of args) b)
  stmt_within c (ReturnStmt at value) s ends n exit again b h k = give_within c value n b
  stmt_within c (AssertStmt at e) s ends n exit again b h k = tt
  stmt_within c (BreakStmt at) s ends n exit again b h k = (omega arith, tt)
  stmt_within c (ContinueStmt at) s ends n exit again b h k = (omega arith, tt)
  stmt_within c (SkipStmt at) s ends n exit again b h k = tt
  stmt_within c (FailStmt at) s ends n exit again b h k = (refl, (refl, tt))
  stmt_within c (IfStmt at e first second) s ends n exit again b h k =
      let both = spec.choice first second s ends in
      let two = released both (live_all second s ends) ++ spec.stmts_code c second s ends n exit again in
      let one = released both (live_all first s ends) ++ spec.stmts_code c first s ends n (over two + exit) (over two + again) in
      let w : Within b two = within_append b (released both (live_all second s ends)) (spec.stmts_code c second s ends n exit again) (released_within _ both (live_all second s ends)) (stmts_within c second s ends n exit again b h k) in
      let v : Within (over two + b) one = within_append (over two + b) (released both (live_all first s ends)) (spec.stmts_code c first s ends n (over two + exit) (over two + again)) (released_within _ both (live_all first s ends))
      (stmts_within c first s ends n (over two + exit) (over two + again) (over two + b) (omega arith) (omega arith)) in
      within_append b (code c e both n) (spec.branches n (is_plain e) one two) (code_within c e both n _) (branches_within b n (is_plain e) one two v w)
  stmt_within c (WhileStmt at e invariants body) s ends n exit again b h k =
      let head = head_live e body s in let both = spec.turn e body s in let gone = released both s in
      let inner = spec.stmts_code c body head (around s head) n (length gone + 1) 0 in
      within_append b (turns (code c e both n) n (released both (spec.inside e body s) ++ inner)) gone
      (turns_within (length gone + b) (code c e both n) n (released both (spec.inside e body s) ++ inner) (code_within c e both n 0)
      (within_append (suc (length gone + b)) (released both (spec.inside e body s)) inner (released_within _ both (spec.inside e body s))
      (stmts_within c body head (around s head) n (length gone + 1) 0 (suc (length gone + b)) (omega arith) (omega arith))))
      (released_within b both s)

  pub stmts_within : (c : Context) (ss : Stmts ℕ) (s : Variables) (ends : Ends) (n exit again b : ℕ) → exit ≤ b → again ≤ b → Within b (spec.stmts_code c ss s ends n exit again)
  stmts_within c NoStmts s ends n exit again b h k = tt
  stmts_within c (MoreStmts st rest) s ends n exit again b h k =
      let after = spec.stmts_code c rest s ends n exit again in
      within_append b (spec.stmt_code c st (live_all rest s ends) ends n (length after + exit) (length after + again)) after
      (stmt_within c st (live_all rest s ends) ends n (length after + exit) (length after + again) (length after + b) (omega arith) (omega arith)) (stmts_within c rest s ends n exit again b h k)
