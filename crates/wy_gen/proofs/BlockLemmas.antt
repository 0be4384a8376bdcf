-- An `if` and a loop, whose parts are made from the end to the beginning.
use Rattle.std.proofs.Common.{◌≡◌, ◌∙◌, ◌<◌, ◌≤◌, ◌+◌, ◌-◌, ℕ, suc, List, [], ◌∷◌, ◌++◌, length, drop, get_or, rules, ap, sym, append_assoc, length-append, arith}
use Rattle.wy_core.specs.CoreTree as tree
use Rattle.wy_core.specs.CoreSeen.{seen_expr, seen_exprs, seen_block, seen_stmt}
use Rattle.wy_core.specs.declared.expressions.Expr.{Expr}
use Rattle.wy_core.specs.declared.statements.Stmt as s
use Rattle.wy_core.specs.declared.statements.Stmt.{Stmt}
use Rattle.wy_core.specs.declared.statements.StmtKind as kind
use Rattle.wy_live.specs.Sets.{Variables, joined}
use Rattle.wy_live.specs.Walks.{live, live_all, head_live, around}
use Rattle.wy_live.specs.declared.walk.Ends.{Ends}
use Rattle.wy_code.specs.declared.pieces.steps.Step.{Step}
use Rattle.wy_code.specs.declared.pieces.steps.Step.TheVariants.{GoesBack}
use Rattle.wy_code.specs.pieces.Steps.{jumped, over, turns}
use Rattle.wy_code_spec.specs.declared.tables.context.Context.{Context}
use Rattle.wy_code_spec.specs.compiled.Expressions.{code, released, is_plain}
use Rattle.wy_gen.proofs.LoopLemmas.{drop_back}
use Rattle.wy_code_spec.specs.compiled.Statements.{choice, branches, inside, turn, stmt_code, stmts_code}

pub seen_if : (x : Stmt) (e : Expr) (a b : List Stmt) → x.kind ≡ kind.If e a b → seen_stmt x ≡ tree.IfStmt x.at (seen_expr e) (seen_block a) (seen_block b)
seen_if x e a b is = search (rules, s.the_lemmas)

pub seen_while : (x : Stmt) (e : Expr) (is : List Expr) (b : List Stmt) → x.kind ≡ kind.While e is b → seen_stmt x ≡ tree.WhileStmt x.at (seen_expr e) (seen_exprs is) (seen_block b)
seen_while x e invariants b is = search (rules, s.the_lemmas)

pub jumped_length : (two old : List Step) → length (jumped two old) ≡ over two + length old
jumped_length [] old = omega arith
jumped_length (x ∷ two) old = omega (arith, length-append (x ∷ two) old)

-- the steps that stand behind the first block, and how many of them stand before the end of the loop around
behind_more : (two old : List Step) (start : List Step) (k : ℕ) → start ≡ jumped two old → k ≤ length old → length start - k ≡ over two + (length old - k)
behind_more two old start k is h = omega (arith, ap length is, jumped_length two old)

pub if_same : (c : Context) (at : ℕ) (e : tree.Expr ℕ) (first second : tree.Stmts ℕ) (s begun again_live both live1 live2 : Variables) (ends : Ends) (n exit again : ℕ) (old start : List Step)
    → again_live ≡ s → begun ≡ again_live → live2 ≡ live_all second s ends → both ≡ joined (live_all first again_live ends) live2 → live1 ≡ live_all first begun ends
    → exit ≤ length old → again ≤ length old
    → start ≡ jumped (released both live2 ++ stmts_code c second s ends n (length old - exit) (length old - again)) old
    → (code c e both n ++ branches n (is_plain e) (released both live1 ++ stmts_code c first begun ends n (length start - exit) (length start - again)) (released both live2 ++ stmts_code c second s ends n (length old - exit) (length old - again))) ++ old
    ≡ stmt_code c (tree.IfStmt at e first second) s ends n (length old - exit) (length old - again) ++ old
if_same c at e first second s begun again_live both live1 live2 ends n exit again old start again_is begun_is live2_is both_is live1_is within within_again start_is =
    let rest = stmts_code c second s ends n (length old - exit) (length old - again) in
    let s_is : begun ≡ s = begun_is ∙ again_is in
    let b : both ≡ choice first second s ends = both_is ∙ (λ i. joined (live_all first (again_is i) ends) (live2_is i)) in
    let l1 : live1 ≡ live_all first s ends = live1_is ∙ ap (λ (v : Variables). live_all first v ends) s_is in
    let two_is : released both live2 ++ rest ≡ released (choice first second s ends) (live_all second s ends) ++ rest = λ i. released (b i) (live2_is i) ++ rest in
    let start_now : start ≡ jumped (released (choice first second s ends) (live_all second s ends) ++ rest) old = start_is ∙ ap (λ (l : List Step). jumped l old) two_is in
    let x : length start - exit ≡ over (released (choice first second s ends) (live_all second s ends) ++ rest) + (length old - exit) = behind_more _ old start exit start_now within in
    let y : length start - again ≡ over (released (choice first second s ends) (live_all second s ends) ++ rest) + (length old - again) = behind_more _ old start again start_now within_again in
    λ i. (code c e (b i) n ++ branches n (is_plain e) (released (b i) (l1 i) ++ stmts_code c first (s_is i) ends n (x i) (y i)) (two_is i)) ++ old

pub while_same : (c : Context) (at : ℕ) (e : tree.Expr ℕ) (is : List (tree.Expr ℕ)) (body : tree.Stmts ℕ) (s behind begun live : Variables) (ends en : Ends) (n exit again ex ag done : ℕ) (old start : List Step)
    → behind ≡ s → begun ≡ head_live e body s → en ≡ around s (head_live e body s) → live ≡ live_all body begun en
    → ex ≡ length old → ag ≡ suc done → done ≡ length (released (turn e body s) s ++ old) → start ≡ GoesBack 0 ∷ (released (turn e body s) s ++ old)
    → turns (code c e (joined live behind) n) n (released (joined live behind) live ++ stmts_code c body begun en n (length start - ex) (length start - ag)) ++ (released (turn e body s) s ++ old)
    ≡ stmt_code c (tree.WhileStmt at e is body) s ends n exit again ++ old
while_same c at e invariants body s behind begun live ends en n exit again ex ag done old start behind_is begun_is ends_is live_is ex_is ag_is done_is start_is =
    let gone = released (turn e body s) s in
    let l : live ≡ inside e body s = live_is ∙ (λ i. live_all body (begun_is i) (ends_is i)) in
    let b : joined live behind ≡ turn e body s = λ i. joined (l i) (behind_is i) in
    let x : length start - ex ≡ length gone + 1 = omega (arith, ap length start_is, length-append gone old) in
    let y : length start - ag ≡ 0 = omega (arith, ap length start_is) in
    let same : turns (code c e (joined live behind) n) n (released (joined live behind) live ++ stmts_code c body begun en n (length start - ex) (length start - ag)) ++ (gone ++ old)
    ≡ turns (code c e (turn e body s) n) n (released (turn e body s) (inside e body s) ++ stmts_code c body (head_live e body s) (around s (head_live e body s)) n (length gone + 1) 0) ++ (gone ++ old)
    = λ i. turns (code c e (b i) n) n (released (b i) (l i) ++ stmts_code c body (begun_is i) (ends_is i) n (x i) (y i)) ++ (gone ++ old) in
    same ∙ sym (append_assoc (turns (code c e (turn e body s) n) n (released (turn e body s) (inside e body s) ++ stmts_code c body (head_live e body s) (around s (head_live e body s)) n (length gone + 1) 0)) gone old)

-- one statement more before those that are made
pub more_steps : (c : Context) (st : tree.Stmt ℕ) (rest : tree.Stmts ℕ) (s live : Variables) (ends : Ends) (n exit again : ℕ) (old made : List Step)
    → live ≡ live_all rest s ends → exit ≤ length old → again ≤ length old → made ≡ stmts_code c rest s ends n (length old - exit) (length old - again) ++ old
    → stmt_code c st live ends n (length made - exit) (length made - again) ++ made ≡ stmts_code c (tree.MoreStmts st rest) s ends n (length old - exit) (length old - again) ++ old
more_steps c st rest s live ends n exit again old made live_is within within_again is =
    let after = stmts_code c rest s ends n (length old - exit) (length old - again) in
    let x : length made - exit ≡ length after + (length old - exit) = omega (arith, ap length is, length-append after old) in
    let y : length made - again ≡ length after + (length old - again) = omega (arith, ap length is, length-append after old) in
    let same : stmt_code c st live ends n (length made - exit) (length made - again) ++ made ≡ stmt_code c st (live_all rest s ends) ends n (length after + (length old - exit)) (length after + (length old - again)) ++ (after ++ old)
    = λ i. stmt_code c st (live_is i) ends n (x i) (y i) ++ is i in
    same ∙ sym (append_assoc (stmt_code c st (live_all rest s ends) ends n (length after + (length old - exit)) (length after + (length old - again))) after old)

-- the end of the loop around, and its step back, stand behind what is made
pub within_jumped : (two old start : List Step) (k : ℕ) → start ≡ jumped two old → k ≤ length old → k ≤ length start
within_jumped two old start k is h = omega (arith, ap length is, jumped_length two old)

-- a turn of the loop over the statements of a block, from the last one to the first
module _ (c : Context) (b : List Stmt) (k : ℕ) (x : Stmt) (s before : Variables) (ends : Ends) (some : 0 < k) (within : k ≤ length b) (x_is : x ≡ get_or b (k - 1) x) (before_is : before ≡ live_all (seen_block (drop k b)) s ends) where
  pub block_turn : (n exit again : ℕ) (old made steps : List Step) → exit ≤ length old → again ≤ length old → made ≡ stmts_code c (seen_block (drop k b)) s ends n (length old - exit) (length old - again) ++ old
      → steps ≡ stmt_code c (seen_stmt x) before ends n (length made - exit) (length made - again) ++ made → steps ≡ stmts_code c (seen_block (drop (k - 1) b)) s ends n (length old - exit) (length old - again) ++ old
  block_turn n exit again old made steps within_exit within_again made_is steps_is =
      steps_is ∙ more_steps c (seen_stmt x) (seen_block (drop k b)) s before ends n exit again old made before_is within_exit within_again made_is
      ∙ ap (λ (l : List Stmt). stmts_code c (seen_block l) s ends n (length old - exit) (length old - again) ++ old) (sym (drop_back b k x some within x_is))

  pub block_turn_live : (now : Variables) → now ≡ live (seen_stmt x) before ends → now ≡ live_all (seen_block (drop (k - 1) b)) s ends
  block_turn_live now is = is ∙ ap (λ (v : Variables). live (seen_stmt x) v ends) before_is ∙ ap (λ (l : List Stmt). live_all (seen_block l) s ends) (sym (drop_back b k x some within x_is))
