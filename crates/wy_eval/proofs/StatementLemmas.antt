-- Statements: what they spend first, what they stand for, and those behind them.
use Rattle.std.proofs.Common.{◌≡◌, ◌≢◌, ℕ, ◌+◌, ◌<◌, ◌≤◌, Bool, true, false, List, map, length, drop, get_or, Option, Some, None, Result, Ok, Err, refl, sym, ap, ◌∙◌, subst, rules}
use Rattle.std.proofs.lemmas.List.{drop_all}
use Rattle.wy_core.specs.CoreSeen.{seen_block, seen_expr, seen_exprs, seen_option, seen_step, seen_stmt, seen_ty}
use Rattle.wy_core.specs.CoreTree as tree
use Rattle.wy_core.specs.declared.expressions.Expr as e
use Rattle.wy_core.specs.declared.statements.Step.{Step}
use Rattle.wy_core.specs.declared.statements.Stmt as st
use Rattle.wy_core.specs.declared.statements.StmtKind as kind
use Rattle.wy_core.specs.declared.types.Ty.{Ty}
use Rattle.wy_lemmas.proofs.Lists.{next_of as next_item}
use Rattle.wy_sem.specs.Expressions.{Setting, Store}
use Rattle.wy_sem.specs.Meter.{Meter, Done, Run, ◌>>=◌, spend}
use Rattle.wy_value.specs.declared.value.Value.{Value}
use Rattle.wy_value.specs.Seen.{seen}
use Rattle.wy_sem.specs.Operations.{needed}
use Rattle.wy_sem.specs.Statements.{Exit, Went, Broke, Continued, Gave, Frame, exec, exec_all, go_on}
use Rattle.wy_eval_exprs.specs.declared.stop.Stop.{Stop}
use Rattle.wy_eval_exprs.specs.declared.stop.Stop.TheVariants as stop
use Rattle.wy_eval_exprs.specs.Operands.{NeededOf, seen_option as seen_value}
use Rattle.wy_eval_exprs.specs.Outcomes.{Gives, stopped}
use Rattle.wy_eval_exprs.proofs.StepLemmas.{done, spent_stops, then_is, then_stops_plain}

-- ---- what a node stands for

pub declare_of : (x : st.Stmt) (t : Ty) (v : ℕ) (value : Option e.Expr) → x.kind ≡ kind.Declare t v value → seen_stmt x ≡ tree.DeclareStmt x.at (seen_ty t) v (seen_option value)
declare_of x t v value is = search (rules, st.the_lemmas)

assign_itself : (x : st.Stmt) (v : ℕ) (path : List Step) (value : e.Expr) → x.kind ≡ kind.Assign v path value → seen_stmt x ≡ tree.AssignStmt x.at v (map seen_step path) (seen_expr value)
assign_itself x v path value is = search (rules, st.the_lemmas)

pub assign_of : (x : st.Stmt) (v : ℕ) (path path2 : List Step) (value : e.Expr) → x.kind ≡ kind.Assign v path value → path2 ≡ path → seen_stmt x ≡ tree.AssignStmt x.at v (map seen_step path2) (seen_expr value)
assign_of x v path path2 value is same = assign_itself x v path value is ∙ ap (λ l. tree.AssignStmt x.at v (map seen_step l) (seen_expr value)) (sym same)

call_itself : (x : st.Stmt) (routine : ℕ) (args : List e.Expr) → x.kind ≡ kind.Call routine args → seen_stmt x ≡ tree.CallStmt x.at routine (tree.exprs_of (seen_exprs args))
call_itself x routine args is = search (rules, st.the_lemmas)

pub call_of : (x : st.Stmt) (routine : ℕ) (args args2 : List e.Expr) → x.kind ≡ kind.Call routine args → args2 ≡ args → seen_stmt x ≡ tree.CallStmt x.at routine (tree.exprs_of (seen_exprs args2))
call_of x routine args args2 is same = call_itself x routine args is ∙ ap (λ l. tree.CallStmt x.at routine (tree.exprs_of (seen_exprs l))) (sym same)

pub return_of : (x : st.Stmt) (value : Option e.Expr) → x.kind ≡ kind.Return value → seen_stmt x ≡ tree.ReturnStmt x.at (seen_option value)
return_of x value is = search (rules, st.the_lemmas)

pub assert_of : (x : st.Stmt) (test : e.Expr) → x.kind ≡ kind.Assert test → seen_stmt x ≡ tree.AssertStmt x.at (seen_expr test)
assert_of x test is = search (rules, st.the_lemmas)

pub break_of : (x : st.Stmt) → x.kind ≡ kind.Break → seen_stmt x ≡ tree.BreakStmt x.at
break_of x is = search (rules, st.the_lemmas)

pub continue_of : (x : st.Stmt) → x.kind ≡ kind.Continue → seen_stmt x ≡ tree.ContinueStmt x.at
continue_of x is = search (rules, st.the_lemmas)

pub skip_of : (x : st.Stmt) → x.kind ≡ kind.Skip → seen_stmt x ≡ tree.SkipStmt x.at
skip_of x is = search (rules, st.the_lemmas)

pub fail_of : (x : st.Stmt) → x.kind ≡ kind.Fail → seen_stmt x ≡ tree.FailStmt x.at
fail_of x is = search (rules, st.the_lemmas)

if_itself : (x : st.Stmt) (test : e.Expr) (a b : List st.Stmt) → x.kind ≡ kind.If test a b → seen_stmt x ≡ tree.IfStmt x.at (seen_expr test) (seen_block a) (seen_block b)
if_itself x test a b is = search (rules, st.the_lemmas)

pub if_of : (x : st.Stmt) (test : e.Expr) (a a2 b b2 : List st.Stmt) → x.kind ≡ kind.If test a b → a2 ≡ a → b2 ≡ b → seen_stmt x ≡ tree.IfStmt x.at (seen_expr test) (seen_block a2) (seen_block b2)
if_of x test a a2 b b2 is a_same b_same =
    if_itself x test a b is ∙ (ap (λ l. tree.IfStmt x.at (seen_expr test) (seen_block l) (seen_block b)) (sym a_same) ∙ ap (λ l. tree.IfStmt x.at (seen_expr test) (seen_block a2) (seen_block l)) (sym b_same))

while_itself : (x : st.Stmt) (test : e.Expr) (invariants : List e.Expr) (body : List st.Stmt) → x.kind ≡ kind.While test invariants body → seen_stmt x ≡ tree.WhileStmt x.at (seen_expr test) (seen_exprs invariants) (seen_block body)
while_itself x test invariants body is = search (rules, st.the_lemmas)

pub while_of : (x : st.Stmt) (test : e.Expr) (invariants invariants2 : List e.Expr) (body body2 : List st.Stmt) → x.kind ≡ kind.While test invariants body → invariants2 ≡ invariants → body2 ≡ body
    → seen_stmt x ≡ tree.WhileStmt x.at (seen_expr test) (seen_exprs invariants2) (seen_block body2)
while_of x test invariants invariants2 body body2 is i_same b_same =
    while_itself x test invariants body is ∙ (ap (λ l. tree.WhileStmt x.at (seen_expr test) (seen_exprs l) (seen_block body)) (sym i_same) ∙ ap (λ l. tree.WhileStmt x.at (seen_expr test) (seen_exprs invariants2) (seen_block l)) (sym b_same))

-- what a statement of this form gives, the statement gives that stands for it
pub as_stmt : {Y : Type 0} (w : Setting ℕ) (fr : Frame ℕ) (x y : tree.Stmt ℕ) (s : Store) (m : Meter) (view : Y → Exit) (r : Result Y Stop) (k : Meter) → x ≡ y → Gives view (exec w fr y s m) r k → Gives view (exec w fr x s m) r k
as_stmt w fr x y s m view r k h g = subst (λ z. Gives view (exec w fr z s m) r k) (sym h) g

pub exec_stops : (w : Setting ℕ) (fr : Frame ℕ) (x : tree.Stmt ℕ) (s : Store) (m k : Meter) (e : Stop) → (e ≢ stop.NoMemory → spend true done m ≡ stopped e k) → e ≢ stop.NoMemory → exec w fr x s m ≡ stopped e k
exec_stops w fr (tree.DeclareStmt at t x None) s m k e h none = spent_stops true _ m k e h none
exec_stops w fr (tree.DeclareStmt at t x (Some v)) s m k e h none = spent_stops true _ m k e h none
exec_stops w fr (tree.AssignStmt at x path v) s m k e h none = spent_stops true _ m k e h none
exec_stops w fr (tree.CallStmt at f es) s m k e h none = spent_stops true _ m k e h none
exec_stops w fr (tree.ReturnStmt at None) s m k e h none = spent_stops true _ m k e h none
exec_stops w fr (tree.ReturnStmt at (Some v)) s m k e h none = spent_stops true _ m k e h none
exec_stops w fr (tree.AssertStmt at v) s m k e h none = spent_stops true _ m k e h none
exec_stops w fr (tree.BreakStmt at) s m k e h none = spent_stops true _ m k e h none
exec_stops w fr (tree.ContinueStmt at) s m k e h none = spent_stops true _ m k e h none
exec_stops w fr (tree.SkipStmt at) s m k e h none = spent_stops true _ m k e h none
exec_stops w fr (tree.FailStmt at) s m k e h none = spent_stops true _ m k e h none
exec_stops w fr (tree.IfStmt at v a b) s m k e h none = spent_stops true _ m k e h none
exec_stops w fr (tree.WhileStmt at v is body) s m k e h none = spent_stops true _ m k e h none

-- ---- blocks

abbrev pub BlockLeft : Setting ℕ → Frame ℕ → List st.Stmt → Store → Meter → Store → Meter → List st.Stmt → Type 0
BlockLeft w fr all s m now k left = exec_all w fr (seen_block all) s m ≡ exec_all w fr (seen_block left) now k

at_stmt : (w : Setting ℕ) (fr : Frame ℕ) (all : List st.Stmt) (now : Store) (k : Meter) (i : ℕ) (x : st.Stmt) → i < length all → x ≡ get_or all i x
    → exec_all w fr (seen_block (drop i all)) now k ≡ (exec w fr (seen_stmt x) now k >>= (λ o. go_on o (exec_all w fr (seen_block (drop (i + 1) all)))))
at_stmt w fr all now k i x within is = ap (λ l. exec_all w fr (seen_block l) now k) (next_item all i x within is)

pub block_turn : (w : Setting ℕ) (fr : Frame ℕ) (all : List st.Stmt) (s : Store) (m : Meter) (now next : Store) (k j : Meter) (i : ℕ) (x : st.Stmt) → i < length all → x ≡ get_or all i x → exec w fr (seen_stmt x) now k ≡ Done (Went next) j
    → BlockLeft w fr all s m now k (drop i all) → BlockLeft w fr all s m next j (drop (i + 1) all)
block_turn w fr all s m now next k j i x within is given before =
    before ∙ (at_stmt w fr all now k i x within is ∙ then_is (exec w fr (seen_stmt x) now k) (λ o. go_on o (exec_all w fr (seen_block (drop (i + 1) all)))) (Went next) j given)

-- an exit that ends the block
abbrev pub ends_block : Exit → Bool
ends_block (Went s) = false
ends_block (Broke s) = true
ends_block (Continued at s) = true
ends_block (Gave v) = true

go_ends : (o : Exit) (next : Store → Run Exit) (k : Meter) → ends_block o ≡ true → go_on o next k ≡ Done o k
go_ends (Went s) next k h = absurd cc
go_ends (Broke s) next k h = refl
go_ends (Continued at s) next k h = refl
go_ends (Gave v) next k h = refl

pub block_ends : (w : Setting ℕ) (fr : Frame ℕ) (all : List st.Stmt) (s : Store) (m : Meter) (now : Store) (k j : Meter) (i : ℕ) (x : st.Stmt) (o : Exit) → i < length all → x ≡ get_or all i x → exec w fr (seen_stmt x) now k ≡ Done o j → ends_block o ≡ true
    → BlockLeft w fr all s m now k (drop i all) → exec_all w fr (seen_block all) s m ≡ Done o j
block_ends w fr all s m now k j i x o within is given ends before =
    before ∙ (at_stmt w fr all now k i x within is ∙ (then_is (exec w fr (seen_stmt x) now k) (λ p. go_on p (exec_all w fr (seen_block (drop (i + 1) all)))) o j given ∙ go_ends o (exec_all w fr (seen_block (drop (i + 1) all))) j ends))

pub block_stops : (w : Setting ℕ) (fr : Frame ℕ) (all : List st.Stmt) (s : Store) (m : Meter) (now : Store) (k j : Meter) (i : ℕ) (x : st.Stmt) (e : Stop) → i < length all → x ≡ get_or all i x → (e ≢ stop.NoMemory → exec w fr (seen_stmt x) now k ≡ stopped e j)
    → BlockLeft w fr all s m now k (drop i all) → e ≢ stop.NoMemory → exec_all w fr (seen_block all) s m ≡ stopped e j
block_stops w fr all s m now k j i x e within is given before none =
    before ∙ (at_stmt w fr all now k i x within is ∙ then_stops_plain (exec w fr (seen_stmt x) now k) (λ o. go_on o (exec_all w fr (seen_block (drop (i + 1) all)))) j e given none)

pub block_end : (w : Setting ℕ) (fr : Frame ℕ) (all : List st.Stmt) (s : Store) (m : Meter) (now : Store) (k : Meter) (i : ℕ) → length all ≤ i → BlockLeft w fr all s m now k (drop i all) → exec_all w fr (seen_block all) s m ≡ Done (Went now) k
block_end w fr all s m now k i past before = before ∙ ap (λ l. exec_all w fr (seen_block l) now k) (drop_all i all past)

-- ---- what must be there

pub needed_gives : (at : ℕ) (o : Option Value) (r : Result Value Stop) (k : Meter) → NeededOf at o r → Gives seen (needed at (seen_value o) Done k) r k
needed_gives at o (Ok v) k h = ap (λ x. needed at (seen_value x) Done k) h
needed_gives at o (Err e) k h = λ none. ap (λ x. needed at (seen_value x) Done k) h.1 ∙ sym (ap (λ g. stopped g k) h.0)
