-- What statements owe.
use Rattle.std.specs.Prelude.{ℕ, zero, suc, List, [], ◌∷◌, ◌++◌, ◌&&◌, if◌then◌else◌, Option, Some, None}
use Rattle.wy_sem.specs.wy_core.Types.{Ty}
use Rattle.wy_sem.specs.wy_core.CoreTree as tree
use Rattle.wy_sem.specs.wy_core.CoreTree.{Expr, Step, IndexStep, FieldStep, Stmt, DeclareStmt, AssignStmt, CallStmt, ReturnStmt, AssertStmt, BreakStmt, ContinueStmt, SkipStmt, FailStmt, IfStmt, WhileStmt, Stmts, NoStmts, MoreStmts, Routine}
use Rattle.wy_sem.specs.wy_term.declared.cond.CondKind.TheVariants as kind
use Rattle.wy_sem.specs.wy_term.Term.{Term}
use Rattle.wy_sem.specs.Statements.{type_at}
use Rattle.wy_vc_spec.specs.Making.{val_name, field, falsehood, denied, formula}
use Rattle.wy_vc_spec.specs.Operations as op
use Rattle.wy_vc_spec.specs.Variables.{Vars, put, put_if}
use Rattle.wy_vc_spec.specs.Values.{valued, word_at, variable}
use Rattle.wy_vc_spec.specs.Owed.{Owed, assume, assume_all, owe}
use Rattle.wy_vc_spec.specs.Clauses.{Passed, passed, after, one_goal, pass_goals, owe_clauses, assume_in_type, owe_member}
use Rattle.wy_vc_spec.specs.Calls.{Walked, call_walk}
use Rattle.wy_vc_spec.specs.Walks.{Program, walk_all, walk_expr, index_goals}
use Rattle.wy_vc_spec.specs.Spots.{Spot, Flow, goes, stops, leaves, and_then, as_list, is_set, assign, declare, with_hyps}
use Rattle.wy_vc_spec.specs.Large.{named}
use Rattle.wy_vc_spec.specs.Joins.{meet}
use Rattle.wy_vc_spec.specs.Assigned.{assigns_in, bound_in}

-- what the statements of a body go by: the program, the function or method, the declared types of its variables, and the terms of its parameters at entry
pub record Body (N : Type 0) : Type 0 where
  pub program : Program N
  pub routine : Routine N
  pub types : List Ty
  pub entry : Vars

abbrev pub words : {N : Type 0} → Body N → List (List ℕ)
words b = b.routine.variables

abbrev pub expr : {N : Type 0} → Body N → Expr N → Vars → List Term → ℕ → Walked
expr b e vars hyps n = walk_expr b.program (words b) e vars hyps n

-- ---- values that come into variables

-- the value is in the declared type, and the variable stands for it, or for a new name
abbrev pub given : {N : Type 0} → Body N → ℕ → Ty → ℕ → Term → List Owed → Spot → List Term → ℕ → Flow
given b at t x v owed p hyps n =
    let member = owe_member b.program.setting at t v hyps n in let name = named (words b) x v member.hyps member.count in
    goes name.count (assign x name.term (with_hyps name.hyps p)) (owed ++ member.owed)

-- a part that a step of a path leads out of: an element of an array, or a field of a record
pub data Part : Type 0 where
  ElementOf : (whole index : Term) → Part
  FieldOf : (name : List ℕ) (whole : Term) → Part

-- the parts along a path, from the outside
pub record Along : Type 0 where
  pub count : ℕ
  pub hyps : List Term
  pub parts : List Part
  pub owed : List Owed

-- each index is checked before the next step
abbrev pub along : {N : Type 0} → Body N → List (Step N) → Term → Vars → List Term → ℕ → Along
along b [] whole vars hyps n = record { count = n; hyps = hyps; parts = []; owed = [] }
along b (IndexStep at e ∷ steps) whole vars hyps n =
    let i = expr b e vars hyps n in
    let rest = along b steps (op.element whole i.term) vars (assume_all i.hyps (index_goals whole i.term)) i.count in
    record { count = rest.count; hyps = rest.hyps; parts = ElementOf whole i.term ∷ rest.parts; owed = i.owed ++ (owe kind.Index at i.hyps (index_goals whole i.term) ++ rest.owed) }
along b (FieldStep at name ∷ steps) whole vars hyps n =
    let rest = along b steps (field name whole) vars hyps n in
    record { count = rest.count; hyps = rest.hyps; parts = FieldOf name whole ∷ rest.parts; owed = rest.owed }

-- the whole with another value at the end of the path
abbrev pub rebuilt : List Part → Term → Term
rebuilt [] v = v
rebuilt (ElementOf whole i ∷ parts) v = op.with_element whole i (rebuilt parts v)
rebuilt (FieldOf name whole ∷ parts) v = op.with_field name whole (rebuilt parts v)

abbrev pub assigned : {N : Type 0} → Body N → ℕ → ℕ → List (Step N) → Expr N → Spot → ℕ → Flow
assigned b at x path e p n =
    let parts = along b path (variable p.vars x) p.vars p.hyps n in
    let v = expr b e p.vars parts.hyps parts.count in
    given b at (type_at b.types x) x (rebuilt parts.parts v.term) (parts.owed ++ v.owed) p v.hyps v.count

-- ---- results

-- the result is in its type
abbrev pub owe_result : {N : Type 0} → Body N → ℕ → Option tree.Output → Option Term → List Term → ℕ → Passed
owe_result b at None v hyps n = passed n hyps []
owe_result b at (Some out) None hyps n = passed n hyps []
owe_result b at (Some out) (Some v) hyps n = owe_member b.program.setting at out.ty v hyps n

-- the variable of the result stands for it, and the parameters for what they were at entry
abbrev pub with_result : Option tree.Output → Option Term → Vars → Vars
with_result None v vars = vars
with_result (Some out) None vars = vars
with_result (Some out) (Some v) vars = put_if vars out.variable v

-- a `return` at a place: the type of the result, and the ensures clauses
abbrev pub leave : {N : Type 0} → Body N → ℕ → Option Term → List Term → ℕ → Passed
leave b at v hyps n =
    let member = owe_result b at b.routine.result v hyps n in
    after member (owe_clauses b.program.setting kind.Ensures at (words b) b.routine.postconditions (with_result b.routine.result v b.entry) member.hyps member.count)

-- ---- the head of a loop

pub record Renewed : Type 0 where
  pub count : ℕ
  pub spot : Spot

abbrev pub renewed : ℕ → Spot → Renewed
renewed n p = record { count = n; spot = p }

-- of so many variables from this one on, each that the body assigns takes a new name
abbrev pub renew_vars : {N : Type 0} → List (List ℕ) → Stmts N → ℕ → ℕ → Spot → ℕ → Renewed
renew_vars words body x zero p n = renewed n p
renew_vars words body x (suc j) p n =
    if assigns_in x body then renew_vars words body (suc x) j (record p { vars = put p.vars x (val_name (word_at words x) n) }) (suc n) else renew_vars words body (suc x) j p n

-- of the same, each that has a value on each path to the loop is of its declared type
abbrev pub renew_types : {N : Type 0} → Body N → Stmts N → ℕ → ℕ → Spot → ℕ → Renewed
renew_types b body x zero p n = renewed n p
renew_types b body x (suc j) p n =
    if assigns_in x body && is_set p.set x
    then (let f = assume_in_type b.program.setting (type_at b.types x) (variable p.vars x) p.hyps n in renew_types b body (suc x) j (with_hyps f.hyps p) f.count)
    else renew_types b body (suc x) j p n

abbrev pub renew : {N : Type 0} → Body N → Stmts N → Spot → ℕ → Renewed
renew b body p n = let r = renew_vars (words b) body 0 (bound_in body) p n in renew_types b body 0 (bound_in body) r.spot r.count

-- clauses are walked with what they owe, each assumed by the next
abbrev pub walk_clauses : {N : Type 0} → Program N → List (List ℕ) → List (Expr N) → Vars → List Term → ℕ → Passed
walk_clauses p words [] vars hyps n = passed n hyps []
walk_clauses p words (e ∷ es) vars hyps n =
    let v = walk_expr p words e vars hyps n in
    after (passed v.count (assume v.hyps (formula v.term)) v.owed) (walk_clauses p words es vars (assume v.hyps (formula v.term)) v.count)

-- the invariants hold again, where a path gets there
abbrev pub keep : {N : Type 0} → Body N → ℕ → List (Expr N) → Option Spot → ℕ → Passed
keep b at invariants None n = passed n [] []
keep b at invariants (Some p) n = owe_clauses b.program.setting kind.Keep at (words b) invariants p.vars p.hyps n

-- ---- statements

-- the test of an `if` or a loop, and what is assumed where it is true and where it is false
abbrev pub where_true : Walked → Spot → Spot
where_true v p = with_hyps (assume v.hyps (formula v.term)) p

abbrev pub where_false : Walked → Spot → Spot
where_false v p = with_hyps (assume v.hyps (denied (formula v.term))) p

-- behind a test and two blocks
abbrev pub behind_if : List (List ℕ) → Walked → Flow → Flow → Flow
behind_if words v first second =
    let met = meet words v.hyps (as_list first.ends ++ as_list second.ends) second.count in
    record { count = met.count; ends = met.ends; breaks = first.breaks ++ second.breaks; owed = v.owed ++ (first.owed ++ second.owed) }

-- behind a loop: its test is false, or a `break` left it
abbrev pub behind_loop : List (List ℕ) → Passed → Passed → Walked → Spot → Flow → Passed → Flow
behind_loop words entry inside v head turn kept =
    let met = meet words v.hyps (where_false v head ∷ turn.breaks) kept.count in
    record { count = met.count; ends = met.ends; breaks = []; owed = entry.owed ++ (inside.owed ++ (v.owed ++ (turn.owed ++ kept.owed))) }

abbrev mutual
  -- a statement in a loop with these invariants, if it is in one
  pub exec : {N : Type 0} → Body N → List (Expr N) → Stmt N → Spot → ℕ → Flow
  exec b around (DeclareStmt at t x None) p n = goes (suc n) (declare x (val_name (word_at (words b) x) n) p) []
  exec b around (DeclareStmt at t x (Some e)) p n = let v = expr b e p.vars p.hyps n in given b at t x v.term v.owed p v.hyps v.count
  exec b around (AssignStmt at x path e) p n = assigned b at x path e p n
  exec b around (CallStmt at f es) p n =
      let vs = walk_all b.program.setting (call_walk b.program.setting b.program.routines) (words b) es p.vars p.hyps n in
      let v = call_walk b.program.setting b.program.routines f at vs.terms vs.hyps vs.count in
      goes v.count (with_hyps v.hyps p) (vs.owed ++ v.owed)
  exec b around (ReturnStmt at None) p n = let out = leave b at None p.hyps n in stops out.count out.owed
  exec b around (ReturnStmt at (Some e)) p n =
      let v = expr b e p.vars p.hyps n in let out = leave b at (Some v.term) v.hyps v.count in stops out.count (v.owed ++ out.owed)
  exec b around (AssertStmt at e) p n =
      let v = expr b e p.vars p.hyps n in
      let held = pass_goals kind.Assert at (one_goal (valued v.count (formula v.term))) v.hyps in
      goes held.count (with_hyps held.hyps p) (v.owed ++ held.owed)
  exec b around (BreakStmt at) p n = leaves n p
  exec b around (ContinueStmt at) p n = let kept = keep b at around (Some p) n in stops kept.count kept.owed
  exec b around (SkipStmt at) p n = goes n p []
  exec b around (FailStmt at) p n = stops n (owe kind.Fail at p.hyps (falsehood ∷ []))
  exec b around (IfStmt at e first second) p n =
      let v = expr b e p.vars p.hyps n in
      let one = exec_all b around first (where_true v p) v.count in
      behind_if (words b) v one (exec_all b around second (where_false v p) one.count)
  exec b around (WhileStmt at e invariants body) p n =
      let entry = owe_clauses b.program.setting kind.Entry at (words b) invariants p.vars p.hyps n in
      let head = renew b body (with_hyps entry.hyps p) entry.count in
      let inside = walk_clauses b.program (words b) invariants head.spot.vars head.spot.hyps head.count in
      let v = expr b e head.spot.vars inside.hyps inside.count in
      let turn = exec_all b invariants body (where_true v head.spot) v.count in
      behind_loop (words b) entry inside v head.spot turn (keep b at invariants turn.ends turn.count)

  -- a block: statements that no path gets to owe nothing
  pub exec_all : {N : Type 0} → Body N → List (Expr N) → Stmts N → Spot → ℕ → Flow
  exec_all b around NoStmts p n = goes n p []
  exec_all b around (MoreStmts first rest) p n = and_then (exec b around first p n) (exec_all b around rest)
