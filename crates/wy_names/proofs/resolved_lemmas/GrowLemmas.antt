-- Variables are put behind others, and none is taken away.
use Rattle.std.proofs.Common.{◌≡◌, ◌≤◌, ℕ, ◌+◌, Bool, true, false, List, [], ◌∷◌, ◌++◌, length, Option, Some, None, arith, codes}
use Rattle.std.specs.List.{slice_get}
use Rattle.wy_ast.specs.SurfaceTree.{Expr, Exprs, Fields, Ranges, NullExpr, BoolExpr, IntExpr, TextExpr, VarExpr, CallExpr, NegExpr, NotExpr, LenExpr, BinaryExpr, IsExpr, IndexExpr, FieldExpr, ListExpr, RepeatExpr, RecordExpr, QuantExpr, NoExprs, MoreExprs, NoFields, MoreFields, NoRanges, MoreRanges}
use Rattle.wy_ast.specs.SurfaceTree.{Step, IndexStep, FieldStep, Stmt, Stmts, Cases, DeclareStmt, AssignStmt, CallStmt, ReturnStmt, AssertStmt, BreakStmt, ContinueStmt, SkipStmt, FailStmt, IfStmt, WhileStmt, DoStmt, ForStmt, SwitchStmt, SwitchElseStmt, NoStmts, MoreStmts, NoCases, MoreCases, exprs_of}
use Rattle.wy_core.specs.CoreTree as core
use Rattle.wy_names_scope.specs.declared.table.Entry.{Entry}
use Rattle.wy_names_scope.specs.declared.table.Entry.TheVariants as entry
use Rattle.wy_names_scope.specs.Scope.{Scope, entry_of}
use Rattle.wy_names_lower.specs.Variables.{Variables, declared, named}
use Rattle.wy_names_lower.specs.Uses.{With, Template, is_used, expansion, called}
use Rattle.wy_names_lower.specs.ExprsLowered.{kept, in_expr, in_exprs, in_args, in_fields, in_ranges}
use Rattle.wy_names_lower.specs.TypesLowered.{placed}
use Rattle.wy_names_lower.specs.StmtsLowered.{in_option, in_step, in_path, in_stmt, in_stmts, in_cases, in_clauses, scope_behind, do_test, do_invariants, for_from, for_to, for_span, for_invariants, renamed, with_span, switch_value, switch_variables, switch_number}

pub through : {a b c : ℕ} → a ≤ b → b ≤ c → a ≤ c
through h k = omega (arith, h, k)

pub length_more : {X : Type 0} (xs ys : List X) → length (xs ++ ys) ≡ length xs + length ys
length_more [] ys = omega arith
length_more (x ∷ xs) ys = let e = length_more xs ys in omega (arith, e)

pub length_named : (vs : Variables) (name : List ℕ) → length (named vs name) ≡ length vs + 1
length_named vs name = let e = length_more vs (name ∷ []) in omega (arith, e)

pub grows_named : (vs : Variables) (name : List ℕ) → length vs ≤ length (named vs name)
grows_named vs name = let e = length_named vs name in omega (arith, e)

grows_expansion : (at : ℕ) (t : Option Template) (vs : Variables) (args : List (core.Expr ℕ)) → length vs ≤ length (expansion at t vs args).0
grows_expansion at None vs args = omega arith
grows_expansion at (Some t) vs args = let e = length_more vs t.names in omega (arith, e)

pub grows_called : (ts : List Template) (at : ℕ) (o : Option Entry) (vs : Variables) (args : List (core.Expr ℕ)) → length vs ≤ length (called ts at o vs args).0
grows_called ts at None vs args = omega arith
grows_called ts at (Some (entry.Type n decl)) vs args = omega arith
grows_called ts at (Some (entry.Routine s)) vs args = omega arith
grows_called ts at (Some (entry.Property decl arity)) vs args = grows_expansion at (slice_get ts decl) vs args
grows_called ts at (Some (entry.Variable n)) vs args = omega arith

grows_kept : (b : Bool) (vs : Variables) (x : With (core.Expr ℕ)) → length vs ≤ length x.0 → length vs ≤ length (kept b vs x).0
grows_kept true vs x h = h
grows_kept false vs x h = omega arith

module _ (ts : List Template) where
  mutual
    pub grows_expr : (s : Scope) (vs : Variables) (e : Expr) → length vs ≤ length (in_expr ts s vs e).0
    grows_expr s vs (NullExpr at) = omega arith
    grows_expr s vs (BoolExpr at truth) = omega arith
    grows_expr s vs (IntExpr at z) = omega arith
    grows_expr s vs (TextExpr at bytes) = omega arith
    grows_expr s vs (VarExpr at name) = omega arith
    grows_expr s vs (CallExpr at name args) =
        through (grows_args s vs (entry_of s name) 0 args)
        (grows_called ts at (entry_of s name) (in_args ts s vs (entry_of s name) 0 args).0 (in_args ts s vs (entry_of s name) 0 args).1)
    grows_expr s vs (NegExpr at a) = grows_expr s vs a
    grows_expr s vs (NotExpr at a) = grows_expr s vs a
    grows_expr s vs (LenExpr at a) = grows_expr s vs a
    grows_expr s vs (BinaryExpr at op a b) = through (grows_expr s vs a) (grows_expr s (in_expr ts s vs a).0 b)
    grows_expr s vs (IsExpr at a t) = grows_expr s vs a
    grows_expr s vs (IndexExpr at a b) = through (grows_expr s vs a) (grows_expr s (in_expr ts s vs a).0 b)
    grows_expr s vs (FieldExpr at a name) = grows_expr s vs a
    grows_expr s vs (ListExpr at items) = grows_exprs s vs items
    grows_expr s vs (RepeatExpr at a b) = through (grows_expr s vs a) (grows_expr s (in_expr ts s vs a).0 b)
    grows_expr s vs (RecordExpr at fs) = grows_fields s vs [] fs
    grows_expr s vs (QuantExpr at all rs body) = through (grows_ranges s vs rs) (grows_expr (in_ranges ts s vs rs).0 (in_ranges ts s vs rs).1 body)

    pub grows_exprs : (s : Scope) (vs : Variables) (es : Exprs) → length vs ≤ length (in_exprs ts s vs es).0
    grows_exprs s vs NoExprs = omega arith
    grows_exprs s vs (MoreExprs e rest) = through (grows_expr s vs e) (grows_exprs s (in_expr ts s vs e).0 rest)

    pub grows_args : (s : Scope) (vs : Variables) (callee : Option Entry) (i : ℕ) (es : Exprs) → length vs ≤ length (in_args ts s vs callee i es).0
    grows_args s vs callee i NoExprs = omega arith
    grows_args s vs callee i (MoreExprs e rest) =
        through (grows_kept (is_used ts callee i) vs (in_expr ts s vs e) (grows_expr s vs e))
        (grows_args s (kept (is_used ts callee i) vs (in_expr ts s vs e)).0 callee (i + 1) rest)

    pub grows_fields : (s : Scope) (vs : Variables) (made : List (List ℕ × core.Expr ℕ)) (fs : Fields) → length vs ≤ length (in_fields ts s vs made fs).0
    grows_fields s vs made NoFields = omega arith
    grows_fields s vs made (MoreFields name e rest) =
        through (grows_expr s vs e) (grows_fields s (in_expr ts s vs e).0 (placed made name (in_expr ts s vs e).1) rest)

    pub grows_ranges : (s : Scope) (vs : Variables) (rs : Ranges) → length vs ≤ length (in_ranges ts s vs rs).1
    grows_ranges s vs NoRanges = omega arith
    grows_ranges s vs (MoreRanges name a b rest) =
        let first : Variables = (in_expr ts s vs a).0 in
        let second : Variables = (in_expr ts s first b).0 in
        through (grows_expr s vs a) (through (grows_expr s first b) (through (grows_named second name) (grows_ranges (declared s second name) (named second name) rest)))

  pub grows_option : (s : Scope) (vs : Variables) (e : Option Expr) → length vs ≤ length (in_option ts s vs e).0
  grows_option s vs None = omega arith
  grows_option s vs (Some e) = grows_expr s vs e

  pub grows_step : (s : Scope) (vs : Variables) (x : Step) → length vs ≤ length (in_step ts s vs x).0
  grows_step s vs (IndexStep at e) = grows_expr s vs e
  grows_step s vs (FieldStep at name) = omega arith

  pub grows_path : (s : Scope) (vs : Variables) (xs : List Step) → length vs ≤ length (in_path ts s vs xs).0
  grows_path s vs [] = omega arith
  grows_path s vs (x ∷ xs) = through (grows_step s vs x) (grows_path s (in_step ts s vs x).0 xs)

  pub grows_clauses : (s : Scope) (vs : Variables) (es : List Expr) → length vs ≤ length (in_clauses ts s vs es).0
  grows_clauses s vs es = grows_exprs s vs (exprs_of es)

  -- the four variables of a `for`
  pub length_span : (vs : Variables) (name : List ℕ) → length (with_span vs name) ≡ length vs + 4
  length_span vs name =
      let first : Variables = named vs (codes "lo") in
      let second : Variables = named first (codes "hi") in
      let third : Variables = named second (codes "t") in
      let a = length_named vs (codes "lo") in
      let b = length_named first (codes "hi") in
      let c = length_named second (codes "t") in
      let d = length_named third name in
      omega (arith, a, b, c, d)

  mutual
    pub grows_stmt : (s : Scope) (vs : Variables) (x : Stmt) → length vs ≤ length (in_stmt ts s vs x).0
    grows_stmt s vs (DeclareStmt at t name value) = through (grows_option s vs value) (grows_named (in_option ts s vs value).0 name)
    grows_stmt s vs (AssignStmt at name path value) = through (grows_path s vs path) (grows_expr s (in_path ts s vs path).0 value)
    grows_stmt s vs (CallStmt at name args) = grows_exprs s vs args
    grows_stmt s vs (ReturnStmt at value) = grows_option s vs value
    grows_stmt s vs (AssertStmt at test) = grows_expr s vs test
    grows_stmt s vs (BreakStmt at) = omega arith
    grows_stmt s vs (ContinueStmt at) = omega arith
    grows_stmt s vs (SkipStmt at) = omega arith
    grows_stmt s vs (FailStmt at) = omega arith
    grows_stmt s vs (IfStmt at test first second) =
        through (grows_expr s vs test) (through (grows_stmts s (in_expr ts s vs test).0 first) (grows_stmts s (in_stmts ts s (in_expr ts s vs test).0 first).0 second))
    grows_stmt s vs (WhileStmt at test invariants body) =
        through (grows_expr s vs test)
        (through (grows_clauses s (in_expr ts s vs test).0 invariants) (grows_stmts s (in_clauses ts s (in_expr ts s vs test).0 invariants).0 body))
    grows_stmt s vs (DoStmt at body test invariants) =
        through (grows_named vs (codes "first"))
        (through (grows_expr s (named vs (codes "first")) test)
        (through (grows_clauses s (do_test ts s vs test).0 invariants) (grows_stmts s (do_invariants ts s vs test invariants).0 body)))
    grows_stmt s vs (ForStmt at name from to invariants body) =
        let ends : Variables = (for_to ts s vs from to).0 in
        let spanned = length_span ends name in
        let wider : length ends ≤ length (with_span ends name) = omega (arith, spanned) in
        through (grows_expr s vs from)
        (through (grows_expr s (for_from ts s vs from).0 to)
        (through wider
        (through (grows_clauses (renamed s name (for_span ts s vs from to).t) (with_span ends name) invariants)
        (grows_stmts (renamed s name (for_span ts s vs from to).i) (for_invariants ts s vs name from to invariants).0 body))))
    grows_stmt s vs (SwitchStmt at value cs) =
        through (grows_expr s vs value)
        (through (grows_named (switch_value ts s vs value).0 (codes "t")) (grows_cases s (switch_variables ts s vs value) at (switch_number ts s vs value) cs))
    grows_stmt s vs (SwitchElseStmt at value cs default) =
        through (grows_expr s vs value)
        (through (grows_named (switch_value ts s vs value).0 (codes "t"))
        (through (grows_cases s (switch_variables ts s vs value) at (switch_number ts s vs value) cs)
        (grows_stmts s (in_cases ts s (switch_variables ts s vs value) at (switch_number ts s vs value) cs).0 default)))

    pub grows_stmts : (s : Scope) (vs : Variables) (xs : Stmts) → length vs ≤ length (in_stmts ts s vs xs).0
    grows_stmts s vs NoStmts = omega arith
    grows_stmts s vs (MoreStmts x rest) = through (grows_stmt s vs x) (grows_stmts (scope_behind ts s vs x) (in_stmt ts s vs x).0 rest)

    pub grows_cases : (s : Scope) (vs : Variables) (at t : ℕ) (cs : Cases) → length vs ≤ length (in_cases ts s vs at t cs).0
    grows_cases s vs at t NoCases = omega arith
    grows_cases s vs at t (MoreCases labels body rest) =
        through (grows_clauses s vs labels)
        (through (grows_stmts s (in_clauses ts s vs labels).0 body) (grows_cases s (in_stmts ts s (in_clauses ts s vs labels).0 body).0 at t rest))
