-- Names put last leave what stood before, so a scope is cut back to what it was.
use Rattle.std.proofs.Common.{◌≡◌, ℕ, List, [], ◌∷◌, length, take}
use Rattle.std.proofs.Math.Seq.{take-length}
use Rattle.wy_ast.specs.SurfaceTree.{Param, Ranges, NoRanges, MoreRanges, Stmt, Stmts, NoStmts, MoreStmts, DeclareStmt, AssignStmt, CallStmt, ReturnStmt, AssertStmt, BreakStmt, ContinueStmt, SkipStmt, FailStmt, IfStmt, WhileStmt, DoStmt, ForStmt, SwitchStmt, SwitchElseStmt}
use Rattle.wy_names_scope.specs.Scope.{Scope, with_name}
use Rattle.wy_names_scope.proofs.ScopeLemmas.{cut-with}
use Rattle.wy_names_recursion.specs.TypeNames.{just_a_name}
use Rattle.wy_names_recursion.specs.ExprNames.{with_ranges}
use Rattle.wy_names_recursion.specs.StmtNames.{scope_behind, with_stmts}
use Rattle.wy_names_recursion.specs.DeclNames.{with_params}

cut-ranges : (base s : Scope) (rs : Ranges) → take (length base) s ≡ base → take (length base) (with_ranges s rs) ≡ base
cut-ranges base s NoRanges h = h
cut-ranges base s (MoreRanges name from to rest) h = cut-ranges base (with_name s name just_a_name) rest (cut-with base s name just_a_name h)

pub kept_ranges : (s : Scope) (rs : Ranges) → take (length s) (with_ranges s rs) ≡ s
kept_ranges s rs = cut-ranges s s rs (take-length s)

cut-params : (base s : Scope) (ps : List Param) → take (length base) s ≡ base → take (length base) (with_params s ps) ≡ base
cut-params base s [] h = h
cut-params base s (p ∷ ps) h = cut-params base (with_name s p.name just_a_name) ps (cut-with base s p.name just_a_name h)

pub kept_params : (s : Scope) (ps : List Param) → take (length s) (with_params s ps) ≡ s
kept_params s ps = cut-params s s ps (take-length s)

pub kept_name : (s : Scope) (name : List ℕ) → take (length s) (with_name s name just_a_name) ≡ s
kept_name s name = cut-with s s name just_a_name (take-length s)

cut-behind : (base s : Scope) (stmt : Stmt) → take (length base) s ≡ base → take (length base) (scope_behind s stmt) ≡ base
cut-behind base s (DeclareStmt at ty name value) h = cut-with base s name just_a_name h
cut-behind base s (AssignStmt at name path value) h = h
cut-behind base s (CallStmt at name args) h = h
cut-behind base s (ReturnStmt at value) h = h
cut-behind base s (AssertStmt at test) h = h
cut-behind base s (BreakStmt at) h = h
cut-behind base s (ContinueStmt at) h = h
cut-behind base s (SkipStmt at) h = h
cut-behind base s (FailStmt at) h = h
cut-behind base s (IfStmt at test first second) h = h
cut-behind base s (WhileStmt at test invariants body) h = h
cut-behind base s (DoStmt at body test invariants) h = h
cut-behind base s (ForStmt at name from to invariants body) h = h
cut-behind base s (SwitchStmt at value cs) h = h
cut-behind base s (SwitchElseStmt at value cs default) h = h

cut-stmts : (base s : Scope) (ss : Stmts) → take (length base) s ≡ base → take (length base) (with_stmts s ss) ≡ base
cut-stmts base s NoStmts h = h
cut-stmts base s (MoreStmts stmt rest) h = cut-stmts base (scope_behind s stmt) rest (cut-behind base s stmt h)

pub kept_stmts : (s : Scope) (ss : Stmts) → take (length s) (with_stmts s ss) ≡ s
kept_stmts s ss = cut-stmts s s ss (take-length s)
