-- Names put last leave what stood before, so a scope is cut back to what it was.
use Rattle.std.proofs.Common.{◌≡◌, ℕ, List, [], ◌∷◌, length, take, refl, Option, Some, None}
use Rattle.std.proofs.Math.Seq.{take-length}
use Rattle.wy_ast.specs.SurfaceTree as surface
use Rattle.wy_names_scope.specs.declared.table.Entry.{Entry}
use Rattle.wy_names_scope.specs.declared.table.Entry.TheVariants as entry
use Rattle.wy_names_scope.specs.Scope.{Scope, with_name}
use Rattle.wy_names_scope.proofs.ScopeLemmas.{cut-with}
use Rattle.wy_names_lower.specs.Variables.{Variables, declared, named}
use Rattle.wy_names_lower.specs.Uses.{Template}
use Rattle.wy_names_lower.specs.ExprsLowered.{in_expr, in_ranges}
use Rattle.wy_names_lower.specs.StmtsLowered.{in_option, scope_behind, renamed}
use Rattle.wy_names_lower.specs.Templates.{params_scope}
use Rattle.wy_names_lower.specs.DeclsLowered.{name_scope}

pub kept_name : (s : Scope) (name : List ℕ) (e : Entry) → take (length s) (with_name s name e) ≡ s
kept_name s name e = cut-with s s name e (take-length s)

cut_ranges : (base : Scope) (ts : List Template) (s : Scope) (vs : Variables) (rs : surface.Ranges) → take (length base) s ≡ base → take (length base) (in_ranges ts s vs rs).0 ≡ base
cut_ranges base ts s vs surface.NoRanges h = h
cut_ranges base ts s vs (surface.MoreRanges name from to rest) h =
    let between = (in_expr ts s (in_expr ts s vs from).0 to).0 in
    cut_ranges base ts (declared s between name) (named between name) rest (cut-with base s name (entry.Variable (length between)) h)

pub kept_ranges : (ts : List Template) (s : Scope) (vs : Variables) (rs : surface.Ranges) → take (length s) (in_ranges ts s vs rs).0 ≡ s
kept_ranges ts s vs rs = cut_ranges s ts s vs rs (take-length s)

cut_params : (base s : Scope) (vs : Variables) (ps : List surface.Param) → take (length base) s ≡ base → take (length base) (params_scope s vs ps) ≡ base
cut_params base s vs [] h = h
cut_params base s vs (p ∷ ps) h = cut_params base (declared s vs p.name) (named vs p.name) ps (cut-with base s p.name (entry.Variable (length vs)) h)

pub kept_params : (s : Scope) (vs : Variables) (ps : List surface.Param) → take (length s) (params_scope s vs ps) ≡ s
kept_params s vs ps = cut_params s s vs ps (take-length s)

pub kept_maybe : (s : Scope) (vs : Variables) (name : Option (List ℕ)) → take (length s) (name_scope s vs name) ≡ s
kept_maybe s vs None = take-length s
kept_maybe s vs (Some name) = kept_name s name (entry.Variable (length vs))

pub cut_behind : (ts : List Template) (base s : Scope) (vs : Variables) (x : surface.Stmt) → take (length base) s ≡ base → take (length base) (scope_behind ts s vs x) ≡ base
cut_behind ts base s vs (surface.DeclareStmt at ty name value) h = cut-with base s name (entry.Variable (length (in_option ts s vs value).0)) h
cut_behind ts base s vs (surface.AssignStmt at name path value) h = h
cut_behind ts base s vs (surface.CallStmt at name args) h = h
cut_behind ts base s vs (surface.ReturnStmt at value) h = h
cut_behind ts base s vs (surface.AssertStmt at test) h = h
cut_behind ts base s vs (surface.BreakStmt at) h = h
cut_behind ts base s vs (surface.ContinueStmt at) h = h
cut_behind ts base s vs (surface.SkipStmt at) h = h
cut_behind ts base s vs (surface.FailStmt at) h = h
cut_behind ts base s vs (surface.IfStmt at test first second) h = h
cut_behind ts base s vs (surface.WhileStmt at test invariants body) h = h
cut_behind ts base s vs (surface.DoStmt at body test invariants) h = h
cut_behind ts base s vs (surface.ForStmt at name from to invariants body) h = h
cut_behind ts base s vs (surface.SwitchStmt at value cs) h = h
cut_behind ts base s vs (surface.SwitchElseStmt at value cs default) h = h
