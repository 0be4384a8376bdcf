-- Declarations of the core.
use Rattle.std.specs.Prelude.{ℕ, Bool, true, false, List, [], ◌∷◌, ◌++◌, length, Option, Some, None}
use Rattle.wy_ast.specs.SurfaceTree as surface
use Rattle.wy_core.specs.CoreTree.{Expr, Stmt, Param, Output, Alias, Routine, Decl, AliasDecl, RoutineDecl, Core, stmts_of}
use Rattle.wy_names_scope.specs.Scope.{Scope}
use Rattle.wy_names_scope.specs.Places.{place_of_ty}
use Rattle.wy_names_lower.specs.Variables.{Variables, named, declared}
use Rattle.wy_names_lower.specs.Uses.{With, Template}
use Rattle.wy_names_lower.specs.TypesLowered.{in_ty}
use Rattle.wy_names_lower.specs.StmtsLowered.{in_clauses, in_stmts}
use Rattle.wy_names_lower.specs.Templates.{params_scope, params_named}

-- a variable that may be named: the scope and the variables behind it, and its number
abbrev pub name_scope : Scope → Variables → Option (List ℕ) → Scope
name_scope s vs None = s
name_scope s vs (Some name) = declared s vs name

abbrev pub name_named : Variables → Option (List ℕ) → Variables
name_named vs None = vs
name_named vs (Some name) = named vs name

abbrev pub name_number : Variables → Option (List ℕ) → Option ℕ
name_number vs None = None
name_number vs (Some name) = Some (length vs)

-- clauses that speak of a variable which may be named
abbrev pub named_clauses : List Template → Scope → Variables → Option (List ℕ) → List surface.Expr → With (List (Expr ℕ))
named_clauses ts s vs name clauses = in_clauses ts (name_scope s vs name) (name_named vs name) clauses

abbrev pub in_alias : List Template → Scope → surface.Alias → Alias ℕ
in_alias ts s a = record {
  at = a.at;
  name = a.name;
  variables = (named_clauses ts s [] a.variable a.clauses).0;
  ty_at = place_of_ty a.ty;
  ty = in_ty s a.ty;
  variable = name_number [] a.variable;
  clauses = (named_clauses ts s [] a.variable a.clauses).1;
}

-- parameters, each in scope behind itself
abbrev pub in_params : Scope → Variables → List surface.Param → List Param
in_params s vs [] = []
in_params s vs (p ∷ ps) = record { at = place_of_ty p.ty; ty = in_ty s p.ty; variable = length vs } ∷ in_params (declared s vs p.name) (named vs p.name) ps

-- a result, with its name where it has one
abbrev pub in_output : Scope → Variables → surface.Ty → Option (List ℕ) → Output
in_output s vs ty name = record { at = place_of_ty ty; ty = in_ty s ty; variable = name_number vs name }

-- a result that may be absent
abbrev pub in_result : Scope → Variables → Option (surface.Ty × Option (List ℕ)) → Option Output
in_result s vs None = None
in_result s vs (Some r) = Some (in_output s vs r.0 r.1)

-- the clauses that speak of it
abbrev pub result_clauses : List Template → Scope → Variables → Option (surface.Ty × Option (List ℕ)) → List surface.Expr → With (List (Expr ℕ))
result_clauses ts s vs None clauses = in_clauses ts s vs clauses
result_clauses ts s vs (Some r) clauses = named_clauses ts s vs r.1 clauses

-- what a function and a method have
pub record Parts : Type 0 where
  pub at : ℕ
  pub name : List ℕ
  pub is_method : Bool
  pub params : List surface.Param
  pub result : Option (surface.Ty × Option (List ℕ))
  pub preconditions : List surface.Expr
  pub postconditions : List surface.Expr
  pub body : surface.Stmts

-- the preconditions, the postconditions and the body, each behind the one before it
abbrev pub before : List Template → Scope → Parts → With (List (Expr ℕ))
before ts s p = in_clauses ts (params_scope s [] p.params) (params_named [] p.params) p.preconditions

abbrev pub after : List Template → Scope → Parts → With (List (Expr ℕ))
after ts s p = result_clauses ts (params_scope s [] p.params) (before ts s p).0 p.result p.postconditions

abbrev pub block : List Template → Scope → Parts → With (List (Stmt ℕ))
block ts s p = in_stmts ts (params_scope s [] p.params) (after ts s p).0 p.body

abbrev pub in_routine : List Template → Scope → Parts → Routine ℕ
in_routine ts s p = record {
  at = p.at;
  name = p.name;
  is_method = p.is_method;
  variables = (block ts s p).0;
  params = in_params s [] p.params;
  result = in_result (params_scope s [] p.params) (before ts s p).0 p.result;
  preconditions = (before ts s p).1;
  postconditions = (after ts s p).1;
  body = stmts_of (block ts s p).1;
}

abbrev pub function_parts : surface.Function → Parts
function_parts f = record {
  at = f.at;
  name = f.name;
  is_method = false;
  params = f.params;
  result = Some (f.result, f.result_name);
  preconditions = f.preconditions;
  postconditions = f.postconditions;
  body = f.body;
}

abbrev pub method_parts : surface.Method → Parts
method_parts m = record {
  at = m.at;
  name = m.name;
  is_method = true;
  params = m.params;
  result = m.result;
  preconditions = m.preconditions;
  postconditions = m.postconditions;
  body = m.body;
}

-- the declaration; a property has none in the core
abbrev pub in_decl : List Template → Scope → surface.Decl → Option (Decl ℕ)
in_decl ts s (surface.AliasDecl a) = Some (AliasDecl (in_alias ts s a))
in_decl ts s (surface.FunctionDecl f) = Some (RoutineDecl (in_routine ts s (function_parts f)))
in_decl ts s (surface.MethodDecl m) = Some (RoutineDecl (in_routine ts s (method_parts m)))
in_decl ts s (surface.PropertyDecl p) = None

abbrev pub with_first : Option (Decl ℕ) → List (Decl ℕ) → List (Decl ℕ)
with_first None ds = ds
with_first (Some d) ds = d ∷ ds

-- the core of the declarations, all of whose names are in scope
abbrev pub in_decls : List Template → Scope → List surface.Decl → Core ℕ
in_decls ts s [] = []
in_decls ts s (d ∷ ds) = with_first (in_decl ts s d) (in_decls ts s ds)

-- a declaration behind others, where there is one
abbrev pub with_last : {D : Type 0} → List D → Option D → List D
with_last ds None = ds
with_last ds (Some d) = ds ++ d ∷ []
