-- The faults of names in declarations.
use Rattle.std.specs.Prelude.{ℕ, Bool, true, false, List, [], ◌∷◌, map, Option, Some, None, is_some}
use Rattle.wy_ast.specs.SurfaceTree.{Ty, Expr, Param, Alias, Function, Method, Property, Decl, AliasDecl, FunctionDecl, MethodDecl, PropertyDecl, exprs_of}
use Rattle.wy_ast.specs.SurfaceSeen.{seen_ty, seen_exprs, seen_block, seen_param, seen_result}
use Rattle.wy_ast.specs.declared.declarations.Alias as rust_alias
use Rattle.wy_ast.specs.declared.declarations.Function as rust_function
use Rattle.wy_ast.specs.declared.declarations.Method as rust_method
use Rattle.wy_ast.specs.declared.declarations.Property as rust_property
use Rattle.wy_names_scope.specs.declared.fault.Cause.TheVariants as cause
use Rattle.wy_names_scope.specs.Faults.{Found, noted_where}
use Rattle.wy_names_scope.specs.Places.{place_of_ty}
use Rattle.wy_names_scope.specs.Scope.{Scope, has, with_name}
use Rattle.wy_names_recursion.specs.declared.context.Context.{Context}
use Rattle.wy_names_recursion.specs.TypeNames.{in_ty, just_a_name}
use Rattle.wy_names_recursion.specs.ExprNames.{in_exprs}
use Rattle.wy_names_recursion.specs.StmtNames.{in_stmts}

-- a clause of a type or a property
abbrev pub clause_context : Context
clause_context = record { is_function = false; has_result = false; in_loop = false; is_contract = true }

-- a function or a method, with or without a result, its contract or its body
abbrev pub routine_context : Bool → Bool → Bool → Context
routine_context is_function has_result is_contract =
    record { is_function = is_function; has_result = has_result; in_loop = false; is_contract = is_contract }

-- clauses behind a variable that may be named, and whose type stands at the place
abbrev pub in_clauses : Context → Scope → ℕ → Option (List ℕ) → List Expr → Found → Found
in_clauses c scope at None clauses found = in_exprs c scope (exprs_of clauses) found
in_clauses c scope at (Some name) clauses found =
    in_exprs c (with_name scope name just_a_name) (exprs_of clauses) (noted_where (has scope name) found at cause.Twice)

-- the scope behind parameters
abbrev pub with_params : Scope → List Param → Scope
with_params scope [] = scope
with_params scope (p ∷ ps) = with_params (with_name scope p.name just_a_name) ps

-- the types and names of parameters
abbrev pub in_params : Scope → List Param → Found → Found
in_params scope [] found = found
in_params scope (p ∷ ps) found =
    in_params (with_name scope p.name just_a_name) ps (noted_where (has scope p.name) (in_ty scope p.ty found) (place_of_ty p.ty) cause.Twice)

abbrev pub in_alias : Scope → Alias → Found → Found
in_alias scope a found = in_clauses clause_context scope (place_of_ty a.ty) a.variable a.clauses (in_ty scope a.ty found)

-- a function whose parameters are in scope: its result, its contract and its body
abbrev pub inside_function : Scope → Function → Found → Found
inside_function scope f found =
    in_stmts (routine_context true true false) scope f.body
    (in_clauses (routine_context true true true) scope (place_of_ty f.result) f.result_name f.postconditions
    (in_exprs (routine_context true true true) scope (exprs_of f.preconditions) (in_ty scope f.result found)))

abbrev pub in_function : Scope → Function → Found → Found
in_function scope f found = inside_function (with_params scope f.params) f (in_params scope f.params found)

-- the result and the contract of a method whose parameters are in scope
abbrev pub in_outcome_of : Scope → Option (Ty × Option (List ℕ)) → List Expr → List Expr → Found → Found
in_outcome_of scope None preconditions postconditions found =
    in_exprs (routine_context false false true) scope (exprs_of postconditions)
    (in_exprs (routine_context false false true) scope (exprs_of preconditions) found)
in_outcome_of scope (Some r) preconditions postconditions found =
    in_clauses (routine_context false true true) scope (place_of_ty r.0) r.1 postconditions
    (in_exprs (routine_context false true true) scope (exprs_of preconditions) (in_ty scope r.0 found))

abbrev pub in_outcome : Scope → Method → Found → Found
in_outcome scope m found = in_outcome_of scope m.result m.preconditions m.postconditions found

abbrev pub inside_method : Scope → Method → Found → Found
inside_method scope m found = in_stmts (routine_context false (is_some m.result) false) scope m.body (in_outcome scope m found)

abbrev pub in_method : Scope → Method → Found → Found
in_method scope m found = inside_method (with_params scope m.params) m (in_params scope m.params found)

abbrev pub in_property : Scope → Property → Found → Found
in_property scope p found = in_exprs clause_context (with_params scope p.params) (exprs_of p.clauses) (in_params scope p.params found)

abbrev pub in_decl : Scope → Decl → Found → Found
in_decl scope (AliasDecl a) found = in_alias scope a found
in_decl scope (FunctionDecl f) found = in_function scope f found
in_decl scope (MethodDecl m) found = in_method scope m found
in_decl scope (PropertyDecl p) found = in_property scope p found

-- the fault to be given, of those found before and those of the declarations, all of whose names are in scope
abbrev pub in_decls : Scope → List Decl → Found → Found
in_decls scope [] found = found
in_decls scope (d ∷ ds) found = in_decls scope ds (in_decl scope d found)

-- what the nodes stand for
abbrev pub seen_alias : rust_alias.Alias → Alias
seen_alias a = record { at = a.at; name = a.name; ty = seen_ty a.ty; variable = a.variable; clauses = seen_exprs a.clauses }

abbrev pub seen_function : rust_function.Function → Function
seen_function f = record {
  at = f.at;
  name = f.name;
  params = map seen_param f.params;
  result = seen_ty f.result;
  result_name = f.result_name;
  preconditions = seen_exprs f.preconditions;
  postconditions = seen_exprs f.postconditions;
  body = seen_block f.body;
}

abbrev pub seen_method : rust_method.Method → Method
seen_method m = record {
  at = m.at;
  name = m.name;
  params = map seen_param m.params;
  result = seen_result m.result;
  preconditions = seen_exprs m.preconditions;
  postconditions = seen_exprs m.postconditions;
  body = seen_block m.body;
}

abbrev pub seen_property : rust_property.Property → Property
seen_property p = record { at = p.at; name = p.name; params = map seen_param p.params; clauses = seen_exprs p.clauses }
