-- What a function, a method and a type declaration have, as the nodes say.
use Rattle.std.specs.Prelude.{ℕ, Bool, true, false, List, map, Option, Some, None}
use Rattle.wy_ast.specs.SurfaceTree as surface
use Rattle.wy_ast.specs.SurfaceSeen.{seen_ty, seen_exprs, seen_block, seen_param, seen_result}
use Rattle.wy_ast.specs.declared.declarations.Alias as rust_alias
use Rattle.wy_ast.specs.declared.declarations.Function as rust_function
use Rattle.wy_ast.specs.declared.declarations.Method as rust_method
use Rattle.wy_names_lower.specs.DeclsLowered.{Parts}

abbrev pub seen_alias : rust_alias.Alias → surface.Alias
seen_alias a = record { at = a.at; name = a.name; ty = seen_ty a.ty; variable = a.variable; clauses = seen_exprs a.clauses }

abbrev pub seen_function : rust_function.Function → Parts
seen_function f = record {
  at = f.at;
  name = f.name;
  is_method = false;
  params = map seen_param f.params;
  result = Some (seen_ty f.result, f.result_name);
  preconditions = seen_exprs f.preconditions;
  postconditions = seen_exprs f.postconditions;
  body = seen_block f.body;
}

abbrev pub seen_method : rust_method.Method → Parts
seen_method m = record {
  at = m.at;
  name = m.name;
  is_method = true;
  params = map seen_param m.params;
  result = seen_result m.result;
  preconditions = seen_exprs m.preconditions;
  postconditions = seen_exprs m.postconditions;
  body = seen_block m.body;
}
