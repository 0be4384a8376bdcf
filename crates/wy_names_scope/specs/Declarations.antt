-- The names of a program's declarations. They are in scope everywhere.
use Rattle.std.specs.Prelude.{ℕ, ◌+◌, Bool, true, false, List, [], ◌∷◌, length, codes, None, is_some, if◌then◌else◌}
use Rattle.wy_ast.specs.SurfaceTree.{Decl, AliasDecl, FunctionDecl, MethodDecl, PropertyDecl}
use Rattle.wy_names_scope.specs.declared.declarations.Counts.{Counts}
use Rattle.wy_names_scope.specs.declared.fault.Cause.TheVariants as cause
use Rattle.wy_names_scope.specs.declared.table.Entry.{Entry}
use Rattle.wy_names_scope.specs.declared.table.Entry.TheVariants as entry
use Rattle.wy_names_scope.specs.Faults.{Found, noted_where}
use Rattle.wy_names_scope.specs.Scope.{Scope, has, with_name}

abbrev pub is_routine : Decl → Bool
is_routine (AliasDecl a) = false
is_routine (FunctionDecl f) = true
is_routine (MethodDecl m) = true
is_routine (PropertyDecl p) = false

-- how many functions and methods there are
abbrev pub routine_count : List Decl → ℕ
routine_count [] = 0
routine_count (d ∷ ds) = (if is_routine d then 1 else 0) + routine_count ds

abbrev pub name_of : Decl → List ℕ
name_of (AliasDecl a) = a.name
name_of (FunctionDecl f) = f.name
name_of (MethodDecl m) = m.name
name_of (PropertyDecl p) = p.name

abbrev pub place_of : Decl → ℕ
place_of (AliasDecl a) = a.at
place_of (FunctionDecl f) = f.at
place_of (MethodDecl m) = m.at
place_of (PropertyDecl p) = p.at

-- what the name stands for, behind the declarations counted
abbrev pub entry_of : Decl → Counts → Entry
entry_of (AliasDecl a) n = entry.Type n.types n.decls
entry_of (FunctionDecl f) n = entry.Routine (record { number = n.routines; arity = length f.params; is_method = false; has_result = true })
entry_of (MethodDecl m) n = entry.Routine (record { number = n.routines; arity = length m.params; is_method = true; has_result = is_some m.result })
entry_of (PropertyDecl p) n = entry.Property n.decls (length p.params)

-- the counts with one more declaration
abbrev pub behind : Decl → Counts → Counts
behind (AliasDecl a) n = record { types = n.types + 1; routines = n.routines; decls = n.decls + 1 }
behind (FunctionDecl f) n = record { types = n.types; routines = n.routines + 1; decls = n.decls + 1 }
behind (MethodDecl m) n = record { types = n.types; routines = n.routines + 1; decls = n.decls + 1 }
behind (PropertyDecl p) n = record { types = n.types; routines = n.routines; decls = n.decls + 1 }

-- a built-in method: it takes one value and gives nothing back
abbrev pub builtin : ℕ → Entry
builtin number = entry.Routine (record { number = number; arity = 1; is_method = true; has_result = false })

-- `print` and `print_int`, behind this many functions and methods
abbrev pub builtins : ℕ → Scope
builtins number = (codes "print", builtin number) ∷ (codes "print_int", builtin (number + 1)) ∷ []

-- the scope with the names of more declarations, and the fault: a name that came before is declared twice
abbrev pub declared_behind : Scope → Found → Counts → List Decl → Scope × Found
declared_behind scope found n [] = (scope, found)
declared_behind scope found n (d ∷ ds) =
    declared_behind (with_name scope (name_of d) (entry_of d n)) (noted_where (has scope (name_of d)) found (place_of d) cause.Twice) (behind d n) ds

abbrev pub declared : List Decl → Scope × Found
declared ds = declared_behind (builtins (routine_count ds)) None (record { types = 0; routines = 0; decls = 0 }) ds
