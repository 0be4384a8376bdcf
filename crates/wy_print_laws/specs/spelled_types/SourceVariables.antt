-- Which types of a program as it is written have a variable.
use Rattle.std.specs.Prelude.{◌≡◌, Bool, true, false, List, [], ◌∷◌, is_some}
use Rattle.wy_ast.specs.SurfaceTree.{Expr, Decl, AliasDecl, FunctionDecl, MethodDecl, PropertyDecl}

-- there is a clause
abbrev pub has_one : List Expr → Bool
has_one [] = false
has_one (e ∷ es) = true

-- a type has a variable exactly where it has clauses
abbrev pub OwnVariable : Decl → Type 0
OwnVariable (AliasDecl a) = is_some a.variable ≡ has_one a.clauses
OwnVariable (FunctionDecl f) = Unit {0}
OwnVariable (MethodDecl m) = Unit {0}
OwnVariable (PropertyDecl p) = Unit {0}

-- so does each type of a program, as of each program that was read from a text
abbrev pub HaveOwnVariables : List Decl → Type 0
HaveOwnVariables [] = Unit {0}
HaveOwnVariables (d ∷ ds) = OwnVariable d × HaveOwnVariables ds
