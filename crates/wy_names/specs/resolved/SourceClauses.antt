-- Which lists of a program as it is written have a member.
use Rattle.std.specs.Prelude.{List, [], ◌∷◌}
use Rattle.wy_ast.specs.SurfaceTree.{Expr, Decl, AliasDecl, FunctionDecl, MethodDecl, PropertyDecl}

abbrev pub HasOne : List Expr → Type 0
HasOne [] = ⊥
HasOne (e ∷ es) = Unit {0}

abbrev pub OwnClauses : Decl → Type 0
OwnClauses (AliasDecl a) = Unit {0}
OwnClauses (FunctionDecl f) = Unit {0}
OwnClauses (MethodDecl m) = Unit {0}
OwnClauses (PropertyDecl p) = HasOne p.clauses

-- each property has a clause, as of each program that was read from a text
abbrev pub HaveClauses : List Decl → Type 0
HaveClauses [] = Unit {0}
HaveClauses (d ∷ ds) = OwnClauses d × HaveClauses ds
