-- Types of a program with names have a variable exactly where they have clauses.
use Rattle.std.proofs.Common.{◌≡◌, ℕ, zero, suc, List, [], ◌∷◌, Option, Some, None, is_some, refl, sym, subst}
use Rattle.wy_ast.specs.SurfaceTree as surface
use Rattle.wy_ast.specs.SurfaceTree.{AliasDecl, FunctionDecl, MethodDecl, PropertyDecl}
use Rattle.wy_core.specs.CoreTree as core
use Rattle.wy_core.specs.CoreTree.{aliases_of}
use Rattle.wy_names_scope.specs.Scope.{Scope}
use Rattle.wy_names.specs.wy_names_lower.Uses.{Template}
use Rattle.wy_names.specs.wy_names_lower.Templates.{templates}
use Rattle.wy_names.specs.wy_names_lower.DeclsLowered.{name_number, named_clauses, in_decls}
use Rattle.wy_names.specs.Named.{scope_of, expansions_of}
use Rattle.wy_sound_programs.specs.wy_sem.TypeTests.{has_clauses}
use Rattle.wy_print_laws.specs.spelled_types.SourceVariables.{has_one, HaveOwnVariables}
use Rattle.wy_sound_types.specs.Tests.{HaveVariables}
use Rattle.wy_sound.specs.sources.Cores.{NamedHaveVariables}

-- the variable is there where clauses are, and so are their cores
own : (ts : List Template) (s : Scope) (v : Option (List ℕ)) (es : List surface.Expr) → is_some v ≡ has_one es → is_some (name_number [] v) ≡ has_clauses (named_clauses ts s [] v es).1
own ts s None [] h = refl
own ts s None (e ∷ es) h = absurd cc
own ts s (Some name) [] h = absurd cc
own ts s (Some name) (e ∷ es) h = refl

all_have : (ts : List Template) (s : Scope) (ds : List surface.Decl) → HaveOwnVariables ds → HaveVariables (aliases_of (in_decls ts s ds))
all_have ts s [] h b = refl
all_have ts s (AliasDecl a ∷ ds) h zero = own ts s a.variable a.clauses h.0
all_have ts s (AliasDecl a ∷ ds) h (suc b) = all_have ts s ds h.1 b
all_have ts s (FunctionDecl f ∷ ds) h b = all_have ts s ds h.1 b
all_have ts s (MethodDecl m ∷ ds) h b = all_have ts s ds h.1 b
all_have ts s (PropertyDecl p ∷ ds) h b = all_have ts s ds h.1 b

pub named_variables : NamedHaveVariables
named_variables ds c source h =
    let ts : List Template = templates (scope_of ds) ds (expansions_of ds h.order) h.order in
    subst (λ (z : core.Core ℕ). HaveVariables (aliases_of z)) (sym h.core) (all_have ts (scope_of ds) ds source)
