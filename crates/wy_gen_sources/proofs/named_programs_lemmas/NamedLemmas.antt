-- Parameters and clauses of the core of a program with names.
use Rattle.std.proofs.Common.{◌≡◌, ◌<◌, ℕ, zero, suc, List, [], ◌∷◌, length, Option, Some, None, refl, sym, ap, subst, arith, length-append}
use Rattle.wy_ast.specs.SurfaceTree as surface
use Rattle.wy_ast.specs.SurfaceTree.{Decl, AliasDecl, FunctionDecl, MethodDecl, PropertyDecl}
use Rattle.wy_core.specs.CoreTree as tree
use Rattle.wy_core.specs.CoreTree.{Expr, aliases_of, routines_of}
use Rattle.wy_names_scope.specs.Scope.{Scope}
use Rattle.wy_names.specs.wy_names_lower.Variables.{Variables, named, declared}
use Rattle.wy_names.specs.wy_names_lower.Uses.{Template}
use Rattle.wy_names.specs.wy_names_lower.Templates.{templates}
use Rattle.wy_names.specs.wy_names_lower.DeclsLowered.{name_number, named_clauses, in_params, in_decls}
use Rattle.wy_names.specs.Named.{scope_of, expansions_of}
use Rattle.wy_gen_laws.specs.wy_sem.TypeTests.{alias_at}
use Rattle.wy_gen_laws.specs.statements.Routines.{InOrder}
use Rattle.wy_gen_laws.specs.tests.Tested.{NamesIts, ClausesNameTheirs}
use Rattle.wy_gen_laws.specs.programs.Programs.{AllInOrder}
use Rattle.wy_gen_sources.specs.named_programs.NamedPrograms.{SpeaksOf, SourcesName, NamedAreInOrder, NamedNameTheirs}

-- ---- parameters

one_longer : (vs : Variables) (name : List ℕ) → length (named vs name) ≡ suc (length vs)
one_longer vs name = let h = length-append vs (name ∷ []) in omega (arith, h)

in_order : (s : Scope) (vs : Variables) (ps : List surface.Param) → InOrder (length vs) (in_params s vs ps)
in_order s vs [] = tt
in_order s vs (p ∷ ps) =
    (refl, subst (λ (k : ℕ). InOrder k (in_params (declared s vs p.name) (named vs p.name) ps)) (one_longer vs p.name) (in_order (declared s vs p.name) (named vs p.name) ps))

all_in_order : (ts : List Template) (s : Scope) (ds : List Decl) → AllInOrder (routines_of (in_decls ts s ds))
all_in_order ts s [] = tt
all_in_order ts s (AliasDecl a ∷ ds) = all_in_order ts s ds
all_in_order ts s (FunctionDecl f ∷ ds) = (in_order s [] f.params, all_in_order ts s ds)
all_in_order ts s (MethodDecl m ∷ ds) = (in_order s [] m.params, all_in_order ts s ds)
all_in_order ts s (PropertyDecl p ∷ ds) = all_in_order ts s ds

-- ---- clauses

clauses_name : (ts : List Template) (s : Scope) (v : Option (List ℕ)) (es : List surface.Expr) → SpeaksOf v es → NamesIts (name_number [] v) (named_clauses ts s [] v es).1
clauses_name ts s None es h = ap (λ (xs : List surface.Expr). (named_clauses ts s [] None xs).1) h
clauses_name ts s (Some name) es h = tt

all_name : (ts : List Template) (s : Scope) (ds : List Decl) → SourcesName ds → (n : ℕ) → n < length (aliases_of (in_decls ts s ds)) → NamesIts (alias_at (aliases_of (in_decls ts s ds)) n).variable (alias_at (aliases_of (in_decls ts s ds)) n).clauses
all_name ts s [] h n less = absurd (omega (arith, less))
all_name ts s (AliasDecl a ∷ ds) h zero less = clauses_name ts s a.variable a.clauses h.0
all_name ts s (AliasDecl a ∷ ds) h (suc n) less = all_name ts s ds h.1 n (omega (arith, less))
all_name ts s (FunctionDecl f ∷ ds) h n less = all_name ts s ds h.1 n less
all_name ts s (MethodDecl m ∷ ds) h n less = all_name ts s ds h.1 n less
all_name ts s (PropertyDecl p ∷ ds) h n less = all_name ts s ds h.1 n less

-- ---- the core

pub named_in_order : NamedAreInOrder
named_in_order ds c h =
    let ts : List Template = templates (scope_of ds) ds (expansions_of ds h.order) h.order in
    subst (λ (z : tree.Core ℕ). AllInOrder (routines_of z)) (sym h.core) (all_in_order ts (scope_of ds) ds)

pub named_name_theirs : NamedNameTheirs
named_name_theirs ds c source h =
    let ts : List Template = templates (scope_of ds) ds (expansions_of ds h.order) h.order in
    subst (λ (z : tree.Core ℕ). ClausesNameTheirs z) (sym h.core) (all_name ts (scope_of ds) ds source)
