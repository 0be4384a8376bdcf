-- The core of each source is as the law on code asks.
use Rattle.std.proofs.Common.{◌≡◌, List, [], ◌∷◌, Option, Some, None, is_some, ℕ, map, refl}
use Rattle.wy_ast.specs.SurfaceTree.{Expr, Decl, AliasDecl, FunctionDecl, MethodDecl, PropertyDecl}
use Rattle.wy_ast.specs.SurfaceSeen.{seen_decl}
use Rattle.wy_print_laws.specs.spelled_types.SourceVariables.{has_one, HaveOwnVariables}
use Rattle.wy_print_laws.proofs.spelled_types_lemmas.SpelledLemmas.{spelled_variables}
use Rattle.wy_gen_sources.specs.named_programs.NamedPrograms.{SpeaksOf, SourcesName}
use Rattle.wy_gen_sources.proofs.named_programs_lemmas.NamedLemmas.{named_in_order, named_name_theirs}
use Rattle.wy_gen_sources.specs.sourced_code.Cores.{SpelledAreAsCodeAsks}

speaks : (v : Option (List ℕ)) (es : List Expr) → is_some v ≡ has_one es → SpeaksOf v es
speaks None [] h = refl
speaks None (e ∷ es) h = absurd cc
speaks (Some name) es h = tt

all_name : (ds : List Decl) → HaveOwnVariables ds → SourcesName ds
all_name [] h = tt
all_name (AliasDecl a ∷ ds) h = (speaks a.variable a.clauses h.0, all_name ds h.1)
all_name (FunctionDecl f ∷ ds) h = (tt, all_name ds h.1)
all_name (MethodDecl m ∷ ds) h = (tt, all_name ds h.1)
all_name (PropertyDecl p ∷ ds) h = (tt, all_name ds h.1)

pub spelled_as_asked : SpelledAreAsCodeAsks
spelled_as_asked bytes program core s n =
    record {
      order = named_in_order (map seen_decl program.decls) core n;
      theirs = named_name_theirs (map seen_decl program.decls) core (all_name (map seen_decl program.decls) (spelled_variables bytes program s)) n;
    }
