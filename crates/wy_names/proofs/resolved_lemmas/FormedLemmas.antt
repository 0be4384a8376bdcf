-- What holds of each whole expression of a program, part by part.
use Rattle.std.proofs.Common.{◌<◌, ℕ, List, [], ◌∷◌, length, Option, Some, None, arith}
use Rattle.wy_ast.specs.SurfaceTree as surface
use Rattle.wy_core.specs.CoreTree.{Expr, Exprs, NoExprs, MoreExprs, Step, IndexStep, FieldStep, Stmt, Stmts, DeclareStmt, AssignStmt, CallStmt, ReturnStmt, AssertStmt, BreakStmt, ContinueStmt, SkipStmt, FailStmt, IfStmt, WhileStmt, NoStmts, MoreStmts, AliasDecl, RoutineDecl, Core}
use Rattle.wy_core.specs.CoreSeen.{seen_core}
use Rattle.wy_core.specs.declared.declarations.Core as rust
use Rattle.wy_core.specs.formed.Formed.{Formed}
use Rattle.wy_core.specs.formed.Sizes.{IsSmall}
use Rattle.wy_core.specs.formed.Wholes.{IsQuiet, EachArgument, EachClause, EachOption, EachIndex, EachWhole, EachWholeIn, Wholes}
use Rattle.wy_names.specs.Named.{IsNamed}
use Rattle.wy_names.specs.resolved.SourceLiterals.{SourceInts}
use Rattle.wy_names.proofs.resolved_lemmas.CallDeclLemmas.{named_calls_well}
use Rattle.wy_names.proofs.resolved_lemmas.ResolvedCoreLemmas.{named_bound, named_few}
use Rattle.wy_names.proofs.resolved_lemmas.LiteralLemmas.{named_ints_alone}
use Rattle.wy_names.proofs.resolved_lemmas.RecursionLemmas.{named_recurs_well}
use Rattle.wy_names.specs.resolved.SourceClauses.{HaveClauses}
use Rattle.wy_names.proofs.resolved_lemmas.WholeLemmas.{Well}
use Rattle.wy_names.proofs.resolved_lemmas.SizedDeclLemmas.{named_core_well}

module _ (P Q : Expr ℕ → Type 0) (f : (e : Expr ℕ) → P e → Q e) where
  arguments : (es : Exprs ℕ) → EachArgument P es → EachArgument Q es
  arguments NoExprs h = tt
  arguments (MoreExprs e rest) h = (f e h.0, arguments rest h.1)

  clauses : (es : List (Expr ℕ)) → EachClause P es → EachClause Q es
  clauses [] h = tt
  clauses (e ∷ es) h = (f e h.0, clauses es h.1)

  option : (e : Option (Expr ℕ)) → EachOption P e → EachOption Q e
  option None h = tt
  option (Some e) h = f e h

  indices : (xs : List (Step ℕ)) → EachIndex P xs → EachIndex Q xs
  indices [] h = tt
  indices (IndexStep at e ∷ xs) h = (f e h.0, indices xs h.1)
  indices (FieldStep at name ∷ xs) h = indices xs h

  mutual
    stmt : (x : Stmt ℕ) → EachWhole P x → EachWhole Q x
    stmt (DeclareStmt at t v value) h = option value h
    stmt (AssignStmt at v path value) h = (indices path h.0, f value h.1)
    stmt (CallStmt at routine args) h = arguments args h
    stmt (ReturnStmt at value) h = option value h
    stmt (AssertStmt at test) h = f test h
    stmt (BreakStmt at) h = tt
    stmt (ContinueStmt at) h = tt
    stmt (SkipStmt at) h = tt
    stmt (FailStmt at) h = tt
    stmt (IfStmt at test first second) h = (f test h.0, block first h.1, block second h.2)
    stmt (WhileStmt at test invariants body) h = (f test h.0, clauses invariants h.1, block body h.2)

    block : (xs : Stmts ℕ) → EachWholeIn P xs → EachWholeIn Q xs
    block NoStmts h = tt
    block (MoreStmts x rest) h = (stmt x h.0, block rest h.1)

  pub wholes : (core : Core ℕ) → Wholes P core → Wholes Q core
  wholes [] h = tt
  wholes (AliasDecl a ∷ ds) h = (clauses a.clauses h.0, wholes ds h.1)
  wholes (RoutineDecl r ∷ ds) h =
      (record { preconditions = clauses r.preconditions h.0.preconditions; postconditions = clauses r.postconditions h.0.postconditions; body = block r.body h.0.body }, wholes ds h.1)

pub named_small : (ds : List surface.Decl) (c : rust.Core) → HaveClauses ds → IsNamed ds c → Wholes IsSmall (seen_core c)
named_small ds c have h = wholes Well IsSmall (λ (e : Expr ℕ) (w : Well e). w.small) (seen_core c) (named_core_well ds have c h)

pub named_quiet : (ds : List surface.Decl) (c : rust.Core) → HaveClauses ds → IsNamed ds c → Wholes IsQuiet (seen_core c)
named_quiet ds c have h = wholes Well IsQuiet (λ (e : Expr ℕ) (w : Well e). w.quiet) (seen_core c) (named_core_well ds have c h)

pub named_formed : (ds : List surface.Decl) (c : rust.Core) → length ds < 4294967296 → SourceInts ds → HaveClauses ds → IsNamed ds c → Formed (seen_core c)
named_formed ds c few ints have h =
    let less = named_few ds c h in
    record {
      few = omega (arith, few, less);
      bound = named_bound ds c h;
      calls = named_calls_well ds c h;
      quiet = named_quiet ds c have h;
      ints = named_ints_alone ds c ints h;
      recursion = named_recurs_well ds c h;
      small = named_small ds c have h;
    }
