-- Functions and methods of a program with names declare each of their variables once.
use Rattle.std.proofs.Common.{◌≤◌, ℕ, zero, suc, List, [], ◌∷◌, length, Option, Some, None, sym, subst, arith}
use Rattle.wy_ast.specs.SurfaceTree as surface
use Rattle.wy_ast.specs.SurfaceTree.{AliasDecl, FunctionDecl, MethodDecl, PropertyDecl}
use Rattle.wy_core.specs.Types.{Ty}
use Rattle.wy_core.specs.CoreTree as core
use Rattle.wy_core.specs.CoreTree.{routines_of}
use Rattle.wy_sound.proofs.typing_lemmas.PartLemmas.{same_routine}
use Rattle.wy_flow_spec.specs.typing.Programs.{declared_params}
use Rattle.wy_flow_spec.specs.environment.Slots.{put_slot}
use Rattle.wy_names_scope.specs.Scope.{Scope}
use Rattle.wy_names.specs.wy_names_lower.Variables.{Variables, named, declared}
use Rattle.wy_names.specs.wy_names_lower.Uses.{Template}
use Rattle.wy_names.specs.wy_names_lower.TypesLowered.{in_ty}
use Rattle.wy_names.specs.wy_names_lower.Templates.{params_scope, params_named, templates}
use Rattle.wy_names.specs.wy_names_lower.DeclsLowered.{Parts, in_params, before, after, in_routine, result_clauses, name_scope, name_named, in_decls, function_parts, method_parts}
use Rattle.wy_names.specs.Named.{scope_of, expansions_of}
use Rattle.wy_names.proofs.resolved_lemmas.GrowLemmas.{through, length_named, grows_named, grows_clauses}
use Rattle.wy_sound_programs.specs.Once.{OnceRoutine}
use Rattle.wy_sound.specs.typing.Sources.{EachOnce}
use Rattle.wy_sound.specs.sources.Cores.{NamedDeclareOnce}
use Rattle.wy_sound.proofs.sources_lemmas.FreshLemmas.{Free, free_more, free_put, free_empty}
use Rattle.wy_sound.proofs.sources_lemmas.StmtLemmas.{fresh_stmts}

-- ---- parameters

free_params : (s : Scope) (vs : Variables) (ps : List surface.Param) (slots : List (Option Ty)) → Free (length vs) slots → Free (length (params_named vs ps)) (declared_params slots (in_params s vs ps))
free_params s vs [] slots h = h
free_params s vs (p ∷ ps) slots h =
    let e = length_named vs p.name in
    free_params (declared s vs p.name) (named vs p.name) ps (put_slot slots (length vs) (in_ty s p.ty))
    (free_put (length vs) (length vs) (length (named vs p.name)) slots (in_ty s p.ty) (omega (arith, e)) (omega (arith, e)) h)

-- ---- contracts

grows_name : (vs : Variables) (name : Option (List ℕ)) → length vs ≤ length (name_named vs name)
grows_name vs None = omega arith
grows_name vs (Some name) = grows_named vs name

grows_result : (ts : List Template) (s : Scope) (vs : Variables) (res : Option (surface.Ty × Option (List ℕ))) (clauses : List surface.Expr) → length vs ≤ length (result_clauses ts s vs res clauses).0
grows_result ts s vs None clauses = grows_clauses ts s vs clauses
grows_result ts s vs (Some r) clauses = through (grows_name vs r.1) (grows_clauses ts (name_scope s vs r.1) (name_named vs r.1) clauses)

-- ---- functions and methods

routine_once : (ts : List Template) (s : Scope) (p : Parts) → OnceRoutine (in_routine ts s p)
routine_once ts s p =
    let names : Variables = params_named [] p.params in
    let one : length names ≤ length (before ts s p).0 = grows_clauses ts (params_scope s [] p.params) names p.preconditions in
    let two : length (before ts s p).0 ≤ length (after ts s p).0 = grows_result ts (params_scope s [] p.params) (before ts s p).0 p.result p.postconditions in
    let slots : List (Option Ty) = declared_params [] (in_params s [] p.params) in
    let f = fresh_stmts ts (params_scope s [] p.params) (after ts s p).0 p.body in
    f.once slots (free_more (length names) (length (after ts s p).0) slots (through one two) (free_params s [] p.params [] (free_empty 0)))

all_once : (ts : List Template) (s : Scope) (ds : List surface.Decl) → EachOnce (in_decls ts s ds)
all_once ts s [] f r e = absurd cc
all_once ts s (AliasDecl a ∷ ds) f r e = all_once ts s ds f r e
all_once ts s (FunctionDecl g ∷ ds) zero r e = subst OnceRoutine (same_routine (in_routine ts s (function_parts g)) r e) (routine_once ts s (function_parts g))
all_once ts s (FunctionDecl g ∷ ds) (suc f) r e = all_once ts s ds f r e
all_once ts s (MethodDecl m ∷ ds) zero r e = subst OnceRoutine (same_routine (in_routine ts s (method_parts m)) r e) (routine_once ts s (method_parts m))
all_once ts s (MethodDecl m ∷ ds) (suc f) r e = all_once ts s ds f r e
all_once ts s (PropertyDecl p ∷ ds) f r e = all_once ts s ds f r e

pub named_once : NamedDeclareOnce
named_once ds c h =
    let ts : List Template = templates (scope_of ds) ds (expansions_of ds h.order) h.order in
    subst (λ (z : core.Core ℕ). EachOnce z) (sym h.core) (all_once ts (scope_of ds) ds)
