-- Variables of quantifiers and declared ones in the functions and methods of a program without a fault of names.
use Rattle.std.proofs.Common.{◌≡◌, ◌<◌, ◌≤◌, ◌⊎◌, inl, inr, ℕ, true, false, List, [], ◌∷◌, length, Option, Some, None, is_some, refl, sym, subst, arith}
use Rattle.wy_ast.specs.SurfaceTree as surface
use Rattle.wy_ast.specs.SurfaceTree.{Decl, AliasDecl, FunctionDecl, MethodDecl, PropertyDecl, exprs_of}
use Rattle.wy_core.specs.CoreTree as core
use Rattle.wy_core.specs.CoreTree.{routines_of, stmts_of}
use Rattle.wy_lemmas.proofs.Choices.{either}
use Rattle.wy_names_scope.specs.Declarations.{declared as all_declared}
use Rattle.wy_names_scope.specs.Faults.{Found}
use Rattle.wy_names_scope.specs.Places.{place_of_ty}
use Rattle.wy_names_scope.specs.Scope.{Scope}
use Rattle.wy_names_recursion.specs.declared.context.Context.{Context}
use Rattle.wy_names_recursion.specs.TypeNames as types
use Rattle.wy_names_recursion.specs.ExprNames as exprs
use Rattle.wy_names_recursion.specs.StmtNames as stmts
use Rattle.wy_names_recursion.specs.DeclNames as bind
use Rattle.wy_names_recursion.specs.DeclNames.{routine_context}
use Rattle.wy_names_expand.specs.declared.measure.Expansion.{Expansion}
use Rattle.wy_names.specs.wy_names_lower.Variables.{Variables, declared, named}
use Rattle.wy_names.specs.wy_names_lower.Uses.{Template}
use Rattle.wy_names.specs.wy_names_lower.Templates.{params_scope, params_named, templates}
use Rattle.wy_names.specs.wy_names_lower.StmtsLowered.{in_clauses, in_stmts}
use Rattle.wy_names.specs.wy_names_lower.DeclsLowered.{in_params, result_clauses, after, function_parts, method_parts, in_decls}
use Rattle.wy_core.specs.formed.Offers.{Offers}
use Rattle.wy_core.specs.formed.Bound as formed
use Rattle.wy_core.specs.formed.Bound.{with_params}
use Rattle.wy_names.specs.Named.{scope_of, expansions_of}
use Rattle.wy_names.proofs.resolved_lemmas.ScopeLemmas.{erased, Leads}
use Rattle.wy_names.proofs.resolved_lemmas.GrowLemmas.{through, length_named, grows_clauses}
use Rattle.wy_names.proofs.resolved_lemmas.DeclLemmas.{before_decls, grows_params, same_params, params_erased, params_lead, grows_named_clauses}
use Rattle.wy_names.proofs.resolved_lemmas.OfferLemmas.{offered, scope_leads, scope_plain, templates_lead}
use Rattle.wy_names.proofs.resolved_lemmas.ResolvedCoreLemmas.{nothing_bound}
use Rattle.wy_gen_sources.specs.code.Dead.{CountsStmts, DeclaresIn, IsParam, OwnCounters}
use Rattle.wy_gen_sources.specs.programs.NamedCounters.{NamedCountersAreOwn}
use Rattle.wy_gen_sources.proofs.programs_lemmas.StmtLemmas.{Lead, lead_later, own_stmts}

-- the numbers of parameters
params_range : (s : Scope) (names : Variables) (ps : List surface.Param) (x : ℕ) → IsParam (in_params s names ps) x → x < length (params_named names ps)
params_range s names [] x h = absurd h
params_range s names (p ∷ ps) x (inl e) = let one = length_named names p.name in let more = grows_params (named names p.name) ps in omega (arith, e, one, more)
params_range s names (p ∷ ps) x (inr h) = params_range (declared s names p.name) (named names p.name) ps x h

module _ (o : Offers) (ts : List Template) where
  -- the variables behind the contract
  grows_result : (s : Scope) (names : Variables) (r : Option (surface.Ty × Option (List ℕ))) (es : List surface.Expr) → length names ≤ length (result_clauses ts s names r es).0
  grows_result s names None es = grows_clauses ts s names es
  grows_result s names (Some r) es = grows_named_clauses o ts s names r.1 es

  params_lead_all : (s : Scope) → Leads o ts [] s → (ps : List surface.Param) → Lead o ts (length (params_named [] ps)) (params_scope s [] ps)
  params_lead_all s l ps = subst (λ (vs : formed.Scope). Leads o ts vs (params_scope s [] ps)) (same_params s [] ps) (params_lead o ts s [] l [] ps)

  -- the variables behind the preconditions
  abbrev lowered : Scope → List surface.Param → List surface.Expr → Variables
  lowered s ps pre = (in_clauses ts (params_scope s [] ps) (params_named [] ps) pre).0

  -- behind parameters and a contract no variable of a quantifier in the body is declared
  body_own : (d : Context) (b s : Scope) → b ≡ erased s → Leads o ts [] s → (ps : List surface.Param) (pre post : List surface.Expr) (r : Option (surface.Ty × Option (List ℕ))) (body : surface.Stmts) (found : Found)
      → stmts.in_stmts d (bind.with_params b ps) body found ≡ None
      → (z : Variables) → z ≡ (result_clauses ts (params_scope s [] ps) (lowered s ps pre) r post).0
      → (x : ℕ) → CountsStmts (stmts_of (in_stmts ts (params_scope s [] ps) z body).1) x → IsParam (in_params s [] ps) x ⊎ DeclaresIn (stmts_of (in_stmts ts (params_scope s [] ps) z body).1) x → ⊥
  body_own d b s h l ps pre post r body found k z is x counts declares =
      let s2 : Scope = params_scope s [] ps in
      let names : Variables = params_named [] ps in
      let y : Variables = lowered s ps pre in
      let to_y : length names ≤ length y = grows_clauses ts s2 names pre in
      let to_z : length y ≤ length z = subst (λ (q : Variables). length y ≤ length q) (sym is) (grows_result s2 y r post) in
      let p = own_stmts o ts d (bind.with_params b ps) s2 (params_erased b s h [] ps) body found k z (lead_later o ts (length names) (length z) s2 (through to_y to_z) (params_lead_all s l ps)) in
      either (λ q. let low = (p.counted x counts).0 in let high = params_range s [] ps x q in absurd (omega (arith, low, high, to_y, to_z))) (λ q. p.own x counts q) declares

  own_decls : (b s : Scope) → b ≡ erased s → Leads o ts [] s → (ds : List Decl) (found : Found) → bind.in_decls b ds found ≡ None → OwnCounters (routines_of (in_decls ts s ds))
  own_decls b s h l [] found k = tt
  own_decls b s h l (AliasDecl a ∷ ds) found k = own_decls b s h l ds (bind.in_decl b (AliasDecl a) found) k
  own_decls b s h l (FunctionDecl f ∷ ds) found k =
      let b2 : Scope = bind.with_params b f.params in
      let two : Found = types.in_ty b2 f.result (bind.in_params b f.params found) in
      let three : Found = exprs.in_exprs (routine_context true true true) b2 (exprs_of f.preconditions) two in
      let four : Found = bind.in_clauses (routine_context true true true) b2 (place_of_ty f.result) f.result_name f.postconditions three in (
        body_own (routine_context true true false) b s h l f.params f.preconditions f.postconditions (Some (f.result, f.result_name)) f.body four (before_decls b ds (bind.in_decl b (FunctionDecl f) found) k) (after ts s (function_parts f)).0 refl,
        own_decls b s h l ds (bind.in_decl b (FunctionDecl f) found) k,
      )
  own_decls b s h l (MethodDecl m ∷ ds) found k =
      let b2 : Scope = bind.with_params b m.params in
      let four : Found = bind.in_outcome b2 m (bind.in_params b m.params found) in (
        body_own (routine_context false (is_some m.result) false) b s h l m.params m.preconditions m.postconditions m.result m.body four (before_decls b ds (bind.in_decl b (MethodDecl m) found) k) (after ts s (method_parts m)).0 refl,
        own_decls b s h l ds (bind.in_decl b (MethodDecl m) found) k,
      )
  own_decls b s h l (PropertyDecl p ∷ ds) found k = own_decls b s h l ds (bind.in_decl b (PropertyDecl p) found) k

core_own : (ds : List Decl) (x : List Expansion) (order : List ℕ) → bind.in_decls (scope_of ds) ds (all_declared ds).1 ≡ None → OwnCounters (routines_of (in_decls (templates (scope_of ds) ds x order) (scope_of ds) ds))
core_own ds x order k =
    let ts : List Template = templates (scope_of ds) ds x order in
    own_decls (offered ds) ts (scope_of ds) (scope_of ds) (scope_plain ds) (scope_leads ts ds (templates_lead ds (all_declared ds).1 k x order)) ds (all_declared ds).1 k

pub named_own : NamedCountersAreOwn
named_own ds c h = subst (λ (z : core.Core ℕ). OwnCounters (routines_of z)) (sym h.core) (core_own ds (expansions_of ds h.order) h.order (nothing_bound ds h.order h.faultless))
