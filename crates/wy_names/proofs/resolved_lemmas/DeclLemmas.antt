-- The declarations of a program without a fault of names are bound.
use Rattle.std.proofs.Common.{◌≡◌, ◌∙◌, ◌≤◌, ℕ, zero, suc, ◌+◌, Bool, true, false, List, [], ◌∷◌, length, drop, Option, Some, None, is_some, refl, sym, ap, subst, arith}
use Rattle.wy_ast.specs.SurfaceTree as surface
use Rattle.wy_ast.specs.SurfaceTree.{exprs_of}
use Rattle.wy_core.specs.CoreTree.{Decl, stmts_of}
use Rattle.wy_names_scope.specs.declared.fault.Cause.TheVariants as cause
use Rattle.wy_names_scope.specs.Faults.{Found, noted_where}
use Rattle.wy_names_scope.specs.Places.{place_of_ty}
use Rattle.wy_names_scope.specs.Scope.{Scope, has, with_name}
use Rattle.wy_names_recursion.specs.declared.context.Context.{Context}
use Rattle.wy_names_recursion.specs.TypeNames as types
use Rattle.wy_names_recursion.specs.TypeNames.{just_a_name}
use Rattle.wy_names_recursion.specs.ExprNames as exprs
use Rattle.wy_names_recursion.specs.StmtNames as stmts
use Rattle.wy_names_recursion.specs.DeclNames as bind
use Rattle.wy_names_recursion.specs.DeclNames.{clause_context, routine_context}
use Rattle.wy_names_lower.specs.Variables.{Variables, declared, named}
use Rattle.wy_names_lower.specs.Uses.{Template}
use Rattle.wy_names_lower.specs.Templates.{params_scope, params_named, clauses_of, template}
use Rattle.wy_names_lower.specs.DeclsLowered.{name_number, named_clauses, in_alias, in_params, Parts, before, after, block, in_routine, function_parts, in_decl, with_first, in_decls}
use Rattle.wy_core.specs.formed.Offers.{Offers}
use Rattle.wy_core.specs.formed.Bound as formed
use Rattle.wy_core.specs.formed.Bound.{BoundClauses, BoundParams, IsNewOption, with_option, with_params, Around, BoundStmts, BoundAlias, BoundRoutine, BoundDecls}
use Rattle.wy_names.proofs.resolved_lemmas.NotedLemmas.{noted_none}
use Rattle.wy_names.proofs.resolved_lemmas.BindLemmas.{before_ty, before_exprs, before_stmts}
use Rattle.wy_names.proofs.resolved_lemmas.ScopeLemmas.{erased, erased_more, below, TemplateLeads, Leads, leads_more, Below, below_none, below_later, below_more, is_new}
use Rattle.wy_names.proofs.resolved_lemmas.GrowLemmas.{through, length_named, grows_named, grows_clauses, grows_stmts}
use Rattle.wy_names.proofs.resolved_lemmas.TypeLemmas.{bound_ty}
use Rattle.wy_names.proofs.resolved_lemmas.ExprLemmas.{bound_exprs}
use Rattle.wy_names.proofs.resolved_lemmas.StmtLemmas.{around, bound_stmts}

-- ---- nothing was found before

pub before_named : (c : Context) (b : Scope) (at : ℕ) (name : Option (List ℕ)) (es : List surface.Expr) (found : Found) → bind.in_clauses c b at name es found ≡ None → found ≡ None
before_named c b at None es found k = before_exprs c b (exprs_of es) found k
before_named c b at (Some name) es found k =
    (noted_none (has b name) found at cause.Twice (before_exprs c (with_name b name just_a_name) (exprs_of es) (noted_where (has b name) found at cause.Twice) k)).0

pub before_params : (b : Scope) (ps : List surface.Param) (found : Found) → bind.in_params b ps found ≡ None → found ≡ None
before_params b [] found k = k
before_params b (p ∷ ps) found k =
    before_ty b p.ty found
    (noted_none (has b p.name) (types.in_ty b p.ty found) (place_of_ty p.ty) cause.Twice
    (before_params (with_name b p.name just_a_name) ps (noted_where (has b p.name) (types.in_ty b p.ty found) (place_of_ty p.ty) cause.Twice) k)).0

-- the same behind the type of the first
param_ty : (b : Scope) (p : surface.Param) (ps : List surface.Param) (found : Found) → bind.in_params b (p ∷ ps) found ≡ None → types.in_ty b p.ty found ≡ None
param_ty b p ps found k =
    (noted_none (has b p.name) (types.in_ty b p.ty found) (place_of_ty p.ty) cause.Twice
    (before_params (with_name b p.name just_a_name) ps (noted_where (has b p.name) (types.in_ty b p.ty found) (place_of_ty p.ty) cause.Twice) k)).0

pub before_result : (c : Context) (b : Scope) (r : Option (surface.Ty × Option (List ℕ))) (pre post : List surface.Expr) (found : Found) → bind.in_outcome_of b r pre post found ≡ None → found ≡ None
before_result c b None pre post found k =
    before_exprs (routine_context false false true) b (exprs_of pre) found
    (before_exprs (routine_context false false true) b (exprs_of post) (exprs.in_exprs (routine_context false false true) b (exprs_of pre) found) k)
before_result c b (Some r) pre post found k =
    before_ty b r.0 found
    (before_exprs (routine_context false true true) b (exprs_of pre) (types.in_ty b r.0 found)
    (before_named (routine_context false true true) b (place_of_ty r.0) r.1 post (exprs.in_exprs (routine_context false true true) b (exprs_of pre) (types.in_ty b r.0 found)) k))

pub before_decl : (b : Scope) (d : surface.Decl) (found : Found) → bind.in_decl b d found ≡ None → found ≡ None
before_decl b (surface.AliasDecl a) found k = before_ty b a.ty found (before_named clause_context b (place_of_ty a.ty) a.variable a.clauses (types.in_ty b a.ty found) k)
before_decl b (surface.FunctionDecl f) found k =
    let b2 : Scope = bind.with_params b f.params in
    let c : Context = routine_context true true true in
    let one : Found = bind.in_params b f.params found in
    let two : Found = types.in_ty b2 f.result one in
    let three : Found = exprs.in_exprs c b2 (exprs_of f.preconditions) two in
    let four : Found = bind.in_clauses c b2 (place_of_ty f.result) f.result_name f.postconditions three in
    before_params b f.params found
    (before_ty b2 f.result one (before_exprs c b2 (exprs_of f.preconditions) two (before_named c b2 (place_of_ty f.result) f.result_name f.postconditions three (before_stmts (routine_context true true false) b2 f.body four k))))
before_decl b (surface.MethodDecl m) found k =
    let b2 : Scope = bind.with_params b m.params in
    let one : Found = bind.in_params b m.params found in
    let four : Found = bind.in_outcome b2 m one in
    before_params b m.params found
    (before_result clause_context b2 m.result m.preconditions m.postconditions one (before_stmts (routine_context false (is_some m.result) false) b2 m.body four k))
before_decl b (surface.PropertyDecl p) found k = before_params b p.params found (before_exprs clause_context (bind.with_params b p.params) (exprs_of p.clauses) (bind.in_params b p.params found) k)

pub before_decls : (b : Scope) (ds : List surface.Decl) (found : Found) → bind.in_decls b ds found ≡ None → found ≡ None
before_decls b [] found k = k
before_decls b (d ∷ ds) found k = before_decl b d found (before_decls b ds (bind.in_decl b d found) k)

-- ---- parameters

pub grows_params : (names : Variables) (ps : List surface.Param) → length names ≤ length (params_named names ps)
grows_params names [] = omega arith
grows_params names (p ∷ ps) = through (grows_named names p.name) (grows_params (named names p.name) ps)

pub length_params : (names : Variables) (ps : List surface.Param) → length (params_named names ps) ≡ length names + length ps
length_params names [] = omega arith
length_params names (p ∷ ps) =
    let one = length_named names p.name in let rest = length_params (named names p.name) ps in omega (arith, one, rest)

-- the variables in scope behind parameters are the first ones
pub same_params : (s : Scope) (names : Variables) (ps : List surface.Param) → with_params (below (length names)) (in_params s names ps) ≡ below (length (params_named names ps))
same_params s names [] = refl
same_params s names (p ∷ ps) =
    let one : length (named names p.name) ≡ suc (length names) = let e = length_named names p.name in omega (arith, e) in
    ap (λ (vs : formed.Scope). with_params vs (in_params (declared s names p.name) (named names p.name) ps)) (sym (ap below one)) ∙ same_params (declared s names p.name) (named names p.name) ps

pub params_erased : (b s : Scope) → b ≡ erased s → (names : Variables) (ps : List surface.Param) → bind.with_params b ps ≡ erased (params_scope s names ps)
params_erased b s h names [] = h
params_erased b s h names (p ∷ ps) = params_erased (with_name b p.name just_a_name) (declared s names p.name) (erased_more b s p.name (length names) h) (named names p.name) ps

params_below : (s : Scope) (vs : formed.Scope) (names : Variables) (ps : List surface.Param) → Below vs (length names) → Below (with_params vs (in_params s names ps)) (length (params_named names ps))
params_below s vs names [] low = low
params_below s vs names (p ∷ ps) low =
    let one = length_named names p.name in
    params_below (declared s names p.name) (length names ∷ vs) (named names p.name) ps (below_more (length names) low (omega (arith, one)) (omega (arith, one)))

module _ (o : Offers) (ts : List Template) where
  pub params_lead : (s : Scope) (vs : formed.Scope) → Leads o ts vs s → (names : Variables) (ps : List surface.Param) → Leads o ts (with_params vs (in_params s names ps)) (params_scope s names ps)
  params_lead s vs l names [] = l
  params_lead s vs l names (p ∷ ps) = params_lead (declared s names p.name) (length names ∷ vs) (leads_more o ts vs s p.name (length names) l) (named names p.name) ps

  bound_params : (b s : Scope) → b ≡ erased s → (vs : formed.Scope) → Leads o ts vs s → (ps : List surface.Param) (found : Found) → bind.in_params b ps found ≡ None
      → (names : Variables) → Below vs (length names) → (m : ℕ) → length (params_named names ps) ≤ m → BoundParams o m vs (in_params s names ps)
  bound_params b s h vs l [] found k names low m le = tt
  bound_params b s h vs l (p ∷ ps) found k names low m le =
      let one = length_named names p.name in
      let grown = grows_params (named names p.name) ps in (
        bound_ty o ts vs b s h l p.ty found (param_ty b p ps found k),
        is_new m low (omega (arith, one, grown, le)),
        bound_params (with_name b p.name just_a_name) (declared s names p.name) (erased_more b s p.name (length names) h) (length names ∷ vs) (leads_more o ts vs s p.name (length names) l) ps
            (noted_where (has b p.name) (types.in_ty b p.ty found) (place_of_ty p.ty) cause.Twice) k (named names p.name) (below_more (length names) low (omega (arith, one)) (omega (arith, one))) m le,
      )

  -- ---- clauses behind a variable that may be named

  pub grows_named_clauses : (s : Scope) (names : Variables) (name : Option (List ℕ)) (es : List surface.Expr) → length names ≤ length (named_clauses ts s names name es).0
  grows_named_clauses s names None es = grows_clauses ts s names es
  grows_named_clauses s names (Some name) es = through (grows_named names name) (grows_clauses ts (declared s names name) (named names name) es)

  named_new : (vs : formed.Scope) (s : Scope) (names : Variables) (name : Option (List ℕ)) (es : List surface.Expr) → Below vs (length names) → (m : ℕ) → length (named_clauses ts s names name es).0 ≤ m
      → IsNewOption m vs (name_number names name)
  named_new vs s names None es low m le = tt
  named_new vs s names (Some name) es low m le =
      let one = length_named names name in let grown = grows_clauses ts (declared s names name) (named names name) es in is_new m low (omega (arith, one, grown, le))

  named_bound : (c : Context) (b s : Scope) → b ≡ erased s → (vs : formed.Scope) → Leads o ts vs s → (at : ℕ) (name : Option (List ℕ)) (es : List surface.Expr) (found : Found)
      → bind.in_clauses c b at name es found ≡ None → (names : Variables) → Below vs (length names) → (m : ℕ) → length (named_clauses ts s names name es).0 ≤ m
      → BoundClauses o m (with_option vs (name_number names name)) (named_clauses ts s names name es).1
  named_bound c b s h vs l at None es found k names low m le = bound_exprs o ts c b s h vs l (exprs_of es) found k names low m le
  named_bound c b s h vs l at (Some name) es found k names low m le =
      let one = length_named names name in
      bound_exprs o ts c (with_name b name just_a_name) (declared s names name) (erased_more b s name (length names) h) (length names ∷ vs) (leads_more o ts vs s name (length names) l) (exprs_of es)
      (noted_where (has b name) found at cause.Twice) k (named names name) (below_more (length names) low (omega (arith, one)) (omega (arith, one))) m le

  -- ---- declarations

  alias_bound : (b s : Scope) → b ≡ erased s → Leads o ts [] s → (a : surface.Alias) (found : Found) → bind.in_alias b a found ≡ None → BoundAlias o (in_alias ts s a)
  alias_bound b s h l a found k =
      let typed : Found = types.in_ty b a.ty found in
      let m : ℕ = length (named_clauses ts s [] a.variable a.clauses).0 in
      record {
        ty = bound_ty o ts [] b s h l a.ty found (before_named clause_context b (place_of_ty a.ty) a.variable a.clauses typed k);
        variable = named_new [] s [] a.variable a.clauses (below_none 0) m (omega arith);
        clauses = named_bound clause_context b s h [] l (place_of_ty a.ty) a.variable a.clauses typed k [] (below_none 0) m (omega arith);
      }

  -- with a result: the contract in the first context, the body in the second
  with_result : (c d : Context) (b s : Scope) → b ≡ erased s → Leads o ts [] s → (at : ℕ) (own : List ℕ) (is_method : Bool) (ps : List surface.Param) (t : surface.Ty) (name : Option (List ℕ)) (pre post : List surface.Expr)
      (body : surface.Stmts) (found : Found) → around d ≡ record { in_loop = false; has_result = true }
      → stmts.in_stmts d (bind.with_params b ps) body
      (bind.in_clauses c (bind.with_params b ps) (place_of_ty t) name post
      (exprs.in_exprs c (bind.with_params b ps) (exprs_of pre) (types.in_ty (bind.with_params b ps) t (bind.in_params b ps found))))
      ≡ None
      → BoundRoutine o (in_routine ts s (record { at = at; name = own; is_method = is_method; params = ps; result = Some (t, name); preconditions = pre; postconditions = post; body = body }))
  with_result c d b s h l at own is_method ps t name pre post body found a k =
      let p : Parts = record { at = at; name = own; is_method = is_method; params = ps; result = Some (t, name); preconditions = pre; postconditions = post; body = body } in
      let b2 : Scope = bind.with_params b ps in
      let s2 : Scope = params_scope s [] ps in
      let h2 : b2 ≡ erased s2 = params_erased b s h [] ps in
      let vs : formed.Scope = with_params [] (in_params s [] ps) in
      let l2 : Leads o ts vs s2 = params_lead s [] l [] ps in
      let x : Variables = params_named [] ps in
      let y : Variables = (before ts s p).0 in
      let z : Variables = (after ts s p).0 in
      let m : ℕ = length (block ts s p).0 in
      let low : Below vs (length x) = params_below s [] [] ps (below_none 0) in
      let to_y : length x ≤ length y = grows_clauses ts s2 x pre in
      let to_z : length y ≤ length z = grows_named_clauses s2 y name post in
      let to_m : length z ≤ m = grows_stmts ts s2 z body in
      let one : Found = bind.in_params b ps found in
      let two : Found = types.in_ty b2 t one in
      let three : Found = exprs.in_exprs c b2 (exprs_of pre) two in
      let four : Found = bind.in_clauses c b2 (place_of_ty t) name post three in
      let k4 : four ≡ None = before_stmts d b2 body four k in
      let k3 : three ≡ None = before_named c b2 (place_of_ty t) name post three k4 in
      let k2 : two ≡ None = before_exprs c b2 (exprs_of pre) two k3 in
      let k1 : one ≡ None = before_ty b2 t one k2 in
      record {
        params = bound_params b s h [] l ps found k1 [] (below_none 0) m (through to_y (through to_z to_m));
        result = bound_ty o ts vs b2 s2 h2 l2 t one k2;
        preconditions = bound_exprs o ts c b2 s2 h2 vs l2 (exprs_of pre) two k3 x low m (through to_z to_m);
        variable = named_new vs s2 y name post (below_later low to_y) m to_m;
        postconditions = named_bound c b2 s2 h2 vs l2 (place_of_ty t) name post three k4 y (below_later low to_y) m to_m;
        body = subst (λ (e : Around). BoundStmts o m e vs (stmts_of (block ts s p).1)) a (bound_stmts o ts d b2 s2 h2 vs l2 body four k z (below_later low (through to_y to_z)) m (omega arith));
      }

  -- without one
  without_result : (c d : Context) (b s : Scope) → b ≡ erased s → Leads o ts [] s → (at : ℕ) (own : List ℕ) (is_method : Bool) (ps : List surface.Param) (pre post : List surface.Expr)
      (body : surface.Stmts) (found : Found) → around d ≡ record { in_loop = false; has_result = false }
      → stmts.in_stmts d (bind.with_params b ps) body
      (exprs.in_exprs c (bind.with_params b ps) (exprs_of post) (exprs.in_exprs c (bind.with_params b ps) (exprs_of pre) (bind.in_params b ps found)))
      ≡ None
      → BoundRoutine o (in_routine ts s (record { at = at; name = own; is_method = is_method; params = ps; result = None; preconditions = pre; postconditions = post; body = body }))
  without_result c d b s h l at own is_method ps pre post body found a k =
      let p : Parts = record { at = at; name = own; is_method = is_method; params = ps; result = None; preconditions = pre; postconditions = post; body = body } in
      let b2 : Scope = bind.with_params b ps in
      let s2 : Scope = params_scope s [] ps in
      let h2 : b2 ≡ erased s2 = params_erased b s h [] ps in
      let vs : formed.Scope = with_params [] (in_params s [] ps) in
      let l2 : Leads o ts vs s2 = params_lead s [] l [] ps in
      let x : Variables = params_named [] ps in
      let y : Variables = (before ts s p).0 in
      let z : Variables = (after ts s p).0 in
      let m : ℕ = length (block ts s p).0 in
      let low : Below vs (length x) = params_below s [] [] ps (below_none 0) in
      let to_y : length x ≤ length y = grows_clauses ts s2 x pre in
      let to_z : length y ≤ length z = grows_clauses ts s2 y post in
      let to_m : length z ≤ m = grows_stmts ts s2 z body in
      let one : Found = bind.in_params b ps found in
      let three : Found = exprs.in_exprs c b2 (exprs_of pre) one in
      let four : Found = exprs.in_exprs c b2 (exprs_of post) three in
      let k4 : four ≡ None = before_stmts d b2 body four k in
      let k3 : three ≡ None = before_exprs c b2 (exprs_of post) three k4 in
      let k1 : one ≡ None = before_exprs c b2 (exprs_of pre) one k3 in
      record {
        params = bound_params b s h [] l ps found k1 [] (below_none 0) m (through to_y (through to_z to_m));
        result = tt;
        preconditions = bound_exprs o ts c b2 s2 h2 vs l2 (exprs_of pre) one k3 x low m (through to_z to_m);
        variable = tt;
        postconditions = bound_exprs o ts c b2 s2 h2 vs l2 (exprs_of post) three k4 y (below_later low to_y) m to_m;
        body = subst (λ (e : Around). BoundStmts o m e vs (stmts_of (block ts s p).1)) a (bound_stmts o ts d b2 s2 h2 vs l2 body four k z (below_later low (through to_y to_z)) m (omega arith));
      }

  function_bound : (b s : Scope) → b ≡ erased s → Leads o ts [] s → (f : surface.Function) (found : Found) → bind.in_function b f found ≡ None → BoundRoutine o (in_routine ts s (function_parts f))
  function_bound b s h l f found k =
      with_result (routine_context true true true) (routine_context true true false) b s h l f.at f.name false f.params f.result f.result_name f.preconditions f.postconditions f.body found refl k

  method_bound : (b s : Scope) → b ≡ erased s → Leads o ts [] s → (at : ℕ) (own : List ℕ) (ps : List surface.Param) (r : Option (surface.Ty × Option (List ℕ))) (pre post : List surface.Expr) (body : surface.Stmts) (found : Found)
      → stmts.in_stmts (routine_context false (is_some r) false) (bind.with_params b ps) body (bind.in_outcome_of (bind.with_params b ps) r pre post (bind.in_params b ps found)) ≡ None
      → BoundRoutine o (in_routine ts s (record { at = at; name = own; is_method = true; params = ps; result = r; preconditions = pre; postconditions = post; body = body }))
  method_bound b s h l at own ps None pre post body found k =
      without_result (routine_context false false true) (routine_context false false false) b s h l at own true ps pre post body found refl k
  method_bound b s h l at own ps (Some r) pre post body found k =
      with_result (routine_context false true true) (routine_context false true false) b s h l at own true ps r.0 r.1 pre post body found refl k

  bound_decl : (b s : Scope) → b ≡ erased s → Leads o ts [] s → (d : surface.Decl) (found : Found) → bind.in_decl b d found ≡ None → (ds : List (Decl ℕ)) → BoundDecls o ds
      → BoundDecls o (with_first (in_decl ts s d) ds)
  bound_decl b s h l (surface.AliasDecl a) found k ds rest = (alias_bound b s h l a found k, rest)
  bound_decl b s h l (surface.FunctionDecl f) found k ds rest = (function_bound b s h l f found k, rest)
  bound_decl b s h l (surface.MethodDecl m) found k ds rest = (method_bound b s h l m.at m.name m.params m.result m.preconditions m.postconditions m.body found k, rest)
  bound_decl b s h l (surface.PropertyDecl p) found k ds rest = rest

  pub bound_decls : (b s : Scope) → b ≡ erased s → Leads o ts [] s → (ds : List surface.Decl) (found : Found) → bind.in_decls b ds found ≡ None → BoundDecls o (in_decls ts s ds)
  bound_decls b s h l [] found k = tt
  bound_decls b s h l (d ∷ ds) found k =
      bound_decl b s h l d found (before_decls b ds (bind.in_decl b d found) k) (in_decls ts s ds) (bound_decls b s h l ds (bind.in_decl b d found) k)

  -- ---- the template of a property

  length_dropped : (n : ℕ) (xs : Variables) → n ≤ length xs → n + length (drop n xs) ≡ length xs
  length_dropped zero xs le = omega arith
  length_dropped (suc n) [] le = absurd (omega (arith, le))
  length_dropped (suc n) (x ∷ xs) le = let same = length_dropped n xs (omega (arith, le)) in omega (arith, same)

  pub template_leads : (b s : Scope) → b ≡ erased s → Leads o ts [] s → (used : List Bool) (p : surface.Property) (found : Found) → bind.in_property b p found ≡ None
      → TemplateLeads o (length p.params) (Some (template ts s used p.params p.clauses))
  template_leads b s h l used p found k =
      let names : Variables = params_named [] p.params in
      let all : Variables = (clauses_of ts s p.params p.clauses).0 in
      let vs : formed.Scope = with_params [] (in_params s [] p.params) in
      let size : length names ≡ length p.params = let e = length_params [] p.params in omega (arith, e) in
      let grown : length names ≤ length all = grows_clauses ts (params_scope s [] p.params) names p.clauses in
      let own : BoundClauses o (length all) vs (clauses_of ts s p.params p.clauses).1 =
      bound_exprs o ts clause_context (bind.with_params b p.params) (params_scope s [] p.params) (params_erased b s h [] p.params) vs (params_lead s [] l [] p.params) (exprs_of p.clauses)
      (bind.in_params b p.params found) k names (params_below s [] [] p.params (below_none 0)) (length all) (omega arith)
      in
      let there : vs ≡ below (length p.params) = same_params s [] p.params ∙ ap below size in
      let sum : length all ≡ length p.params + length (drop (length p.params) all) = sym (length_dropped (length p.params) all (omega (arith, size, grown))) in
      subst (λ (n : ℕ). BoundClauses o n (below (length p.params)) (clauses_of ts s p.params p.clauses).1) sum
      (subst (λ (ws : formed.Scope). BoundClauses o (length all) ws (clauses_of ts s p.params p.clauses).1) there own)
