-- Each name of a field of the core is one of the source, and those of each record rise.
use Rattle.std.proofs.Common.{◌≡◌, ℕ, zero, suc, ◌+◌, Bool, true, false, List, [], ◌∷◌, length, codes, Option, Some, None, refl, sym, subst, if◌then◌else◌, nat_lt}
use Rattle.std.specs.List.{slice_get}
use Rattle.std.specs.Prelude.{slice_set}
use Rattle.wy_ast.specs.SurfaceTree as surface
use Rattle.wy_ast.specs.SurfaceTree.{IndexStep, FieldStep, DeclareStmt, AssignStmt, CallStmt, ReturnStmt, AssertStmt, BreakStmt, ContinueStmt, SkipStmt, FailStmt, IfStmt, WhileStmt, DoStmt, ForStmt, SwitchStmt, SwitchElseStmt, NoStmts, MoreStmts, NoCases, MoreCases, AliasDecl, FunctionDecl, MethodDecl, PropertyDecl}
use Rattle.wy_core.specs.Types as types
use Rattle.wy_core.specs.CoreTree as core
use Rattle.wy_core.specs.CoreTree.{Expr, BoolExpr}
use Rattle.wy_core.specs.CoreSeen.{seen_core}
use Rattle.wy_core.specs.declared.declarations.Core.{Core}
use Rattle.wy_names.proofs.resolved_lemmas.OfferLemmas.{some_decl}
use Rattle.wy_names_scope.specs.declared.table.Entry.{Entry}
use Rattle.wy_names_scope.specs.declared.table.Entry.TheVariants as entry
use Rattle.wy_names_scope.specs.Scope.{Scope, entry_of}
use Rattle.wy_names.specs.wy_names_expand.declared.measure.Expansion.{Expansion}
use Rattle.wy_names.specs.wy_names_lower.Variables.{Variables, declared, named}
use Rattle.wy_names.specs.wy_names_lower.Uses.{With, Template, is_used, expansion, called}
use Rattle.wy_names.specs.wy_names_lower.TypesLowered as lowered
use Rattle.wy_names.specs.wy_names_lower.TypesLowered.{placed, in_ty}
use Rattle.wy_names.specs.wy_names_lower.ExprsLowered.{quantified, kept, in_expr, in_exprs, in_args, in_fields, in_ranges}
use Rattle.wy_names.specs.wy_names_lower.StmtsLowered.{in_option, in_path, in_clauses, in_stmt, in_stmts, in_cases, scope_behind, do_invariants, for_from, for_to, for_invariants, renamed, switch_variables, switch_number}
use Rattle.wy_names.specs.wy_names_lower.Templates.{params_scope, params_named, used_of, template, with_option, filled, without_uses, templates}
use Rattle.wy_names.specs.wy_names_lower.DeclsLowered.{named_clauses, Parts, after, in_routine, function_parts, method_parts, in_decls}
use Rattle.wy_names.specs.Named.{scope_of, expansions_of, IsNamed}
use Rattle.wy_gen_laws.specs.wy_code_spec.compiled.Fields.{NamesTy, NamesExpr, NamesOption, NamesPath, NameStmts, HasFields}
use Rattle.wy_gen_sources.specs.source_ints.SourceFields.{FieldsTy, FieldsTys, FieldsExpr, FieldsExprs, FieldsValues, FieldsRanges, FieldsClauses, FieldsOption, FieldsPath, FieldsStmt, FieldsStmts, FieldsCases, FieldsDecl, FieldsAreNames}
use Rattle.wy_gen_sources.proofs.source_ints_lemmas.PlacedLemmas.{Made, made_none, made_more, made_ty, made_expr}
use Rattle.wy_gen_sources.proofs.source_ints_lemmas.PartLemmas.{NamesClauses, joined_names, NamesTemplate, NamesTemplates, exprs_names, text_names, operator_names, set_holds, source_exprs, NamesBlock, both_blocks, labels_names, NamesArms, chain_names}

-- ---- types

module _ (s : Scope) where
  mutual
    names_ty : (t : surface.Ty) → FieldsTy t → NamesTy (in_ty s t)
    names_ty (surface.NullTy at) h = tt
    names_ty (surface.BoolTy at) h = tt
    names_ty (surface.IntTy at) h = tt
    names_ty (surface.AnyTy at) h = tt
    names_ty (surface.VoidTy at) h = tt
    names_ty (surface.RecordTy at fs) h = made_ty (lowered.in_fields s [] fs) (names_tys [] fs h (made_none NamesTy))
    names_ty (surface.ArrayTy at item) h = names_ty item h
    names_ty (surface.UnionTy at a b) h = (names_ty a h.0, names_ty b h.1)
    names_ty (surface.InterTy at a b) h = (names_ty a h.0, names_ty b h.1)
    names_ty (surface.NotTy at t) h = names_ty t h
    names_ty (surface.NamedTy at name) h = tt

    names_tys : (made : List (List ℕ × types.Ty)) (fs : surface.FieldTys) → FieldsTys fs → Made NamesTy made → Made NamesTy (lowered.in_fields s made fs)
    names_tys made surface.NoFieldTys h m = m
    names_tys made (surface.MoreFieldTys name t rest) h m = names_tys (placed made name (in_ty s t)) rest h.2 (made_more NamesTy made name (in_ty s t) h.0 (names_ty t h.1) m)

-- ---- the walk

module _ (ts : List Template) (own : NamesTemplates ts) where
  expansion_names : (at : ℕ) (t : Option Template) → NamesTemplate t → (names : Variables) (xs : List (Expr ℕ)) → NamesClauses xs → NamesExpr (expansion at t names xs).1
  expansion_names at None f names xs b = tt
  expansion_names at (Some t) f names xs b = joined_names at xs (length names) b true (BoolExpr at true) tt t.clauses f

  called_names : (at : ℕ) (e : Option Entry) (names : Variables) (xs : List (Expr ℕ)) → NamesClauses xs → NamesExpr (called ts at e names xs).1
  called_names at None names xs b = exprs_names xs b
  called_names at (Some (entry.Type n decl)) names xs b = exprs_names xs b
  called_names at (Some (entry.Routine r)) names xs b = exprs_names xs b
  called_names at (Some (entry.Property decl arity)) names xs b = expansion_names at (slice_get ts decl) (own decl) names xs b
  called_names at (Some (entry.Variable n)) names xs b = exprs_names xs b

  kept_names : (used : Bool) (names : Variables) (x : With (Expr ℕ)) → NamesExpr x.1 → NamesExpr (kept used names x).1
  kept_names true names x h = h
  kept_names false names x h = tt

  mutual
    names_expr : (s : Scope) (names : Variables) (e : surface.Expr) → FieldsExpr e → NamesExpr (in_expr ts s names e).1
    names_expr s names (surface.NullExpr at) h = tt
    names_expr s names (surface.BoolExpr at truth) h = tt
    names_expr s names (surface.IntExpr at z) h = tt
    names_expr s names (surface.TextExpr at bytes) h = text_names at bytes
    names_expr s names (surface.VarExpr at name) h = tt
    names_expr s names (surface.CallExpr at name args) h =
        let e : Option Entry = entry_of s name in
        called_names at e (in_args ts s names e 0 args).0 (in_args ts s names e 0 args).1 (names_args s names e 0 args h)
    names_expr s names (surface.NegExpr at x) h = names_expr s names x h
    names_expr s names (surface.NotExpr at x) h = names_expr s names x h
    names_expr s names (surface.LenExpr at x) h = names_expr s names x h
    names_expr s names (surface.BinaryExpr at op x y) h =
        let z : With (Expr ℕ) = in_expr ts s names x in
        operator_names at op z.1 (in_expr ts s z.0 y).1 (names_expr s names x h.0) (names_expr s z.0 y h.1)
    names_expr s names (surface.IsExpr at x t) h = (names_expr s names x h.0, names_ty s t h.1)
    names_expr s names (surface.IndexExpr at x y) h = (names_expr s names x h.0, names_expr s (in_expr ts s names x).0 y h.1)
    names_expr s names (surface.FieldExpr at x name) h = (names_expr s names x h.0, h.1)
    names_expr s names (surface.ListExpr at items) h = exprs_names (in_exprs ts s names items).1 (names_exprs s names items h)
    names_expr s names (surface.RepeatExpr at x y) h = (names_expr s names x h.0, names_expr s (in_expr ts s names x).0 y h.1)
    names_expr s names (surface.RecordExpr at fs) h = made_expr at (in_fields ts s names [] fs).1 (names_fields s names [] fs h (made_none NamesExpr))
    names_expr s names (surface.QuantExpr at all rs body) h =
        let inner : Scope = (in_ranges ts s names rs).0 in
        let between : Variables = (in_ranges ts s names rs).1 in
        names_ranges s names rs h.0 at all (in_expr ts inner between body).1 (names_expr inner between body h.1)

    names_exprs : (s : Scope) (names : Variables) (es : surface.Exprs) → FieldsExprs es → NamesClauses (in_exprs ts s names es).1
    names_exprs s names surface.NoExprs h = tt
    names_exprs s names (surface.MoreExprs e rest) h = (names_expr s names e h.0, names_exprs s (in_expr ts s names e).0 rest h.1)

    names_args : (s : Scope) (names : Variables) (callee : Option Entry) (i : ℕ) (es : surface.Exprs) → FieldsExprs es → NamesClauses (in_args ts s names callee i es).1
    names_args s names callee i surface.NoExprs h = tt
    names_args s names callee i (surface.MoreExprs e rest) h =
        let x : With (Expr ℕ) = in_expr ts s names e in
        (kept_names (is_used ts callee i) names x (names_expr s names e h.0), names_args s (kept (is_used ts callee i) names x).0 callee (i + 1) rest h.1)

    names_fields : (s : Scope) (names : Variables) (made : List (List ℕ × Expr ℕ)) (fs : surface.Fields) → FieldsValues fs → Made NamesExpr made → Made NamesExpr (in_fields ts s names made fs).1
    names_fields s names made surface.NoFields h f = f
    names_fields s names made (surface.MoreFields name e rest) h f =
        let z : With (Expr ℕ) = in_expr ts s names e in
        let here : NamesExpr z.1 = names_expr s names e h.1 in
        names_fields s z.0 (placed made name z.1) rest h.2 (made_more NamesExpr made name z.1 h.0 here f)

    names_ranges : (s : Scope) (names : Variables) (rs : surface.Ranges) → FieldsRanges rs → (p : ℕ) (all : Bool) (body : Expr ℕ) → NamesExpr body → NamesExpr (quantified p all (in_ranges ts s names rs).2 body)
    names_ranges s names surface.NoRanges h p all body inside = inside
    names_ranges s names (surface.MoreRanges name x y rest) h p all body inside =
        let first : Variables = (in_expr ts s names x).0 in
        let behind : Variables = (in_expr ts s first y).0 in
        (names_expr s names x h.0, (names_expr s first y h.1, names_ranges (declared s behind name) (named behind name) rest h.2 p all body inside))

  names_clauses : (s : Scope) (names : Variables) (es : List surface.Expr) → FieldsClauses es → NamesClauses (in_clauses ts s names es).1
  names_clauses s names es h = names_exprs s names (surface.exprs_of es) (source_exprs es h)

  names_option : (s : Scope) (names : Variables) (e : Option surface.Expr) → FieldsOption e → NamesOption (in_option ts s names e).1
  names_option s names None h = tt
  names_option s names (Some e) h = names_expr s names e h

  names_path : (s : Scope) (names : Variables) (xs : List surface.Step) → FieldsPath xs → NamesPath (in_path ts s names xs).1
  names_path s names [] h = tt
  names_path s names (IndexStep at e ∷ xs) h = (names_expr s names e h.0, names_path s (in_expr ts s names e).0 xs h.1)
  names_path s names (FieldStep at name ∷ xs) h = (h.0, names_path s names xs h.1)

  mutual
    names_stmt : (s : Scope) (names : Variables) (x : surface.Stmt) → FieldsStmt x → NamesBlock (in_stmt ts s names x).1
    names_stmt s names (DeclareStmt at t name value) h = (names_option s names value h, tt)
    names_stmt s names (AssignStmt at name path value) h = ((names_path s names path h.0, names_expr s (in_path ts s names path).0 value h.1), tt)
    names_stmt s names (CallStmt at name args) h = (exprs_names (in_exprs ts s names args).1 (names_exprs s names args h), tt)
    names_stmt s names (ReturnStmt at value) h = (names_option s names value h, tt)
    names_stmt s names (AssertStmt at test) h = (tt, tt)
    names_stmt s names (BreakStmt at) h = (tt, tt)
    names_stmt s names (ContinueStmt at) h = (tt, tt)
    names_stmt s names (SkipStmt at) h = (tt, tt)
    names_stmt s names (FailStmt at) h = (tt, tt)
    names_stmt s names (IfStmt at test first second) h =
        let z : Variables = (in_expr ts s names test).0 in
        ((names_expr s names test h.0, (names_stmts s z first h.1, names_stmts s (in_stmts ts s z first).0 second h.2)), tt)
    names_stmt s names (WhileStmt at test invariants body) h =
        let z : Variables = (in_expr ts s names test).0 in
        ((names_expr s names test h.0, names_stmts s (in_clauses ts s z invariants).0 body h.2), tt)
    names_stmt s names (DoStmt at body test invariants) h =
        let x : Variables = named names (codes "first") in
        let y : Variables = (do_invariants ts s names test invariants).0 in
        (tt, (((tt, names_expr s x test h.1), ((tt, tt), names_stmts s y body h.0)), tt))
    names_stmt s names (ForStmt at name from to invariants body) h =
        let y : Variables = (for_to ts s names from to).0 in
        let w : Variables = (for_invariants ts s names name from to invariants).0 in
        (names_expr s names from h.0, (names_expr s (for_from ts s names from).0 to h.1, (tt, (((tt, tt), (tt, ((tt, (tt, tt)), names_stmts (renamed s name (length y + 3)) w body h.3))), tt))))
    names_stmt s names (SwitchStmt at value cs) h =
        let t : ℕ = switch_number ts s names value in
        let y : Variables = switch_variables ts s names value in
        (names_expr s names value h.0, chain_names at (in_cases ts s y at t cs).1 [] (names_cases s y at t cs h.1) tt)
    names_stmt s names (SwitchElseStmt at value cs default) h =
        let t : ℕ = switch_number ts s names value in
        let y : Variables = switch_variables ts s names value in
        let x : Variables = (in_cases ts s y at t cs).0 in
        (names_expr s names value h.0, chain_names at (in_cases ts s y at t cs).1 (in_stmts ts s x default).1 (names_cases s y at t cs h.1) (names_stmts s x default h.2))

    names_stmts : (s : Scope) (names : Variables) (xs : surface.Stmts) → FieldsStmts xs → NamesBlock (in_stmts ts s names xs).1
    names_stmts s names NoStmts h = tt
    names_stmts s names (MoreStmts x rest) h =
        let z : Variables = (in_stmt ts s names x).0 in
        both_blocks (in_stmt ts s names x).1 (in_stmts ts (scope_behind ts s names x) z rest).1 (names_stmt s names x h.0) (names_stmts (scope_behind ts s names x) z rest h.1)

    names_cases : (s : Scope) (names : Variables) (at t : ℕ) (cs : surface.Cases) → FieldsCases cs → NamesArms (in_cases ts s names at t cs).1
    names_cases s names at t NoCases h = tt
    names_cases s names at t (MoreCases labels body rest) h =
        let z : Variables = (in_clauses ts s names labels).0 in
        let y : Variables = (in_stmts ts s z body).0 in
        (labels_names at t true (BoolExpr at false) (in_clauses ts s names labels).1 tt (names_clauses s names labels h.0), names_stmts s z body h.1, names_cases s y at t rest h.2)

  named_names : (s : Scope) (names : Variables) (name : Option (List ℕ)) (es : List surface.Expr) → FieldsClauses es → NamesClauses (named_clauses ts s names name es).1
  named_names s names None es h = names_clauses s names es h
  named_names s names (Some name) es h = names_clauses (declared s names name) (named names name) es h

  body_names : (s : Scope) (p : Parts) → FieldsStmts p.body → NameStmts (in_routine ts s p).body
  body_names s p body = names_stmts (params_scope s [] p.params) (after ts s p).0 p.body body

  decls_names : (s : Scope) (ds : List surface.Decl) → FieldsAreNames ds → HasFields (in_decls ts s ds)
  decls_names s [] h = tt
  decls_names s (AliasDecl a ∷ ds) h =
      ((names_ty s a.ty h.0.0, exprs_names (named_clauses ts s [] a.variable a.clauses).1 (named_names s [] a.variable a.clauses h.0.1)), decls_names s ds h.1)
  decls_names s (FunctionDecl f ∷ ds) h =
      (body_names s (function_parts f) h.0.2, decls_names s ds h.1)
  decls_names s (MethodDecl m ∷ ds) h =
      (body_names s (method_parts m) h.0.2, decls_names s ds h.1)
  decls_names s (PropertyDecl p ∷ ds) h = decls_names s ds h.1

  template_names : (s : Scope) (used : List Bool) (p : surface.Property) → FieldsClauses p.clauses → NamesTemplate (Some (template ts s used p.params p.clauses))
  template_names s used p h = names_clauses (params_scope s [] p.params) (params_named [] p.params) p.clauses h

-- ---- templates

of_property : (ds : List surface.Decl) → FieldsAreNames ds → (i : ℕ) (p : surface.Property) → slice_get ds i ≡ Some (PropertyDecl p) → FieldsClauses p.clauses
of_property [] h i p at = absurd (cc)
of_property (d ∷ ds) h zero p at = subst (λ (z : surface.Decl). FieldsDecl z) (some_decl d (PropertyDecl p) at) h.0
of_property (d ∷ ds) h (suc i) p at = of_property ds h.1 i p at

blank_names : (ds : List surface.Decl) (i : ℕ) → NamesTemplate (slice_get (without_uses ds) i)
blank_names [] i = tt
blank_names (d ∷ ds) zero = tt
blank_names (d ∷ ds) (suc i) = blank_names ds i

module _ (s : Scope) (ds : List surface.Decl) (h : FieldsAreNames ds) where
  option_names : (ts : List Template) → NamesTemplates ts → (used : List Bool) (i : ℕ) (d : Option surface.Decl) → slice_get ds i ≡ d → NamesTemplates (with_option s ts used i d)
  option_names ts f used i None at = f
  option_names ts f used i (Some (AliasDecl a)) at = f
  option_names ts f used i (Some (FunctionDecl x)) at = f
  option_names ts f used i (Some (MethodDecl m)) at = f
  option_names ts f used i (Some (PropertyDecl q)) at = by (nat_lt i (length ts))
    where
      made : Template
      made = template ts s used q.params q.clauses

      made_names : NamesTemplate (Some made)
      made_names = template_names ts f s used q (of_property ds h i q at)

      set_names : NamesTemplates (slice_set ts i made)
      set_names j = set_holds NamesTemplate ts i j made made_names (f j)

      by : (b : Bool) → NamesTemplates (if b then slice_set ts i made else ts)
      by true = set_names
      by false = f

  filled_names : (x : List Expansion) (ts : List Template) → NamesTemplates ts → (order : List ℕ) → NamesTemplates (filled s ds x ts order)
  filled_names x ts f [] = f
  filled_names x ts f (i ∷ order) = filled_names x (with_option s ts (used_of (slice_get x i)) i (slice_get ds i)) (option_names ts f (used_of (slice_get x i)) i (slice_get ds i) refl) order

pub named_fields : (ds : List surface.Decl) (c : Core) → FieldsAreNames ds → IsNamed ds c → HasFields (seen_core c)
named_fields ds c h n =
    let x : List Expansion = expansions_of ds n.order in
    let ts : List Template = templates (scope_of ds) ds x n.order in
    subst (λ (z : core.Core ℕ). HasFields z) (sym n.core) (decls_names ts (filled_names (scope_of ds) ds h x (without_uses ds) (blank_names ds) n.order) (scope_of ds) ds h)
