-- A formed program is as the law on its code asks.
use Rattle.std.proofs.Common.{◌≡◌, ◌<◌, ◌⊎◌, inl, inr, ℕ, zero, suc, List, [], ◌∷◌, length, Bool, true, false, Option, Some, None, refl, sym, ap, ◌∙◌, subst, arith}
use Rattle.std.specs.Prelude.{slice_get, is_some}
use Rattle.wy_core.specs.CoreTree.{Expr, NullExpr, BoolExpr, IntExpr, VarExpr, CallExpr, NegExpr, NotExpr, LenExpr, BinaryExpr, IsExpr, IndexExpr, FieldExpr, ListExpr, RepeatExpr, RecordExpr, QuantExpr, Exprs, NoExprs, MoreExprs, Fields, NoFields, MoreFields, Step, IndexStep, FieldStep, Stmt, DeclareStmt, AssignStmt, CallStmt, ReturnStmt, AssertStmt, BreakStmt, ContinueStmt, SkipStmt, FailStmt, IfStmt, WhileStmt, Stmts, NoStmts, MoreStmts, Param, Decl, AliasDecl, RoutineDecl, routines_of}
use Rattle.wy_core.specs.formed.Offers.{Signature, Offers, signatures_of, IsCall}
use Rattle.wy_core.specs.formed.Bound as formed
use Rattle.wy_core.specs.formed.Bound.{Scope, Has, IsNew, BoundExpr, BoundExprs, BoundFields, BoundOption, BoundPath, BoundStmt, BoundStmts, BoundClauses, BoundParams, Around, looped, behind, with_params}
use Rattle.wy_lemmas.proofs.Choices.{false_true, either}
use Rattle.wy_gen_laws.specs.wy_code_spec.declared.tables.context.Context.{Context}
use Rattle.wy_gen_laws.specs.wy_code_spec.tables.Tables.{target, results_of}
use Rattle.wy_gen_laws.specs.wy_code_spec.compiled.Expressions.{count_of}
use Rattle.wy_gen_sources.specs.code.Fitting.{IsValue, Fits, FitAll, FitFields, FitsOption, FitsPath, IsAction, MayGive, FitsStmt, FitsStmts}
use Rattle.wy_gen_sources.specs.code.Dead.{Counts, CountsAll, CountsFields, CountsOption, CountsPath, CountsStmt, CountsStmts, Declares, DeclaresIn, IsParam}

-- ---- what numbers call

none_some : {A X : Type 0} (x : A) → None ≡ Some x → X
none_some x e = absurd cc

some_signature : (a b : Signature) → Some a ≡ Some b → a ≡ b
some_signature a b e = cc

pub value_called : (ds : List (Decl ℕ)) (g : ℕ) (s : Signature) → slice_get (signatures_of ds) g ≡ Some s → s.has_result ≡ true → IsValue (target (results_of (routines_of ds)) g)
value_called [] zero s e h = false_true (subst (λ (z : Signature). z.has_result ≡ true) (sym (some_signature (record { arity = 1; is_method = true; has_result = false }) s e)) h)
value_called [] (suc zero) s e h = false_true (subst (λ (z : Signature). z.has_result ≡ true) (sym (some_signature (record { arity = 1; is_method = true; has_result = false }) s e)) h)
value_called [] (suc (suc g)) s e h = none_some s e
value_called (AliasDecl a ∷ ds) g s e h = value_called ds g s e h
value_called (RoutineDecl r ∷ ds) zero s e h = subst (λ (z : Signature). z.has_result ≡ true) (sym (some_signature (record { arity = length r.params; is_method = r.is_method; has_result = is_some r.result }) s e)) h
value_called (RoutineDecl r ∷ ds) (suc g) s e h = value_called ds g s e h

pub action_called : (ds : List (Decl ℕ)) (g k : ℕ) (s : Signature) → slice_get (signatures_of ds) g ≡ Some s → s.arity ≡ k → IsAction (target (results_of (routines_of ds)) g) k
action_called [] zero k s e h = sym h ∙ ap (λ (z : Signature). z.arity) (sym (some_signature (record { arity = 1; is_method = true; has_result = false }) s e))
action_called [] (suc zero) k s e h = sym h ∙ ap (λ (z : Signature). z.arity) (sym (some_signature (record { arity = 1; is_method = true; has_result = false }) s e))
action_called [] (suc (suc g)) k s e h = none_some s e
action_called (AliasDecl a ∷ ds) g k s e h = action_called ds g k s e h
action_called (RoutineDecl r ∷ ds) zero k s e h = tt
action_called (RoutineDecl r ∷ ds) (suc g) k s e h = action_called ds g k s e h

same_count : (es : Exprs ℕ) → formed.count_of es ≡ count_of es
same_count NoExprs = refl
same_count (MoreExprs e es) = let h = same_count es in omega (arith, h)

module _ (ds : List (Decl ℕ)) (o : Offers) (offers : o.routines ≡ signatures_of ds) (c : Context) (results : c.results ≡ results_of (routines_of ds)) (n : ℕ) where
  calls_value : (g k : ℕ) → IsCall o true g k → IsValue (target c.results g)
  calls_value g k call = subst (λ (rs : List Bool). IsValue (target rs g)) (sym results) (value_called ds g call.called (subst (λ (z : List Signature). slice_get z g ≡ Some call.called) offers call.offered) (call.value refl))

  calls_action : (g k : ℕ) (v : Bool) → IsCall o v g k → IsAction (target c.results g) k
  calls_action g k v call = subst (λ (rs : List Bool). IsAction (target rs g) k) (sym results) (action_called ds g k call.called (subst (λ (z : List Signature). slice_get z g ≡ Some call.called) offers call.offered) call.arity)

  module _ (U : ℕ → Type 0) where
    -- what is in use: the variables in scope, and declared ones
    abbrev pub Both : Scope → (ℕ → Type 0) → Type 0
    Both vs W = ((r : ℕ) → Has vs r → W r) × ((r : ℕ) → W r → U r ⊎ Has vs r)

    both_more : (vs : Scope) (W : ℕ → Type 0) (x : ℕ) → Both vs W → Both (x ∷ vs) (λ r. W r ⊎ (r ≡ x))
    both_more vs W x both = ((λ r h. either (λ e. inr (sym e)) (λ k. inl (both.0 r k)) h), (λ r w. either (λ k. either (λ u. inl u) (λ z. inr (inr z)) (both.1 r k)) (λ e. inr (inl (sym e))) w))

    mutual
      pub fits_expr : (e : Expr ℕ) (vs : Scope) (W : ℕ → Type 0) → Both vs W → BoundExpr o n vs e → ((x : ℕ) → Counts e x → U x → ⊥) → Fits c n e W
      fits_expr (NullExpr at) vs W both b own = tt
      fits_expr (BoolExpr at truth) vs W both b own = tt
      fits_expr (IntExpr at number) vs W both b own = tt
      fits_expr (VarExpr at x) vs W both b own = both.0 x b
      fits_expr (CallExpr at g args) vs W both b own = (calls_value g (formed.count_of args) b.0, fits_all args vs W both b.1 own)
      fits_expr (NegExpr at a) vs W both b own = fits_expr a vs W both b own
      fits_expr (NotExpr at a) vs W both b own = fits_expr a vs W both b own
      fits_expr (LenExpr at a) vs W both b own = fits_expr a vs W both b own
      fits_expr (BinaryExpr at q a d) vs W both b own = (fits_expr a vs W both b.0 (λ x k. own x (inl k)), fits_expr d vs W both b.1 (λ x k. own x (inr k)))
      fits_expr (IsExpr at a ty) vs W both b own = fits_expr a vs W both b.0 own
      fits_expr (IndexExpr at a d) vs W both b own = (fits_expr a vs W both b.0 (λ x k. own x (inl k)), fits_expr d vs W both b.1 (λ x k. own x (inr k)))
      fits_expr (FieldExpr at a name) vs W both b own = fits_expr a vs W both b own
      fits_expr (ListExpr at items) vs W both b own = fits_all items vs W both b own
      fits_expr (RepeatExpr at a d) vs W both b own = (fits_expr a vs W both b.0 (λ x k. own x (inl k)), fits_expr d vs W both b.1 (λ x k. own x (inr k)))
      fits_expr (RecordExpr at fs) vs W both b own = fits_fields fs vs W both b.1 own
      fits_expr (QuantExpr at all y a d body) vs W both b own = (
        fits_expr a vs W both b.1 (λ x k. own x (inr (inl k))),
        fits_expr d vs W both b.2 (λ x k. own x (inr (inr (inl k)))),
        (λ w. either (λ u. own y (inl refl) u) (λ h. b.0.1 h) (both.1 y w)),
        b.0.0,
        fits_expr body (y ∷ vs) (λ r. W r ⊎ (r ≡ y)) (both_more vs W y both) b.3 (λ x k. own x (inr (inr (inr k)))),
      )

      pub fits_all : (es : Exprs ℕ) (vs : Scope) (W : ℕ → Type 0) → Both vs W → BoundExprs o n vs es → ((x : ℕ) → CountsAll es x → U x → ⊥) → FitAll c n es W
      fits_all NoExprs vs W both b own = tt
      fits_all (MoreExprs e es) vs W both b own = (fits_expr e vs W both b.0 (λ x k. own x (inl k)), fits_all es vs W both b.1 (λ x k. own x (inr k)))

      pub fits_fields : (fs : Fields ℕ) (vs : Scope) (W : ℕ → Type 0) → Both vs W → BoundFields o n vs fs → ((x : ℕ) → CountsFields fs x → U x → ⊥) → FitFields c n fs W
      fits_fields NoFields vs W both b own = tt
      fits_fields (MoreFields name e fs) vs W both b own = (fits_expr e vs W both b.0 (λ x k. own x (inl k)), fits_fields fs vs W both b.1 (λ x k. own x (inr k)))

    -- statements, among declared variables alone
    module _ (R : Type 0) where
      own_scope : (vs : Scope) → ((r : ℕ) → Has vs r → U r) → Both vs U
      own_scope vs inside = (inside, λ r u. inl u)

      fits_option : (value : Option (Expr ℕ)) (vs : Scope) → ((r : ℕ) → Has vs r → U r) → BoundOption o n vs value → ((x : ℕ) → CountsOption value x → U x → ⊥) → FitsOption c n value U
      fits_option None vs inside b own = tt
      fits_option (Some e) vs inside b own = fits_expr e vs U (own_scope vs inside) b own

      fits_path : (path : List (Step ℕ)) (vs : Scope) → ((r : ℕ) → Has vs r → U r) → BoundPath o n vs path → ((x : ℕ) → CountsPath path x → U x → ⊥) → FitsPath c n path U
      fits_path [] vs inside b own = tt
      fits_path (IndexStep at e ∷ path) vs inside b own = (fits_expr e vs U (own_scope vs inside) b.0 (λ x k. own x (inl k)), fits_path path vs inside b.1 (λ x k. own x (inr k)))
      fits_path (FieldStep at name ∷ path) vs inside b own = fits_path path vs inside b own

      may_give : (value : Option (Expr ℕ)) (b : Bool) → is_some value ≡ b → (b ≡ true → R) → MayGive R value
      may_give None b e f = tt
      may_give (Some e) b same f = f (sym same)

      behind_inside : (st : Stmt ℕ) (vs : Scope) → ((r : ℕ) → Has vs r → U r) → ((x : ℕ) → Declares st x → U x) → (r : ℕ) → Has (behind vs st) r → U r
      behind_inside (DeclareStmt at ty y value) vs inside dec r (inl e) = subst U e (dec y refl)
      behind_inside (DeclareStmt at ty y value) vs inside dec r (inr h) = inside r h
      behind_inside (AssignStmt at y path e) vs inside dec r h = inside r h
      behind_inside (CallStmt at g args) vs inside dec r h = inside r h
      behind_inside (ReturnStmt at value) vs inside dec r h = inside r h
      behind_inside (AssertStmt at e) vs inside dec r h = inside r h
      behind_inside (BreakStmt at) vs inside dec r h = inside r h
      behind_inside (ContinueStmt at) vs inside dec r h = inside r h
      behind_inside (SkipStmt at) vs inside dec r h = inside r h
      behind_inside (FailStmt at) vs inside dec r h = inside r h
      behind_inside (IfStmt at e first second) vs inside dec r h = inside r h
      behind_inside (WhileStmt at e invariants body) vs inside dec r h = inside r h

      mutual
        pub fits_stmt : (st : Stmt ℕ) (a : Around) (vs : Scope) → ((r : ℕ) → Has vs r → U r) → ((x : ℕ) → Declares st x → U x) → (a.has_result ≡ true → R) → BoundStmt o n a vs st → ((x : ℕ) → CountsStmt st x → U x → ⊥) → FitsStmt c n R st U
        fits_stmt (DeclareStmt at ty y value) a vs inside dec gives b own = (dec y refl, fits_option value vs inside b.1 own)
        fits_stmt (AssignStmt at y path e) a vs inside dec gives b own = (inside y b.0, fits_path path vs inside b.1 (λ x k. own x (inl k)), fits_expr e vs U (own_scope vs inside) b.2 (λ x k. own x (inr k)))
        fits_stmt (CallStmt at g args) a vs inside dec gives b own = (calls_action g (count_of args) false (subst (λ (k : ℕ). IsCall o false g k) (same_count args) b.0), fits_all args vs U (own_scope vs inside) b.1 own)
        fits_stmt (ReturnStmt at value) a vs inside dec gives b own = (fits_option value vs inside b.1 own, may_give value a.has_result b.0 gives)
        fits_stmt (AssertStmt at e) a vs inside dec gives b own = tt
        fits_stmt (BreakStmt at) a vs inside dec gives b own = tt
        fits_stmt (ContinueStmt at) a vs inside dec gives b own = tt
        fits_stmt (SkipStmt at) a vs inside dec gives b own = tt
        fits_stmt (FailStmt at) a vs inside dec gives b own = tt
        fits_stmt (IfStmt at e first second) a vs inside dec gives b own =
            (fits_expr e vs U (own_scope vs inside) b.0 (λ x k. own x (inl k)), fits_stmts first a vs inside (λ x k. dec x (inl k)) gives b.1 (λ x k. own x (inr (inl k))), fits_stmts second a vs inside (λ x k. dec x (inr k)) gives b.2 (λ x k. own x (inr (inr k))))
        fits_stmt (WhileStmt at e invariants body) a vs inside dec gives b own =
            (fits_expr e vs U (own_scope vs inside) b.0 (λ x k. own x (inl k)), fits_stmts body (looped a) vs inside dec gives b.2 (λ x k. own x (inr k)))

        pub fits_stmts : (ss : Stmts ℕ) (a : Around) (vs : Scope) → ((r : ℕ) → Has vs r → U r) → ((x : ℕ) → DeclaresIn ss x → U x) → (a.has_result ≡ true → R) → BoundStmts o n a vs ss → ((x : ℕ) → CountsStmts ss x → U x → ⊥) → FitsStmts c n R ss U
        fits_stmts NoStmts a vs inside dec gives b own = tt
        fits_stmts (MoreStmts st rest) a vs inside dec gives b own = (
          fits_stmt st a vs inside (λ x k. dec x (inl k)) gives b.0 (λ x k. own x (inl k)),
          fits_stmts rest a (behind vs st) (λ r h. behind_inside st vs inside (λ x k. dec x (inl k)) r h) (λ x k. dec x (inr k)) gives b.1 (λ x k. own x (inr k)),
        )

-- ---- declared variables have registers

module _ (o : Offers) (n : ℕ) where
  mutual
    pub declares_low : (st : Stmt ℕ) (a : Around) (vs : Scope) → BoundStmt o n a vs st → (x : ℕ) → Declares st x → x < n
    declares_low (DeclareStmt at ty y value) a vs b x e = let l = b.2.0 in omega (arith, l, e)
    declares_low (AssignStmt at y path e) a vs b x d = absurd d
    declares_low (CallStmt at g args) a vs b x d = absurd d
    declares_low (ReturnStmt at value) a vs b x d = absurd d
    declares_low (AssertStmt at e) a vs b x d = absurd d
    declares_low (BreakStmt at) a vs b x d = absurd d
    declares_low (ContinueStmt at) a vs b x d = absurd d
    declares_low (SkipStmt at) a vs b x d = absurd d
    declares_low (FailStmt at) a vs b x d = absurd d
    declares_low (IfStmt at e first second) a vs b x d = either (λ k. declares_all_low first a vs b.1 x k) (λ k. declares_all_low second a vs b.2 x k) d
    declares_low (WhileStmt at e invariants body) a vs b x d = declares_all_low body (looped a) vs b.2 x d

    pub declares_all_low : (ss : Stmts ℕ) (a : Around) (vs : Scope) → BoundStmts o n a vs ss → (x : ℕ) → DeclaresIn ss x → x < n
    declares_all_low NoStmts a vs b x d = absurd d
    declares_all_low (MoreStmts st rest) a vs b x d = either (λ k. declares_low st a vs b.0 x k) (λ k. declares_all_low rest a (behind vs st) b.1 x k) d

  pub params_low : (ps : List Param) (vs : Scope) → BoundParams o n vs ps → (x : ℕ) → IsParam ps x → x < n
  params_low [] vs b x d = absurd d
  params_low (p ∷ ps) vs b x d = either (λ e. let l = b.1.0 in omega (arith, l, e)) (λ k. params_low ps (p.variable ∷ vs) b.2 x k) d

-- the scope behind parameters
pub params_scope : (ps : List Param) (vs : Scope) (r : ℕ) → Has (with_params vs ps) r → IsParam ps r ⊎ Has vs r
params_scope [] vs r h = inr h
params_scope (p ∷ ps) vs r h = either (λ k. inl (inr k)) (λ k. either (λ e. inl (inl (sym e))) (λ z. inr z) k) (params_scope ps (p.variable ∷ vs) r h)
