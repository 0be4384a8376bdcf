-- Blocks that are put together are bound, each part behind those before it.
use Rattle.std.proofs.Common.{◌<◌, ◌≤◌, inl, inr, ℕ, ◌+◌, Bool, true, false, List, [], ◌∷◌, ◌++◌, refl, arith}
use Rattle.wy_core.specs.CoreTree.{Expr, BoolExpr, Stmt, DeclareStmt, AssignStmt, CallStmt, ReturnStmt, AssertStmt, BreakStmt, ContinueStmt, SkipStmt, FailStmt, IfStmt, WhileStmt, stmts_of}
use Rattle.wy_names_lower.specs.StmtsLowered.{or_of, each_behind_first, equals, or_labels, is_one_of, Arm, chain, bounds, next_turn, turns, counted, repeated, switched}
use Rattle.wy_core.specs.formed.Offers.{Offers}
use Rattle.wy_core.specs.formed.Bound.{Scope, Has, IsNew, Around, looped, behind, BoundExpr, BoundClauses, BoundStmt, BoundStmts}
use Rattle.wy_names.proofs.resolved_lemmas.ScopeLemmas.{Keeps, Below, below_more}

-- these statements, in order
abbrev pub Block : Offers → ℕ → Around → Scope → List (Stmt ℕ) → Type 0
Block o m a vs xs = BoundStmts o m a vs (stmts_of xs)

-- the variables in scope behind statements, still within their block
abbrev pub behind_all : Scope → List (Stmt ℕ) → Scope
behind_all vs [] = vs
behind_all vs (x ∷ xs) = behind_all (behind vs x) xs

-- the variables of a `for`, its own aside
abbrev pub spanned : Scope → ℕ → Scope
spanned vs n = (n + 2) ∷ (n + 1) ∷ n ∷ vs

kept_one : (vs : Scope) (x : Stmt ℕ) → Keeps vs (behind vs x)
kept_one vs (DeclareStmt at t v value) w h = inr h
kept_one vs (AssignStmt at v path value) w h = h
kept_one vs (CallStmt at routine args) w h = h
kept_one vs (ReturnStmt at value) w h = h
kept_one vs (AssertStmt at test) w h = h
kept_one vs (BreakStmt at) w h = h
kept_one vs (ContinueStmt at) w h = h
kept_one vs (SkipStmt at) w h = h
kept_one vs (FailStmt at) w h = h
kept_one vs (IfStmt at test first second) w h = h
kept_one vs (WhileStmt at test invariants body) w h = h

pub kept_all : (vs : Scope) (xs : List (Stmt ℕ)) → Keeps vs (behind_all vs xs)
kept_all vs [] w h = h
kept_all vs (x ∷ xs) w h = kept_all (behind vs x) xs w (kept_one vs x w h)

module _ (o : Offers) (m : ℕ) where
  below_one : (a : Around) (vs : Scope) (x : Stmt ℕ) → Below vs m → BoundStmt o m a vs x → Below (behind vs x) m
  below_one a vs (DeclareStmt at t v value) low b = below_more v low (omega arith) b.2.0
  below_one a vs (AssignStmt at v path value) low b = low
  below_one a vs (CallStmt at routine args) low b = low
  below_one a vs (ReturnStmt at value) low b = low
  below_one a vs (AssertStmt at test) low b = low
  below_one a vs (BreakStmt at) low b = low
  below_one a vs (ContinueStmt at) low b = low
  below_one a vs (SkipStmt at) low b = low
  below_one a vs (FailStmt at) low b = low
  below_one a vs (IfStmt at test first second) low b = low
  below_one a vs (WhileStmt at test invariants body) low b = low

  pub below_all : (a : Around) (vs : Scope) (xs : List (Stmt ℕ)) → Below vs m → Block o m a vs xs → Below (behind_all vs xs) m
  below_all a vs [] low b = low
  below_all a vs (x ∷ xs) low b = below_all a (behind vs x) xs (below_one a vs x low b.0) b.1

  pub both_blocks : (a : Around) (vs : Scope) (xs ys : List (Stmt ℕ)) → Block o m a vs xs → Block o m a (behind_all vs xs) ys → Block o m a vs (xs ++ ys)
  both_blocks a vs [] ys p q = q
  both_blocks a vs (x ∷ xs) ys p q = (p.0, both_blocks a (behind vs x) xs ys p.1 q)

  pub both_clauses : (vs : Scope) (xs ys : List (Expr ℕ)) → BoundClauses o m vs xs → BoundClauses o m vs ys → BoundClauses o m vs (xs ++ ys)
  both_clauses vs [] ys p q = q
  both_clauses vs (x ∷ xs) ys p q = (p.0, both_clauses vs xs ys p.1 q)

  -- ---- `do`

  each_first : (vs : Scope) (at first : ℕ) → Has vs first → (es : List (Expr ℕ)) → BoundClauses o m vs es → BoundClauses o m vs (each_behind_first at first es)
  each_first vs at first h [] b = tt
  each_first vs at first h (e ∷ es) b = ((h, b.0), each_first vs at first h es b.1)

  pub repeated_bound : (a : Around) (vs : Scope) (at first : ℕ) (test : Expr ℕ) (invariants : List (Expr ℕ)) (body : List (Stmt ℕ)) → IsNew m vs first → BoundExpr o m (first ∷ vs) test
      → BoundClauses o m (first ∷ vs) invariants → Block o m (looped a) (first ∷ vs) body → Block o m a vs (repeated at first test invariants body)
  repeated_bound a vs at first test invariants body new t i b =
      ((tt, tt, new), (((inl refl, t), each_first (first ∷ vs) at first (inl refl) invariants i, ((inl refl, tt, tt), b)), tt))

  -- ---- `for`

  pub counted_bound : (a : Around) (vs : Scope) (at n : ℕ) (from to : Expr ℕ) (own : List (Expr ℕ)) (body : List (Stmt ℕ)) → Below vs n → n + 4 ≤ m
      → BoundExpr o m vs from → BoundExpr o m (n ∷ vs) to → BoundClauses o m (spanned vs n) own → Block o m (looped a) ((n + 3) ∷ spanned vs n) body
      → Block o m a vs (counted at (record { lo = n; hi = n + 1; t = n + 2; i = n + 3 }) from to own body)
  counted_bound a vs at n from to own body low room f t w b =
      ((tt, f, new_lo), ((tt, t, new_hi), ((tt, inr (inl refl), new_t), (while, tt))))
    where
      high : (v : ℕ) → Has vs v → n ≤ v → ⊥
      high v h le = absurd (let less : v < n = low.less v h in omega (arith, less, le))

      new_lo : IsNew m vs n
      new_lo = (omega (arith, room), λ (h : Has vs n). high n h (omega arith))

      no_hi : Has (n ∷ vs) (n + 1) → ⊥
      no_hi (inl e) = absurd (omega (arith, e))
      no_hi (inr h) = high (n + 1) h (omega arith)

      new_hi : IsNew m (n ∷ vs) (n + 1)
      new_hi = (omega (arith, room), no_hi)

      no_t : Has ((n + 1) ∷ n ∷ vs) (n + 2) → ⊥
      no_t (inl e) = absurd (omega (arith, e))
      no_t (inr (inl e)) = absurd (omega (arith, e))
      no_t (inr (inr h)) = high (n + 2) h (omega arith)

      new_t : IsNew m ((n + 1) ∷ n ∷ vs) (n + 2)
      new_t = (omega (arith, room), no_t)

      no_i : Has (spanned vs n) (n + 3) → ⊥
      no_i (inl e) = absurd (omega (arith, e))
      no_i (inr (inl e)) = absurd (omega (arith, e))
      no_i (inr (inr (inl e))) = absurd (omega (arith, e))
      no_i (inr (inr (inr h))) = high (n + 3) h (omega arith)

      new_i : IsNew m (spanned vs n) (n + 3)
      new_i = (omega (arith, room), no_i)

      own_bounds : BoundClauses o m (spanned vs n) (bounds at (record { lo = n; hi = n + 1; t = n + 2; i = n + 3 }))
      own_bounds = ((inr (inr (inl refl)), inl refl), (((inl refl, inr (inl refl)), (inr (inl refl), inr (inr (inl refl)))), tt))

      turn : Block o m (looped a) (spanned vs n) (next_turn at (record { lo = n; hi = n + 1; t = n + 2; i = n + 3 }) ++ body)
      turn = ((tt, inl refl, new_i), ((inr (inl refl), tt, (inr (inl refl), tt)), b))

      while : BoundStmt o m a (spanned vs n) (turns at (record { lo = n; hi = n + 1; t = n + 2; i = n + 3 }) own body)
      while = ((inl refl, inr (inl refl)), both_clauses (spanned vs n) (bounds at (record { lo = n; hi = n + 1; t = n + 2; i = n + 3 })) own own_bounds w, turn)

  -- ---- `switch`

  labels_bound : (vs : Scope) (at t : ℕ) → Has vs t → (first : Bool) (e : Expr ℕ) (cs : List (Expr ℕ)) → BoundExpr o m vs e → BoundClauses o m vs cs → BoundExpr o m vs (or_labels at t first e cs)
  labels_bound vs at t h first e [] b k = b
  labels_bound vs at t h true e (c ∷ cs) b k = labels_bound vs at t h false (equals at t c) cs (h, k.0) k.1
  labels_bound vs at t h false e (c ∷ cs) b k = labels_bound vs at t h false (or_of at e (equals at t c)) cs (b, (h, k.0)) k.1

  pub one_of_bound : (vs : Scope) (at t : ℕ) → Has vs t → (cs : List (Expr ℕ)) → BoundClauses o m vs cs → BoundExpr o m vs (is_one_of at t cs)
  one_of_bound vs at t h cs b = labels_bound vs at t h true (BoolExpr at false) cs tt b

  abbrev pub Arms : Around → Scope → List Arm → Type 0
  Arms a vs [] = Unit {0}
  Arms a vs (x ∷ xs) = BoundExpr o m vs x.test × Block o m a vs x.body × Arms a vs xs

  pub chain_bound : (a : Around) (vs : Scope) (at : ℕ) (arms : List Arm) (last : List (Stmt ℕ)) → Arms a vs arms → Block o m a vs last → Block o m a vs (chain at arms last)
  chain_bound a vs at [] last h b = b
  chain_bound a vs at (x ∷ xs) last h b = ((h.0, h.1, chain_bound a vs at xs last h.2 b), tt)

  pub switched_bound : (a : Around) (vs : Scope) (at t : ℕ) (value : Expr ℕ) (arms : List Arm) (last : List (Stmt ℕ)) → IsNew m vs t → BoundExpr o m vs value → Arms a (t ∷ vs) arms → Block o m a (t ∷ vs) last
      → Block o m a vs (switched at t value arms last)
  switched_bound a vs at t value arms last new v h b = ((tt, v, new), chain_bound a (t ∷ vs) at arms last h b)
