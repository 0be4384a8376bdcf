-- Variables of quantifiers and declared ones, in a range of numbers.
use Rattle.std.proofs.Common.{◌≡◌, ◌<◌, ◌≤◌, ◌⊎◌, inl, inr, ℕ, ◌+◌, List, [], ◌∷◌, ◌++◌, arith}
use Rattle.wy_core.specs.CoreTree.{Expr, NullExpr, BoolExpr, IntExpr, VarExpr, CallExpr, NegExpr, NotExpr, LenExpr, BinaryExpr, IsExpr, IndexExpr, FieldExpr, ListExpr, RepeatExpr, RecordExpr, QuantExpr, Exprs, NoExprs, MoreExprs, Fields, NoFields, MoreFields, Stmt, exprs_of, stmts_of}
use Rattle.wy_core.specs.formed.Offers.{Offers}
use Rattle.wy_core.specs.formed.Bound as formed
use Rattle.wy_core.specs.formed.Bound.{Has, BoundExpr, BoundExprs, BoundFields, BoundClauses}
use Rattle.wy_gen_sources.specs.code.Dead.{Counts, CountsAll, CountsFields, CountsStmts, DeclaresIn}
use Rattle.wy_lemmas.proofs.Choices.{either}

-- the variables of the first kind and of the second have numbers from the first on below the second, and none is of both kinds
pub record Apart (lo hi : ℕ) (C D : ℕ → Type 0) : Type 0 where
  pub counted : (x : ℕ) → C x → (lo ≤ x) × (x < hi)
  pub declared : (x : ℕ) → D x → (lo ≤ x) × (x < hi)
  pub own : (x : ℕ) → C x → D x → ⊥

pub apart_none : (lo hi : ℕ) → Apart lo hi (λ x. ⊥) (λ x. ⊥)
apart_none lo hi = record { counted = (λ x h. absurd h); declared = (λ x h. absurd h); own = (λ x h k. h) }

pub apart_less : (lo hi : ℕ) (C D A B : ℕ → Type 0) → ((x : ℕ) → A x → C x) → ((x : ℕ) → B x → D x) → Apart lo hi C D → Apart lo hi A B
apart_less lo hi C D A B f g p = record { counted = (λ x h. p.counted x (f x h)); declared = (λ x h. p.declared x (g x h)); own = (λ x h k. p.own x (f x h) (g x k)) }

pub apart_wide : (a lo hi b : ℕ) (C D : ℕ → Type 0) → a ≤ lo → hi ≤ b → Apart lo hi C D → Apart a b C D
apart_wide a lo hi b C D low high p = record {
  counted = (λ x h. let r = p.counted x h in (let z = r.0 in omega (arith, z, low), let z = r.1 in omega (arith, z, high)));
  declared = (λ x h. let r = p.declared x h in (let z = r.0 in omega (arith, z, low), let z = r.1 in omega (arith, z, high)));
  own = p.own;
}

-- one range behind the other
pub apart_both : (lo mid hi : ℕ) (A B C D : ℕ → Type 0) → lo ≤ mid → mid ≤ hi → Apart lo mid A B → Apart mid hi C D → Apart lo hi (λ x. A x ⊎ C x) (λ x. B x ⊎ D x)
apart_both lo mid hi A B C D low high p q =
    let one = apart_wide lo lo mid hi A B (omega arith) high p in
    let two = apart_wide lo mid hi hi C D low (omega arith) q in
    record {
      counted = (λ x h. either (λ k. one.counted x k) (λ k. two.counted x k) h);
      declared = (λ x h. either (λ k. one.declared x k) (λ k. two.declared x k) h);
      own = (λ x h k. either (λ a. either (λ b. p.own x a b) (λ d. let r = (p.counted x a).1 in let z = (q.declared x d).0 in absurd (omega (arith, r, z))) k) (λ c. either (λ b. let r = (p.declared x b).1 in let z = (q.counted x c).0 in absurd (omega (arith, r, z))) (λ d. q.own x c d) k) h);
    }

-- one declared variable
pub apart_one : (n : ℕ) → Apart n (n + 1) (λ x. ⊥) (λ x. x ≡ n)
apart_one n = record { counted = (λ x h. absurd h); declared = (λ x e. (omega (arith, e), omega (arith, e))); own = (λ x h k. h) }

-- ---- an expression that is bound where all numbers below are in scope

module _ (o : Offers) (m lo : ℕ) where
  mutual
    pub counts_range : (e : Expr ℕ) (vs : formed.Scope) → ((r : ℕ) → r < lo → Has vs r) → BoundExpr o m vs e → (x : ℕ) → Counts e x → (lo ≤ x) × (x < m)
    counts_range (NullExpr at) vs all b x h = absurd h
    counts_range (BoolExpr at truth) vs all b x h = absurd h
    counts_range (IntExpr at number) vs all b x h = absurd h
    counts_range (VarExpr at y) vs all b x h = absurd h
    counts_range (CallExpr at g args) vs all b x h = all_range args vs all b.1 x h
    counts_range (NegExpr at a) vs all b x h = counts_range a vs all b x h
    counts_range (NotExpr at a) vs all b x h = counts_range a vs all b x h
    counts_range (LenExpr at a) vs all b x h = counts_range a vs all b x h
    counts_range (BinaryExpr at q a d) vs all b x h = either (λ k. counts_range a vs all b.0 x k) (λ k. counts_range d vs all b.1 x k) h
    counts_range (IsExpr at a ty) vs all b x h = counts_range a vs all b.0 x h
    counts_range (IndexExpr at a d) vs all b x h = either (λ k. counts_range a vs all b.0 x k) (λ k. counts_range d vs all b.1 x k) h
    counts_range (FieldExpr at a name) vs all b x h = counts_range a vs all b x h
    counts_range (ListExpr at items) vs all b x h = all_range items vs all b x h
    counts_range (RepeatExpr at a d) vs all b x h = either (λ k. counts_range a vs all b.0 x k) (λ k. counts_range d vs all b.1 x k) h
    counts_range (RecordExpr at fs) vs all b x h = fields_range fs vs all b.1 x h
    counts_range (QuantExpr at every y a d body) vs all b x h =
        either (λ e. let less = b.0.0 in let past : y < lo → ⊥ = λ k. b.0.1 (all y k) in (omega (arith, past, e), omega (arith, less, e)))
        (λ k. either (λ z. counts_range a vs all b.1 x z) (λ z. either (λ w. counts_range d vs all b.2 x w) (λ w. counts_range body (y ∷ vs) (λ r l. inr (all r l)) b.3 x w) z) k) h

    all_range : (es : Exprs ℕ) (vs : formed.Scope) → ((r : ℕ) → r < lo → Has vs r) → BoundExprs o m vs es → (x : ℕ) → CountsAll es x → (lo ≤ x) × (x < m)
    all_range NoExprs vs all b x h = absurd h
    all_range (MoreExprs e es) vs all b x h = either (λ k. counts_range e vs all b.0 x k) (λ k. all_range es vs all b.1 x k) h

    fields_range : (fs : Fields ℕ) (vs : formed.Scope) → ((r : ℕ) → r < lo → Has vs r) → BoundFields o m vs fs → (x : ℕ) → CountsFields fs x → (lo ≤ x) × (x < m)
    fields_range NoFields vs all b x h = absurd h
    fields_range (MoreFields name e fs) vs all b x h = either (λ k. counts_range e vs all b.0 x k) (λ k. fields_range fs vs all b.1 x k) h

  pub clauses_range : (es : List (Expr ℕ)) (vs : formed.Scope) → ((r : ℕ) → r < lo → Has vs r) → BoundClauses o m vs es → (x : ℕ) → CountsAll (exprs_of es) x → (lo ≤ x) × (x < m)
  clauses_range [] vs all b x h = absurd h
  clauses_range (e ∷ es) vs all b x h = either (λ k. counts_range e vs all b.0 x k) (λ k. clauses_range es vs all b.1 x k) h

  pub expr_apart : (e : Expr ℕ) (vs : formed.Scope) → ((r : ℕ) → r < lo → Has vs r) → BoundExpr o m vs e → Apart lo m (Counts e) (λ x. ⊥)
  expr_apart e vs all b = record { counted = (λ x h. counts_range e vs all b x h); declared = (λ x h. absurd h); own = (λ x h k. k) }

  pub clauses_apart : (es : List (Expr ℕ)) (vs : formed.Scope) → ((r : ℕ) → r < lo → Has vs r) → BoundClauses o m vs es → Apart lo m (CountsAll (exprs_of es)) (λ x. ⊥)
  clauses_apart es vs all b = record { counted = (λ x h. clauses_range es vs all b x h); declared = (λ x h. absurd h); own = (λ x h k. k) }

-- ---- blocks

-- of a block
abbrev pub BlockApart : ℕ → ℕ → List (Stmt ℕ) → Type 0
BlockApart lo hi xs = Apart lo hi (CountsStmts (stmts_of xs)) (DeclaresIn (stmts_of xs))

pub counts_append : (xs ys : List (Stmt ℕ)) (x : ℕ) → CountsStmts (stmts_of (xs ++ ys)) x → CountsStmts (stmts_of xs) x ⊎ CountsStmts (stmts_of ys) x
counts_append [] ys x h = inr h
counts_append (s ∷ xs) ys x (inl h) = inl (inl h)
counts_append (s ∷ xs) ys x (inr h) = either (λ k. inl (inr k)) (λ k. inr k) (counts_append xs ys x h)

pub declares_append : (xs ys : List (Stmt ℕ)) (x : ℕ) → DeclaresIn (stmts_of (xs ++ ys)) x → DeclaresIn (stmts_of xs) x ⊎ DeclaresIn (stmts_of ys) x
declares_append [] ys x h = inr h
declares_append (s ∷ xs) ys x (inl h) = inl (inl h)
declares_append (s ∷ xs) ys x (inr h) = either (λ k. inl (inr k)) (λ k. inr k) (declares_append xs ys x h)

pub blocks_apart : (lo mid hi : ℕ) (xs ys : List (Stmt ℕ)) → lo ≤ mid → mid ≤ hi → BlockApart lo mid xs → BlockApart mid hi ys → BlockApart lo hi (xs ++ ys)
blocks_apart lo mid hi xs ys low high p q =
    apart_less lo hi (λ x. CountsStmts (stmts_of xs) x ⊎ CountsStmts (stmts_of ys) x) (λ x. DeclaresIn (stmts_of xs) x ⊎ DeclaresIn (stmts_of ys) x) (CountsStmts (stmts_of (xs ++ ys))) (DeclaresIn (stmts_of (xs ++ ys)))
    (counts_append xs ys) (declares_append xs ys) (apart_both lo mid hi (CountsStmts (stmts_of xs)) (DeclaresIn (stmts_of xs)) (CountsStmts (stmts_of ys)) (DeclaresIn (stmts_of ys)) low high p q)
