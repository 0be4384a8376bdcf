-- What is live before an expression or a statement: what follows may be taken out, one turn of a loop is enough, and it has registers.
use Rattle.std.proofs.Common.{◌≡◌, ◌<◌, ◌⊎◌, inl, inr, ℕ, true, false, List, [], ◌∷◌, Option, Some, None, sym, ◌∙◌, subst, arith}
use Rattle.wy_core.specs.CoreTree.{Expr, Exprs, Step, IndexStep, FieldStep, Stmt, DeclareStmt, AssignStmt, CallStmt, ReturnStmt, AssertStmt, BreakStmt, ContinueStmt, SkipStmt, FailStmt, IfStmt, WhileStmt, Stmts, NoStmts, MoreStmts}
use Rattle.wy_core.specs.formed.Offers.{Offers}
use Rattle.wy_core.specs.formed.Bound.{Scope, Has, Around, looped, BoundExpr, BoundOption, BoundPath, BoundStmt, BoundStmts, behind}
use Rattle.wy_lemmas.proofs.Choices.{either}
use Rattle.wy_code_spec.specs.wy_live.Sets.{Variables, has, with, without, joined}
use Rattle.wy_code_spec.specs.wy_live.Walks.{before, before_all, before_steps, declare_live, assign_live, return_live, alone, live, live_all, head_live, around}
use Rattle.wy_code_spec.specs.wy_live.declared.walk.Ends.{Ends}
use Rattle.wy_code_spec.specs.compiled.Statements.{inside, turn}
use Rattle.wy_gen_laws.specs.expressions.Standing.{AreKnown}
use Rattle.wy_gen_laws.proofs.expressions_lemmas.KnownLemmas.{with_has, without_says, without_other, still_live, all_still_live, before_cases, all_cases, known_before, known_all, with_keeps}
use Rattle.wy_gen_laws.specs.statements.Led.{EndsKnown}
use Rattle.wy_gen_laws.proofs.statements_lemmas.SetLemmas.{with_cases, joined_cases, joined_left, joined_right}

-- ---- a variable, or something else

module _ (x : ℕ) (A : Type 0) where
  -- where the first set has the variable, the second has it, or the other thing holds
  abbrev pub Or : Variables → Variables → Type 0
  Or t s = has t x ≡ true → (has s x ≡ true) ⊎ A

  or_with : (y : ℕ) (t s : Variables) → Or t s → Or (with t y) (with s y)
  or_with y t s f h =
      either (λ e. inl (subst (λ (z : ℕ). has (with s y) z ≡ true) (sym e) (with_has s y))) (λ g. either (λ k. inl (with_keeps s y x k)) (λ a. inr a) (f g)) (with_cases t y x h)

  or_without : (y : ℕ) (t s : Variables) → Or t s → Or (without t y) (without s y)
  or_without y t s f h = let g = without_says t y x h in either (λ k. inl (without_other s y x g.0 ∙ k)) (λ a. inr a) (f g.1)

  or_joined : (t u s v : Variables) → Or t s → Or u v → Or (joined t u) (joined s v)
  or_joined t u s v f g h = either (λ k. either (λ i. inl (joined_left s v x i)) (λ a. inr a) (f k)) (λ k. either (λ i. inl (joined_right s v x i)) (λ a. inr a) (g k)) (joined_cases t u x h)

  -- ---- what follows may be taken out

  pub apart : (e : Expr ℕ) (t s : Variables) → Or t s → Or (before e t) (before e s)
  apart e t s f h = either (λ g. either (λ k. inl (still_live x e s k)) (λ a. inr a) (f g)) (λ used. inl (used s)) (before_cases x e t h)

  all_apart : (es : Exprs ℕ) (t s : Variables) → Or t s → Or (before_all es t) (before_all es s)
  all_apart es t s f h = either (λ g. either (λ k. inl (all_still_live x es s k)) (λ a. inr a) (f g)) (λ used. inl (used s)) (all_cases x es t h)

  steps_apart : (path : List (Step ℕ)) (t s : Variables) → Or t s → Or (before_steps path t) (before_steps path s)
  steps_apart [] t s f h = f h
  steps_apart (IndexStep at e ∷ path) t s f h = apart e (before_steps path t) (before_steps path s) (λ g. steps_apart path t s f g) h
  steps_apart (FieldStep at name ∷ path) t s f h = steps_apart path t s f h

  declare_apart : (y : ℕ) (value : Option (Expr ℕ)) (t s : Variables) → Or t s → Or (declare_live y value t) (declare_live y value s)
  declare_apart y None t s f h = f h
  declare_apart y (Some e) t s f h = apart e (without t y) (without s y) (λ g. or_without y t s f g) h

  assign_apart : (y : ℕ) (path : List (Step ℕ)) (e : Expr ℕ) (t s : Variables) → Or t s → Or (assign_live y path e t) (assign_live y path e s)
  assign_apart y [] e t s f h = apart e (without t y) (without s y) (λ g. or_without y t s f g) h
  assign_apart y (step ∷ path) e t s f h = steps_apart (step ∷ path) (before e (with t y)) (before e (with s y)) (λ g. apart e (with t y) (with s y) (λ k. or_with y t s f k) g) h

  mutual
    pub live_apart : (st : Stmt ℕ) (t s : Variables) (d e : Ends) → Or t s → Or d.exit e.exit → Or d.again e.again → Or (live st t d) (live st s e)
    live_apart (DeclareStmt at ty y value) t s d e f g k h = declare_apart y value t s f h
    live_apart (AssignStmt at y path v) t s d e f g k h = assign_apart y path v t s f h
    live_apart (CallStmt at routine args) t s d e f g k h = all_apart args t s f h
    live_apart (ReturnStmt at value) t s d e f g k h = inl h
    live_apart (AssertStmt at v) t s d e f g k h = f h
    live_apart (BreakStmt at) t s d e f g k h = g h
    live_apart (ContinueStmt at) t s d e f g k h = k h
    live_apart (SkipStmt at) t s d e f g k h = f h
    live_apart (FailStmt at) t s d e f g k h = inl h
    live_apart (IfStmt at v first second) t s d e f g k h =
        apart v (joined (live_all first t d) (live_all second t d)) (joined (live_all first s e) (live_all second s e))
        (λ i. or_joined (live_all first t d) (live_all second t d) (live_all first s e) (live_all second s e) (λ j. lives_apart first t s d e f g k j) (λ j. lives_apart second t s d e f g k j) i) h
    live_apart (WhileStmt at v invariants body) t s d e f g k h =
        apart v (joined (live_all body [] (alone t)) t) (joined (live_all body [] (alone s)) s)
        (λ i. or_joined (live_all body [] (alone t)) t (live_all body [] (alone s)) s (λ j. lives_apart body [] [] (alone t) (alone s) (λ l. inl l) f (λ l. inl l) j) f i) h

    pub lives_apart : (ss : Stmts ℕ) (t s : Variables) (d e : Ends) → Or t s → Or d.exit e.exit → Or d.again e.again → Or (live_all ss t d) (live_all ss s e)
    lives_apart NoStmts t s d e f g k h = f h
    lives_apart (MoreStmts st rest) t s d e f g k h = live_apart st (live_all rest t d) (live_all rest s e) d e (λ i. lives_apart rest t s d e f g k i) g k h

-- one turn of a loop is enough: what is live before its test, at whatever turn, is live at its head
pub at_head : (e : Expr ℕ) (body : Stmts ℕ) (s : Variables) (x : ℕ) → has (before e (turn e body s)) x ≡ true → has (head_live e body s) x ≡ true
at_head e body s x h = either (λ g. g) (λ g. g) (apart x InHead e (turn e body s) (joined once s) grown h)
  where
    InHead : Type 0
    InHead = has (head_live e body s) x ≡ true

    once : Variables
    once = live_all body [] (alone s)

    turned : has (inside e body s) x ≡ true → (has once x ≡ true) ⊎ InHead
    turned g = lives_apart x InHead body (head_live e body s) [] (around s (head_live e body s)) (alone s) (λ k. inr k) (λ k. inl k) (λ k. inr k) g

    grown : has (turn e body s) x ≡ true → (has (joined once s) x ≡ true) ⊎ InHead
    grown g = or_joined x InHead (inside e body s) s once s turned (λ k. inl k) g

-- ---- scopes

-- a variable of an outer scope is in the inner one
pub behind_has : (x : ℕ) (vs : Scope) (st : Stmt ℕ) → Has vs x → Has (behind vs st) x
behind_has x vs (DeclareStmt at t y value) h = inr h
behind_has x vs (AssignStmt at y path value) h = h
behind_has x vs (CallStmt at routine args) h = h
behind_has x vs (ReturnStmt at value) h = h
behind_has x vs (AssertStmt at test) h = h
behind_has x vs (BreakStmt at) h = h
behind_has x vs (ContinueStmt at) h = h
behind_has x vs (SkipStmt at) h = h
behind_has x vs (FailStmt at) h = h
behind_has x vs (IfStmt at test first second) h = h
behind_has x vs (WhileStmt at test invariants body) h = h

module _ (o : Offers) (n : ℕ) where
  -- the variables in scope have registers, and so has a new one
  pub below_behind : (a : Around) (vs : Scope) (st : Stmt ℕ) → BoundStmt o n a vs st → ((x : ℕ) → Has vs x → x < n) → (x : ℕ) → Has (behind vs st) x → x < n
  below_behind a vs (DeclareStmt at t y value) b f x (inl e) = let l = b.2.0 in omega (arith, e, l)
  below_behind a vs (DeclareStmt at t y value) b f x (inr h) = f x h
  below_behind a vs (AssignStmt at y path value) b f x h = f x h
  below_behind a vs (CallStmt at routine args) b f x h = f x h
  below_behind a vs (ReturnStmt at value) b f x h = f x h
  below_behind a vs (AssertStmt at test) b f x h = f x h
  below_behind a vs (BreakStmt at) b f x h = f x h
  below_behind a vs (ContinueStmt at) b f x h = f x h
  below_behind a vs (SkipStmt at) b f x h = f x h
  below_behind a vs (FailStmt at) b f x h = f x h
  below_behind a vs (IfStmt at test first second) b f x h = f x h
  below_behind a vs (WhileStmt at test invariants body) b f x h = f x h

-- the same set in another scope
pub known_in : (n : ℕ) (vs ws : Scope) (s : Variables) → ((x : ℕ) → Has ws x → x < n) → AreKnown n vs s → AreKnown n ws s
known_in n vs ws s below h = record { below = below; within = h.within }

module _ (n : ℕ) (vs : Scope) where
  pub known_with : (s : Variables) (y : ℕ) → y < n → AreKnown n vs s → AreKnown n vs (with s y)
  known_with s y less h = record { below = h.below; within = λ x i. either (λ e. let l : x < n = omega (arith, e, less) in l) (λ k. h.within x k) (with_cases s y x i) }

  pub known_without : (s : Variables) (y : ℕ) → AreKnown n vs s → AreKnown n vs (without s y)
  known_without s y h = record { below = h.below; within = λ x i. h.within x (without_says s y x i).1 }

  pub known_joined : (s t : Variables) → AreKnown n vs s → AreKnown n vs t → AreKnown n vs (joined s t)
  known_joined s t h g = record { below = h.below; within = λ x i. either (λ k. h.within x k) (λ k. g.within x k) (joined_cases s t x i) }

  pub known_none : (s : Variables) → AreKnown n vs s → AreKnown n vs []
  known_none s h = record { below = h.below; within = λ x i. absurd (let e : false ≡ true = i in cc) }

-- ---- what is live before a statement has registers

module _ (o : Offers) (n : ℕ) where
  pub known_steps : (vs : Scope) (path : List (Step ℕ)) (s : Variables) → BoundPath o n vs path → AreKnown n vs s → AreKnown n vs (before_steps path s)
  known_steps vs [] s b h = h
  known_steps vs (IndexStep at e ∷ path) s b h = known_before o n n (omega arith) vs e (before_steps path s) b.0 (known_steps vs path s b.1 h)
  known_steps vs (FieldStep at name ∷ path) s b h = known_steps vs path s b h

  known_declare : (vs : Scope) (y : ℕ) (value : Option (Expr ℕ)) (s : Variables) → BoundOption o n vs value → AreKnown n vs s → AreKnown n vs (declare_live y value s)
  known_declare vs y None s b h = h
  known_declare vs y (Some v) s b h = known_before o n n (omega arith) vs v (without s y) b (known_without n vs s y h)

  known_assign : (vs : Scope) (y : ℕ) (path : List (Step ℕ)) (e : Expr ℕ) (s : Variables) → Has vs y → BoundPath o n vs path → BoundExpr o n vs e → AreKnown n vs s → AreKnown n vs (assign_live y path e s)
  known_assign vs y [] e s there bp b h = known_before o n n (omega arith) vs e (without s y) b (known_without n vs s y h)
  known_assign vs y (step ∷ path) e s there bp b h = known_steps vs (step ∷ path) (before e (with s y)) bp (known_before o n n (omega arith) vs e (with s y) b (known_with n vs s y (h.below y there) h))

  known_return : (vs : Scope) (value : Option (Expr ℕ)) (s : Variables) → BoundOption o n vs value → AreKnown n vs s → AreKnown n vs (return_live value)
  known_return vs None s b h = known_none n vs s h
  known_return vs (Some e) s b h = known_before o n n (omega arith) vs e [] b (known_none n vs s h)

  mutual
    pub known_live : (st : Stmt ℕ) (a : Around) (vs : Scope) (s : Variables) (ends : Ends) → BoundStmt o n a vs st → EndsKnown n vs s ends → AreKnown n vs (live st s ends)
    known_live (DeclareStmt at ty y value) a vs s ends b h = known_declare vs y value s b.1 h.after
    known_live (AssignStmt at y path v) a vs s ends b h = known_assign vs y path v s b.0 b.1 b.2 h.after
    known_live (CallStmt at routine args) a vs s ends b h = known_all o n n (omega arith) vs args s b.1 h.after
    known_live (ReturnStmt at value) a vs s ends b h = known_return vs value s b.1 h.after
    known_live (AssertStmt at v) a vs s ends b h = h.after
    known_live (BreakStmt at) a vs s ends b h = h.exit
    known_live (ContinueStmt at) a vs s ends b h = h.again
    known_live (SkipStmt at) a vs s ends b h = h.after
    known_live (FailStmt at) a vs s ends b h = known_none n vs s h.after
    known_live (IfStmt at v first second) a vs s ends b h =
        known_before o n n (omega arith) vs v (joined (live_all first s ends) (live_all second s ends)) b.0
        (known_joined n vs (live_all first s ends) (live_all second s ends) (known_lives first a vs s ends b.1 h) (known_lives second a vs s ends b.2 h))
    known_live (WhileStmt at v invariants body) a vs s ends b h =
        known_before o n n (omega arith) vs v (joined (live_all body [] (alone s)) s) b.0
        (known_joined n vs (live_all body [] (alone s)) s (known_lives body (looped a) vs [] (alone s) b.2 (record { after = known_none n vs s h.after; exit = h.after; again = known_none n vs s h.after })) h.after)

    pub known_lives : (ss : Stmts ℕ) (a : Around) (vs : Scope) (s : Variables) (ends : Ends) → BoundStmts o n a vs ss → EndsKnown n vs s ends → AreKnown n vs (live_all ss s ends)
    known_lives NoStmts a vs s ends b h = h.after
    known_lives (MoreStmts st rest) a vs s ends b h =
        let below = below_behind o n a vs st b.0 h.after.below in
        let rest_known : AreKnown n (behind vs st) (live_all rest s ends) = known_lives rest a (behind vs st) s ends b.1 (record { after = known_in n vs (behind vs st) s below h.after; exit = known_in n vs (behind vs st) ends.exit below h.exit; again = known_in n vs (behind vs st) ends.again below h.again }) in
        known_live st a vs (live_all rest s ends) ends b.0 (record { after = known_in n (behind vs st) vs (live_all rest s ends) h.after.below rest_known; exit = h.exit; again = h.again })
