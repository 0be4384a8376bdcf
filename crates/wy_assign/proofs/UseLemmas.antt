-- Uses in expressions: the least place is exact.
use Rattle.std.proofs.Common.{◌≡◌, ◌≢◌, ◌⊎◌, inl, inr, ℕ, zero, suc, Bool, true, false, ◌||◌, ◌==◌, cond, List, [], ◌∷◌, ◌++◌, Option, Some, None, refl, sym, ap, ◌∙◌, subst, arith}
use Rattle.std.proofs.lemmas.List.{append-nil}
use Rattle.std.proofs.lemmas.Bool.Decides.{eqb_tells}
use Rattle.wy_core.specs.CoreTree.{Expr, NullExpr, BoolExpr, IntExpr, VarExpr, CallExpr, NegExpr, NotExpr, LenExpr, BinaryExpr, IsExpr, IndexExpr, FieldExpr, ListExpr, RepeatExpr, RecordExpr, QuantExpr, Exprs, NoExprs, MoreExprs, Fields, NoFields, MoreFields, Step, IndexStep, FieldStep}
use Rattle.wy_assign.specs.Paths.{Event, Uses, Sets, Unsets, Through, Nothing, One, Then, Maybe, Times, AnyTimes, is_early, ExprPath, ExprsPath, FieldsPath, ClausesPath, OptionPath, StepPath, StepsPath}
use Rattle.wy_assign.specs.Assigned.{unset_behind, UsesUnset, SomeUse}
use Rattle.wy_assign.specs.Marks.{Marks, has}
use Rattle.wy_assign.specs.Faults.{noted_where, is_in, may_be_unset, expr_faults, exprs_faults, fields_faults, clauses_faults, option_faults, step_faults, steps_faults}
use Rattle.wy_assign.proofs.EventLemmas.{behind, uses_more, uses_split, uses_left, uses_right, Quiet, behind_quiet, uses_quiet, behind_reads}
use Rattle.wy_assign.proofs.CalmLemmas.{Calm, calm_expr, calm_exprs, calm_fields, calm_maybe, calm_then, calm_times, then_quiet, set_quiet, calm_clauses, calm_step, calm_steps}
use Rattle.wy_assign.proofs.LeastLemmas.{Least, least_two, least_one, least_none, least_where}
use Rattle.wy_lemmas.proofs.Choices.{cond_more, false_true as never, given, either}

pub same_start : (A : Through) (u v : ℕ → Bool) (k : ℕ) → ((x : ℕ) → u x ≡ v x) → SomeUse A u k → SomeUse A v k
same_start A u v k e s = (s.0, s.1, s.2, subst (λ b. UsesUnset s.0 k b s.1) (e s.0) s.3)

pub no_use : (u : ℕ → Bool) (k : ℕ) → SomeUse Nothing u k → ⊥
no_use u k s = subst (λ p. UsesUnset s.0 k (u s.0) p) s.2 s.3

one_of : (u : ℕ → Bool) (at y k : ℕ) → SomeUse (One (Uses at y)) u k → (u y ≡ true) × (at ≡ k)
one_of u at y k s = either
    (λ d. (subst (λ z. u z ≡ true) (same s.0 y d.1) d.0, d.2))
    (λ n. absurd n)
    (subst (λ p. UsesUnset s.0 k (u s.0) p) s.2 s.3)
  where
    same : (a b : ℕ) → (a == b) ≡ true → a ≡ b
    same a b e = either (λ (t : ((a == b) ≡ true) × (a ≡ b)). t.1) (λ (t : ((a == b) ≡ false) × (a ≢ b)). never (sym t.0 ∙ e)) (eqb_tells a b)

one_to : (u : ℕ → Bool) (at y : ℕ) → u y ≡ true → SomeUse (One (Uses at y)) u at
one_to u at y h = (y, Uses at y ∷ [], refl, inl (h, itself, refl))
  where
    itself : (y == y) ≡ true
    itself = either (λ (t : ((y == y) ≡ true) × (y ≡ y)). t.0) (λ (t : ((y == y) ≡ false) × (y ≢ y)). absurd (t.1 refl)) (eqb_tells y y)

then_of : (A B : Through) (u : ℕ → Bool) (k : ℕ) → Calm A → SomeUse (Then A B) u k → SomeUse A u k ⊎ SomeUse B u k
then_of A B u k a s =
    let t = s.2 in
    either (λ h. inl (s.0, t.0, t.3, h))
    (λ h. inr (s.0, t.1, t.4, uses_more s.0 k (unset_behind s.0 (u s.0) t.0) (u s.0) t.1 (behind_quiet (Some s.0) (u s.0) t.0 (a.quiet t.0 t.3)) h))
    (uses_split s.0 k (u s.0) t.0 t.1 (subst (λ p. UsesUnset s.0 k (u s.0) p) t.2 s.3))

pub after_reads : (x k : ℕ) (u : Bool) (A : Through) (a : Calm A) (p : List Event) → UsesUnset x k u p → UsesUnset x k u (a.some ++ p)
after_reads x k u A a p h = uses_right x k u a.some p (subst (λ b. UsesUnset x k b p) (sym (behind_reads (Some x) u a.some a.reads)) h)

then_to : (A B : Through) (u : ℕ → Bool) (k : ℕ) → Calm A → Calm B → SomeUse A u k ⊎ SomeUse B u k → SomeUse (Then A B) u k
then_to A B u k a b s = either
    (λ (h : SomeUse A u k). (h.0, h.1 ++ b.some, (h.1, b.some, refl, h.2, b.is_some), uses_left h.0 k (u h.0) h.1 b.some h.3))
    (λ (h : SomeUse B u k). (h.0, a.some ++ h.1, (a.some, h.1, refl, a.is_some, h.2), after_reads h.0 k (u h.0) A a h.1 h.3)) s

pub least_then : (P : ℕ → Type 0) (A B : Through) (u : ℕ → Bool) (o : Option ℕ) → Calm A → Calm B
    → Least (λ k. (P k ⊎ SomeUse A u k) ⊎ SomeUse B u k) o → Least (λ k. P k ⊎ SomeUse (Then A B) u k) o
least_then P A B u o a b l = least_two P (λ k. SomeUse A u k) (λ k. SomeUse B u k) (λ k. SomeUse (Then A B) u k) o
    (λ k. then_to A B u k a b) (λ k. then_of A B u k a) l

maybe_of : (b : Bool) (A : Through) (u : ℕ → Bool) (k : ℕ) → SomeUse (Maybe b A) u k → SomeUse A u k
maybe_of true A u k s = either (λ e. absurd (subst (λ p. UsesUnset s.0 k (u s.0) p) e s.3)) (λ h. (s.0, s.1, h, s.3)) s.2
maybe_of false A u k s = s

maybe_to : (b : Bool) (A : Through) (u : ℕ → Bool) (k : ℕ) → SomeUse A u k → SomeUse (Maybe b A) u k
maybe_to true A u k s = (s.0, s.1, inr s.2, s.3)
maybe_to false A u k s = s

-- ---- quantifiers

abbrev Turn : ℕ → Through → Through
Turn y A = Then (One (Sets y)) A

times_use : (n x k y : ℕ) (v : Bool) (A : Through) → ((p : List Event) → A p → Quiet p) → (p : List Event) → Times n (Turn y A) p → UsesUnset x k v p
    → (q : List Event) × A q × UsesUnset x k (cond (x == y) false v) q
times_use zero x k y v A f p t h = absurd (subst (λ z. UsesUnset x k v z) t h)
times_use (suc n) x k y v A f p t h =
    let s = t.3 in
    let whole : t.0 ≡ Sets y ∷ s.1 = s.2 ∙ ap (λ z. z ++ s.1) s.3 in
    either
    (λ e. (s.1, s.4, subst (λ z. UsesUnset x k v z) whole e))
    (λ e.
    let more = times_use n x k y (unset_behind x v t.0) A f t.1 t.4 e in (
      more.0,
      more.1,
      uses_more x k (cond (x == y) false (unset_behind x v t.0)) (cond (x == y) false v) more.0
          (cond_more (x == y) false (unset_behind x v t.0) v (behind_quiet (Some x) v t.0 (then_quiet (One (Sets y)) A (set_quiet y) f t.0 s))) more.2,
    ))
    (uses_split x k v t.0 t.1 (subst (λ z. UsesUnset x k v z) t.2 h))

quant_of : (A : Through) (u : ℕ → Bool) (y k : ℕ) → Calm A → SomeUse (AnyTimes (Turn y A)) u k → SomeUse A (given u y) k
quant_of A u y k a s = let t = times_use s.2.0 s.0 k y (u s.0) A a.quiet s.1 s.2.1 s.3 in (s.0, t.0, t.1, t.2)

quant_to : (A : Through) (u : ℕ → Bool) (y k : ℕ) → SomeUse A (given u y) k → SomeUse (AnyTimes (Turn y A)) u k
quant_to A u y k s = (s.0, Sets y ∷ s.1, (1, (Sets y ∷ s.1, [], sym (append-nil (Sets y ∷ s.1)), (Sets y ∷ [], s.1, refl, refl, s.2), refl)), s.3)

is_in-last : (bound : List ℕ) (y x : ℕ) → is_in (bound ++ y ∷ []) x ≡ (is_in bound x || x == y)
is_in-last [] y x = or_false (x == y)
  where
    or_false : (b : Bool) → (b || false) ≡ b
    or_false true = refl
    or_false false = refl
is_in-last (z ∷ zs) y x = ap (λ b. (x == z) || b) (is_in-last zs y x) ∙ or_assoc (x == z) (is_in zs x) (x == y)
  where
    or_assoc : (a b c : Bool) → (a || (b || c)) ≡ ((a || b) || c)
    or_assoc true b c = refl
    or_assoc false b c = refl

bound_more : (s : Marks) (bound : List ℕ) (y x : ℕ) → may_be_unset s (bound ++ y ∷ []) x ≡ given (may_be_unset s bound) y x
bound_more s bound y x = ap (λ b. cond b false (has s x)) (is_in-last bound y x) ∙ turned (is_in bound x) (x == y) (has s x)
  where
    turned : (a b c : Bool) → cond (a || b) false c ≡ cond b false (cond a false c)
    turned true true c = refl
    turned true false c = refl
    turned false true c = refl
    turned false false c = refl

-- ---- expressions

abbrev Noted : (ℕ → Type 0) → Through → (ℕ → Bool) → ℕ → Type 0
Noted P A u k = P k ⊎ SomeUse A u k

least_quant : (P : ℕ → Type 0) (A : Through) (s : Marks) (bound : List ℕ) (y : ℕ) (o : Option ℕ) → Calm A
    → Least (Noted P A (may_be_unset s (bound ++ y ∷ []))) o → Least (Noted P (AnyTimes (Turn y A)) (may_be_unset s bound)) o
least_quant P A s bound y o a l = least_one P (λ k. SomeUse A (may_be_unset s (bound ++ y ∷ [])) k) (λ k. SomeUse (AnyTimes (Turn y A)) (may_be_unset s bound) k) o
    (λ k h. quant_to A (may_be_unset s bound) y k (same_start A (may_be_unset s (bound ++ y ∷ [])) (given (may_be_unset s bound) y) k (bound_more s bound y) h))
    (λ k h. same_start A (given (may_be_unset s bound) y) (may_be_unset s (bound ++ y ∷ [])) k (λ x. sym (bound_more s bound y x)) (quant_of A (may_be_unset s bound) y k a h)) l

least_nothing : (P : ℕ → Type 0) (u : ℕ → Bool) (o : Option ℕ) → Least P o → Least (Noted P Nothing u) o
least_nothing P u o l = least_none P (λ k. SomeUse Nothing u k) o (no_use u) l

mutual
  pub fault_expr : (e : Expr ℕ) (s : Marks) (bound : List ℕ) (P : ℕ → Type 0) (o : Option ℕ) → Least P o → Least (λ k. P k ⊎ SomeUse (ExprPath e) (may_be_unset s bound) k) (expr_faults s bound e o)
  fault_expr (NullExpr at) s bound P o l = least_nothing P (may_be_unset s bound) o l
  fault_expr (BoolExpr at truth) s bound P o l = least_nothing P (may_be_unset s bound) o l
  fault_expr (IntExpr at number) s bound P o l = least_nothing P (may_be_unset s bound) o l
  fault_expr (VarExpr at x) s bound P o l = least_where P (λ k. SomeUse (One (Uses at x)) (may_be_unset s bound) k) (may_be_unset s bound x) o at
      (one_to (may_be_unset s bound) at x) (one_of (may_be_unset s bound) at x) l
  fault_expr (CallExpr at routine args) s bound P o l = fault_exprs args s bound P o l
  fault_expr (NegExpr at a) s bound P o l = fault_expr a s bound P o l
  fault_expr (NotExpr at a) s bound P o l = fault_expr a s bound P o l
  fault_expr (LenExpr at a) s bound P o l = fault_expr a s bound P o l
  fault_expr (BinaryExpr at op a b) s bound P o l =
      let u = may_be_unset s bound in let o1 = expr_faults s bound a o in let o2 = expr_faults s bound b o1 in let B = Maybe (is_early op) (ExprPath b) in
      least_then P (ExprPath a) B u o2 (calm_expr a) (calm_maybe (is_early op) (ExprPath b) (calm_expr b))
      (least_one (λ k. P k ⊎ SomeUse (ExprPath a) u k) (λ k. SomeUse (ExprPath b) u k) (λ k. SomeUse B u k) o2
      (λ k. maybe_to (is_early op) (ExprPath b) u k) (λ k. maybe_of (is_early op) (ExprPath b) u k)
      (fault_expr b s bound (λ k. P k ⊎ SomeUse (ExprPath a) u k) o1 (fault_expr a s bound P o l)))
  fault_expr (IsExpr at a ty) s bound P o l = fault_expr a s bound P o l
  fault_expr (IndexExpr at a b) s bound P o l =
      least_then P (ExprPath a) (ExprPath b) (may_be_unset s bound) (expr_faults s bound b (expr_faults s bound a o)) (calm_expr a) (calm_expr b)
      (fault_expr b s bound (λ k. P k ⊎ SomeUse (ExprPath a) (may_be_unset s bound) k) (expr_faults s bound a o) (fault_expr a s bound P o l))
  fault_expr (FieldExpr at a name) s bound P o l = fault_expr a s bound P o l
  fault_expr (ListExpr at items) s bound P o l = fault_exprs items s bound P o l
  fault_expr (RepeatExpr at a b) s bound P o l =
      least_then P (ExprPath a) (ExprPath b) (may_be_unset s bound) (expr_faults s bound b (expr_faults s bound a o)) (calm_expr a) (calm_expr b)
      (fault_expr b s bound (λ k. P k ⊎ SomeUse (ExprPath a) (may_be_unset s bound) k) (expr_faults s bound a o) (fault_expr a s bound P o l))
  fault_expr (RecordExpr at fs) s bound P o l = fault_fields fs s bound P o l
  fault_expr (QuantExpr at all x a b body) s bound P o l =
      let u = may_be_unset s bound in let o1 = expr_faults s bound a o in let o2 = expr_faults s bound b o1 in let o3 = expr_faults s (bound ++ x ∷ []) body o2 in
      let PA : ℕ → Type 0 = λ k. P k ⊎ SomeUse (ExprPath a) u k in let PB : ℕ → Type 0 = λ k. PA k ⊎ SomeUse (ExprPath b) u k in
      let T = AnyTimes (Turn x (ExprPath body)) in
      let ct = calm_times (Turn x (ExprPath body)) (then_quiet (One (Sets x)) (ExprPath body) (set_quiet x) (calm_expr body).quiet) in
      least_then P (ExprPath a) (Then (ExprPath b) T) u o3 (calm_expr a) (calm_then (ExprPath b) T (calm_expr b) ct)
      (least_then PA (ExprPath b) T u o3 (calm_expr b) ct
      (least_quant PB (ExprPath body) s bound x o3 (calm_expr body)
      (fault_expr body s (bound ++ x ∷ []) PB o2 (fault_expr b s bound PA o1 (fault_expr a s bound P o l)))))

  pub fault_exprs : (es : Exprs ℕ) (s : Marks) (bound : List ℕ) (P : ℕ → Type 0) (o : Option ℕ) → Least P o → Least (λ k. P k ⊎ SomeUse (ExprsPath es) (may_be_unset s bound) k) (exprs_faults s bound es o)
  fault_exprs NoExprs s bound P o l = least_nothing P (may_be_unset s bound) o l
  fault_exprs (MoreExprs e es) s bound P o l =
      least_then P (ExprPath e) (ExprsPath es) (may_be_unset s bound) (exprs_faults s bound es (expr_faults s bound e o)) (calm_expr e) (calm_exprs es)
      (fault_exprs es s bound (λ k. P k ⊎ SomeUse (ExprPath e) (may_be_unset s bound) k) (expr_faults s bound e o) (fault_expr e s bound P o l))

  pub fault_fields : (fs : Fields ℕ) (s : Marks) (bound : List ℕ) (P : ℕ → Type 0) (o : Option ℕ) → Least P o → Least (λ k. P k ⊎ SomeUse (FieldsPath fs) (may_be_unset s bound) k) (fields_faults s bound fs o)
  fault_fields NoFields s bound P o l = least_nothing P (may_be_unset s bound) o l
  fault_fields (MoreFields name e fs) s bound P o l =
      least_then P (ExprPath e) (FieldsPath fs) (may_be_unset s bound) (fields_faults s bound fs (expr_faults s bound e o)) (calm_expr e) (calm_fields fs)
      (fault_fields fs s bound (λ k. P k ⊎ SomeUse (ExprPath e) (may_be_unset s bound) k) (expr_faults s bound e o) (fault_expr e s bound P o l))

-- ---- clauses, values that may be absent, steps

pub fault_clauses : (es : List (Expr ℕ)) (s : Marks) (P : ℕ → Type 0) (o : Option ℕ) → Least P o → Least (λ k. P k ⊎ SomeUse (ClausesPath es) (has s) k) (clauses_faults s es o)
fault_clauses [] s P o l = least_nothing P (has s) o l
fault_clauses (e ∷ es) s P o l =
    least_then P (ExprPath e) (ClausesPath es) (has s) (clauses_faults s es (expr_faults s [] e o)) (calm_expr e) (calm_clauses es)
    (fault_clauses es s (λ k. P k ⊎ SomeUse (ExprPath e) (has s) k) (expr_faults s [] e o) (fault_expr e s [] P o l))

pub fault_option : (v : Option (Expr ℕ)) (s : Marks) (P : ℕ → Type 0) (o : Option ℕ) → Least P o → Least (λ k. P k ⊎ SomeUse (OptionPath v) (has s) k) (option_faults s v o)
fault_option None s P o l = least_nothing P (has s) o l
fault_option (Some e) s P o l = fault_expr e s [] P o l

fault_step : (st : Step ℕ) (s : Marks) (P : ℕ → Type 0) (o : Option ℕ) → Least P o → Least (λ k. P k ⊎ SomeUse (StepPath st) (has s) k) (step_faults s st o)
fault_step (IndexStep at e) s P o l = fault_expr e s [] P o l
fault_step (FieldStep at name) s P o l = least_nothing P (has s) o l

pub fault_steps : (ss : List (Step ℕ)) (s : Marks) (P : ℕ → Type 0) (o : Option ℕ) → Least P o → Least (λ k. P k ⊎ SomeUse (StepsPath ss) (has s) k) (steps_faults s ss o)
fault_steps [] s P o l = least_nothing P (has s) o l
fault_steps (st ∷ ss) s P o l =
    least_then P (StepPath st) (StepsPath ss) (has s) (steps_faults s ss (step_faults s st o)) (calm_step st) (calm_steps ss)
    (fault_steps ss s (λ k. P k ⊎ SomeUse (StepPath st) (has s) k) (step_faults s st o) (fault_step st s P o l))

-- the use of a path update
pub fault_use : (at x : ℕ) (s : Marks) (P : ℕ → Type 0) (o : Option ℕ) → Least P o → Least (λ k. P k ⊎ SomeUse (One (Uses at x)) (has s) k) (noted_where (has s x) o at)
fault_use at x s P o l = least_where P (λ k. SomeUse (One (Uses at x)) (has s) k) (has s x) o at (one_to (has s) at x) (one_of (has s) at x) l
