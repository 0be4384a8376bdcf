-- Which variables are live before an expression, and where what it gives comes.
use Rattle.std.proofs.Common.{◌≡◌, ◌<◌, ◌≤◌, ◌⊎◌, inl, inr, ℕ, zero, suc, [], ◌∷◌, length, Bool, true, false, Some, refl, sym, ◌∙◌, ap, subst, arith}
use Rattle.std.specs.Prelude.{◌≢◌, cond}
use Rattle.wy_lemmas.proofs.Choices.{false_true as never}
use Rattle.wy_value.specs.Datum.{Datum}
use Rattle.wy_core.specs.CoreTree.{Expr, NullExpr, BoolExpr, IntExpr, VarExpr, CallExpr, NegExpr, NotExpr, LenExpr, BinaryExpr, IsExpr, IndexExpr, FieldExpr, ListExpr, RepeatExpr, RecordExpr, QuantExpr, Exprs, NoExprs, MoreExprs, Fields, NoFields, MoreFields}
use Rattle.wy_core.specs.formed.Offers.{Offers}
use Rattle.wy_core.specs.formed.Bound.{Scope, Has, BoundExpr, BoundExprs, BoundFields}
use Rattle.wy_code_spec.specs.wy_live.Sets as sets
use Rattle.wy_code_spec.specs.wy_live.Sets.{Variables, has, with, without, restored}
use Rattle.wy_code_spec.specs.wy_live.Walks.{before, before_all, before_fields, turned}
use Rattle.wy_vc_spec.specs.wy_sem.Expressions.{Store, slot, put}
use Rattle.wy_gen_laws.specs.Registers.{Live, Got}
use Rattle.wy_gen_laws.proofs.StoreLemmas.{put_here, put_other, put_size, live_put}
use Rattle.wy_gen_laws.specs.expressions.Standing.{AreKnown}

-- ---- a set with one variable more

pub with_has : (s : Variables) (x : ℕ) → has (with s x) x ≡ true
with_has [] zero = refl
with_has [] (suc x) = with_has [] x
with_has (c ∷ cs) zero = refl
with_has (c ∷ cs) (suc x) = with_has cs x

pub with_keeps : (s : Variables) (x y : ℕ) → has s y ≡ true → has (with s x) y ≡ true
with_keeps [] x y h = absurd (let e : false ≡ true = h in cc)
with_keeps (c ∷ cs) zero zero h = refl
with_keeps (c ∷ cs) zero (suc y) h = h
with_keeps (c ∷ cs) (suc x) zero h = h
with_keeps (c ∷ cs) (suc x) (suc y) h = with_keeps cs x y h

one_up : {x y : ℕ} {A : Type 0} → (y ≡ x) ⊎ A → (suc y ≡ suc x) ⊎ A
one_up (inl e) = inl (ap suc e)
one_up (inr h) = inr h

pub with_cases : (s : Variables) (x y : ℕ) → has (with s x) y ≡ true → (y ≡ x) ⊎ (has s y ≡ true)
with_cases [] zero zero h = inl refl
with_cases [] zero (suc y) h = absurd (let e : false ≡ true = h in cc)
with_cases [] (suc x) zero h = absurd (let e : false ≡ true = h in cc)
with_cases [] (suc x) (suc y) h = one_up (with_cases [] x y h)
with_cases (c ∷ cs) zero zero h = inl refl
with_cases (c ∷ cs) zero (suc y) h = inr h
with_cases (c ∷ cs) (suc x) zero h = inr h
with_cases (c ∷ cs) (suc x) (suc y) h = one_up (with_cases cs x y h)

-- ---- a set without a variable

bit_here : (s : Variables) (x : ℕ) (b : Bool) → has (sets.put s x b) x ≡ b
bit_here [] zero b = refl
bit_here [] (suc x) b = bit_here [] x b
bit_here (c ∷ cs) zero b = refl
bit_here (c ∷ cs) (suc x) b = bit_here cs x b

bit_other : (s : Variables) (x y : ℕ) (b : Bool) → y ≢ x → has (sets.put s x b) y ≡ has s y
bit_other [] zero zero b other = absurd (other refl)
bit_other [] zero (suc y) b other = refl
bit_other [] (suc x) zero b other = refl
bit_other [] (suc x) (suc y) b other = bit_other [] x y b (λ e. other (ap suc e))
bit_other (c ∷ cs) zero zero b other = absurd (other refl)
bit_other (c ∷ cs) zero (suc y) b other = refl
bit_other (c ∷ cs) (suc x) zero b other = refl
bit_other (c ∷ cs) (suc x) (suc y) b other = bit_other cs x y b (λ e. other (ap suc e))

without_here : (s : Variables) (x : ℕ) → has (without s x) x ≡ false
without_here s x = by (has s x) refl
  where
    by : (b : Bool) → has s x ≡ b → has (cond b (sets.put s x false) s) x ≡ false
    by true e = bit_here s x false
    by false e = e

pub without_other : (s : Variables) (x y : ℕ) → y ≢ x → has (without s x) y ≡ has s y
without_other s x y other = by (has s x)
  where
    by : (b : Bool) → has (cond b (sets.put s x false) s) y ≡ has s y
    by true = bit_other s x y false other
    by false = refl

pub same_or_not : (x y : ℕ) → (x ≡ y) ⊎ (x ≢ y)
same_or_not zero zero = inl refl
same_or_not zero (suc y) = inr (λ e. absurd (omega (arith, e)))
same_or_not (suc x) zero = inr (λ e. absurd (omega (arith, e)))
same_or_not (suc x) (suc y) = by (same_or_not x y)
  where
    by : (x ≡ y) ⊎ (x ≢ y) → (suc x ≡ suc y) ⊎ (suc x ≢ suc y)
    by (inl e) = inl (ap suc e)
    by (inr other) = inr (λ e. other (omega (arith, e)))

-- what is in the set without x is another variable, and in the set
pub without_says : (s : Variables) (x y : ℕ) → has (without s x) y ≡ true → (y ≢ x) × (has s y ≡ true)
without_says s x y h = by (same_or_not y x)
  where
    by : (y ≡ x) ⊎ (y ≢ x) → (y ≢ x) × (has s y ≡ true)
    by (inl e) = never (let g : has (without s x) x ≡ true = subst (λ (z : ℕ). has (without s x) z ≡ true) e h in let k = without_here s x in cc)
    by (inr other) = (other, let k = without_other s x y other in cc)

restored_other : (b : Bool) (s : Variables) (x y : ℕ) → y ≢ x → has s y ≡ true → has (restored b s x) y ≡ true
restored_other true s x y other h = h
restored_other false s x y other h = without_other s x y other ∙ h

-- ---- what is live before an expression

module _ (x : ℕ) where
  -- what is live behind a quantifier is live behind each turn of its body
  kept_turning : (y : ℕ) (s t : Variables) (b : Bool) → has s y ≡ b → has s x ≡ true → has t x ≡ true → has (restored b t y) x ≡ true
  kept_turning y s t true e h g = g
  kept_turning y s t false e h g = restored_other false t y x (λ same. never (let k : has s y ≡ true = subst (λ (z : ℕ). has s z ≡ true) same h in cc)) g

  -- what is live behind is live before
  mutual
    pub still_live : (e : Expr ℕ) (s : Variables) → has s x ≡ true → has (before e s) x ≡ true
    still_live (NullExpr at) s h = h
    still_live (BoolExpr at truth) s h = h
    still_live (IntExpr at number) s h = h
    still_live (VarExpr at y) s h = with_keeps s y x h
    still_live (CallExpr at routine args) s h = all_still_live args s h
    still_live (NegExpr at a) s h = still_live a s h
    still_live (NotExpr at a) s h = still_live a s h
    still_live (LenExpr at a) s h = still_live a s h
    still_live (BinaryExpr at op a b) s h = still_live a (before b s) (still_live b s h)
    still_live (IsExpr at a ty) s h = still_live a s h
    still_live (IndexExpr at a b) s h = still_live a (before b s) (still_live b s h)
    still_live (FieldExpr at a name) s h = still_live a s h
    still_live (ListExpr at items) s h = all_still_live items s h
    still_live (RepeatExpr at a b) s h = still_live a (before b s) (still_live b s h)
    still_live (RecordExpr at fs) s h = fields_still_live fs s h
    still_live (QuantExpr at all y a b body) s h = still_live a (before b (turned y body s)) (still_live b (turned y body s) (kept_turning y s (before body s) (has s y) refl h (still_live body s h)))

    pub all_still_live : (es : Exprs ℕ) (s : Variables) → has s x ≡ true → has (before_all es s) x ≡ true
    all_still_live NoExprs s h = h
    all_still_live (MoreExprs e es) s h = still_live e (before_all es s) (all_still_live es s h)

    pub fields_still_live : (fs : Fields ℕ) (s : Variables) → has s x ≡ true → has (before_fields fs s) x ≡ true
    fields_still_live NoFields s h = h
    fields_still_live (MoreFields name e fs) s h = still_live e (before_fields fs s) (fields_still_live fs s h)

  pub turned_live : (y : ℕ) (body : Expr ℕ) (s : Variables) → has s x ≡ true → has (turned y body s) x ≡ true
  turned_live y body s h = kept_turning y s (before body s) (has s y) refl h (still_live body s h)

  -- ---- what is live before and not behind is used, and so is live before whatever is live behind

  abbrev pub IsUsed : (Variables → Variables) → Type 0
  IsUsed f = (u : Variables) → has (f u) x ≡ true

  abbrev pub Keeps : (Variables → Variables) → Type 0
  Keeps f = (u : Variables) → has u x ≡ true → has (f u) x ≡ true

  abbrev pub Cases : (Variables → Variables) → Variables → Type 0
  Cases f s = (has s x ≡ true) ⊎ IsUsed f

  pub second_cases : (f g : Variables → Variables) (s : Variables) → Keeps f → Cases g s → Cases (λ u. f (g u)) s
  second_cases f g s keeps (inl h) = inl h
  second_cases f g s keeps (inr used) = inr (λ u. keeps (g u) (used u))

  pub both_cases : (f g : Variables → Variables) (s : Variables) → Keeps f → Cases f (g s) → (has (g s) x ≡ true → Cases g s) → Cases (λ u. f (g u)) s
  both_cases f g s keeps (inl h) next = second_cases f g s keeps (next h)
  both_cases f g s keeps (inr used) next = inr (λ u. used (g u))

  turn_used : (y : ℕ) (body : Expr ℕ) (s : Variables) → x ≢ y → Cases (before body) s → Cases (turned y body) s
  turn_used y body s other (inl h) = inl h
  turn_used y body s other (inr used) = inr (λ u. restored_other (has u y) (before body u) y x other (used u))

  turn_cases : (y : ℕ) (body : Expr ℕ) (s : Variables) (b : Bool) → has s y ≡ b → has (restored b (before body s) y) x ≡ true → (has (before body s) x ≡ true → Cases (before body) s) → Cases (turned y body) s
  turn_cases y body s true e h next = by (same_or_not x y)
    where
      by : (x ≡ y) ⊎ (x ≢ y) → Cases (turned y body) s
      by (inl same) = inl (subst (λ (z : ℕ). has s z ≡ true) (sym same) e)
      by (inr other) = turn_used y body s other (next h)
  turn_cases y body s false e h next = let k = without_says (before body s) y x h in turn_used y body s k.0 (next k.1)

  mutual
    pub before_cases : (e : Expr ℕ) (s : Variables) → has (before e s) x ≡ true → Cases (before e) s
    before_cases (NullExpr at) s h = inl h
    before_cases (BoolExpr at truth) s h = inl h
    before_cases (IntExpr at number) s h = inl h
    before_cases (VarExpr at y) s h = by (with_cases s y x h)
      where
        by : (x ≡ y) ⊎ (has s x ≡ true) → Cases (λ u. with u y) s
        by (inl e) = inr (λ u. subst (λ (z : ℕ). has (with u y) z ≡ true) (sym e) (with_has u y))
        by (inr g) = inl g
    before_cases (CallExpr at routine args) s h = all_cases args s h
    before_cases (NegExpr at a) s h = before_cases a s h
    before_cases (NotExpr at a) s h = before_cases a s h
    before_cases (LenExpr at a) s h = before_cases a s h
    before_cases (BinaryExpr at op a b) s h = both_cases (before a) (before b) s (still_live a) (before_cases a (before b s) h) (before_cases b s)
    before_cases (IsExpr at a ty) s h = before_cases a s h
    before_cases (IndexExpr at a b) s h = both_cases (before a) (before b) s (still_live a) (before_cases a (before b s) h) (before_cases b s)
    before_cases (FieldExpr at a name) s h = before_cases a s h
    before_cases (ListExpr at items) s h = all_cases items s h
    before_cases (RepeatExpr at a b) s h = both_cases (before a) (before b) s (still_live a) (before_cases a (before b s) h) (before_cases b s)
    before_cases (RecordExpr at fs) s h = fields_cases fs s h
    before_cases (QuantExpr at all y a b body) s h =
        both_cases (before a) (λ u. before b (turned y body u)) s (still_live a) (before_cases a (before b (turned y body s)) h)
        (λ g. both_cases (before b) (turned y body) s (still_live b) (before_cases b (turned y body s) g) (λ k. turn_cases y body s (has s y) refl k (before_cases body s)))

    pub all_cases : (es : Exprs ℕ) (s : Variables) → has (before_all es s) x ≡ true → Cases (before_all es) s
    all_cases NoExprs s h = inl h
    all_cases (MoreExprs e es) s h = both_cases (before e) (before_all es) s (still_live e) (before_cases e (before_all es s) h) (all_cases es s)

    pub fields_cases : (fs : Fields ℕ) (s : Variables) → has (before_fields fs s) x ≡ true → Cases (before_fields fs) s
    fields_cases NoFields s h = inl h
    fields_cases (MoreFields name e fs) s h = both_cases (before e) (before_fields fs) s (still_live e) (before_cases e (before_fields fs s) h) (fields_cases fs s)

  -- what is live before the body of a quantifier is live behind it too, but for its own variable: its next turn may use it
  pub turned_again : (y : ℕ) (body : Expr ℕ) (s : Variables) → x ≢ y → has (before body (turned y body s)) x ≡ true → has (turned y body s) x ≡ true
  turned_again y body s other h = by (before_cases body (turned y body s) h)
    where
      by : Cases (before body) (turned y body s) → has (turned y body s) x ≡ true
      by (inl g) = g
      by (inr used) = restored_other (has s y) (before body s) y x other (used s)

restored_less : (b : Bool) (s : Variables) (x y : ℕ) → has (restored b s x) y ≡ true → has s y ≡ true
restored_less true s x y h = h
restored_less false s x y h = (without_says s x y h).1

-- each variable in scope has one of the first n registers
abbrev pub AreBelow : ℕ → Scope → Type 0
AreBelow n vs = (z : ℕ) → Has vs z → z < n

pub below_more : (n : ℕ) (vs : Scope) (y : ℕ) → y < n → AreBelow n vs → AreBelow n (y ∷ vs)
below_more n vs y less h z i = by i
  where
    by : (y ≡ z) ⊎ Has vs z → z < n
    by (inl e) = omega (arith, less, e)
    by (inr g) = h z g

module _ (o : Offers) (k n : ℕ) (low : k ≤ n) (x : ℕ) where
  used_below : (y : ℕ) (s : Variables) → y < n → (has s x ≡ true → x < n) → (x ≡ y) ⊎ (has s x ≡ true) → x < n
  used_below y s less f (inl e) = omega (arith, less, e)
  used_below y s less f (inr h) = f h

  -- what is live before has one of the first n registers, where what is live behind has
  mutual
    scoped : (vs : Scope) (e : Expr ℕ) → AreBelow n vs → BoundExpr o k vs e → (s : Variables) → (has s x ≡ true → x < n) → has (before e s) x ≡ true → x < n
    scoped vs (NullExpr at) g b s f h = f h
    scoped vs (BoolExpr at truth) g b s f h = f h
    scoped vs (IntExpr at number) g b s f h = f h
    scoped vs (VarExpr at y) g b s f h = used_below y s (g y b) f (with_cases s y x h)
    scoped vs (CallExpr at routine args) g b s f h = all_scoped vs args g b.1 s f h
    scoped vs (NegExpr at a) g b s f h = scoped vs a g b s f h
    scoped vs (NotExpr at a) g b s f h = scoped vs a g b s f h
    scoped vs (LenExpr at a) g b s f h = scoped vs a g b s f h
    scoped vs (BinaryExpr at op p q) g b s f h = scoped vs p g b.0 (before q s) (λ i. scoped vs q g b.1 s f i) h
    scoped vs (IsExpr at a ty) g b s f h = scoped vs a g b.0 s f h
    scoped vs (IndexExpr at p q) g b s f h = scoped vs p g b.0 (before q s) (λ i. scoped vs q g b.1 s f i) h
    scoped vs (FieldExpr at a name) g b s f h = scoped vs a g b s f h
    scoped vs (ListExpr at items) g b s f h = all_scoped vs items g b s f h
    scoped vs (RepeatExpr at p q) g b s f h = scoped vs p g b.0 (before q s) (λ i. scoped vs q g b.1 s f i) h
    scoped vs (RecordExpr at fs) g b s f h = fields_scoped vs fs g b.1 s f h
    scoped vs (QuantExpr at all y p q body) g b s f h =
        scoped vs p g b.1 (before q (turned y body s)) (λ i. scoped vs q g b.2 (turned y body s) (λ j. scoped (y ∷ vs) body (below_more n vs y (let l = b.0.0 in omega (arith, l, low)) g) b.3 s f (restored_less (has s y) (before body s) y x j)) i) h

    all_scoped : (vs : Scope) (es : Exprs ℕ) → AreBelow n vs → BoundExprs o k vs es → (s : Variables) → (has s x ≡ true → x < n) → has (before_all es s) x ≡ true → x < n
    all_scoped vs NoExprs g b s f h = f h
    all_scoped vs (MoreExprs e es) g b s f h = scoped vs e g b.0 (before_all es s) (λ i. all_scoped vs es g b.1 s f i) h

    fields_scoped : (vs : Scope) (fs : Fields ℕ) → AreBelow n vs → BoundFields o k vs fs → (s : Variables) → (has s x ≡ true → x < n) → has (before_fields fs s) x ≡ true → x < n
    fields_scoped vs NoFields g b s f h = f h
    fields_scoped vs (MoreFields name e fs) g b s f h = scoped vs e g b.0 (before_fields fs s) (λ i. fields_scoped vs fs g b.1 s f i) h

module _ (o : Offers) (k n : ℕ) (low : k ≤ n) (vs : Scope) where
  pub known_before : (e : Expr ℕ) (s : Variables) → BoundExpr o k vs e → AreKnown n vs s → AreKnown n vs (before e s)
  known_before e s b h = record { below = h.below; within = λ x i. scoped o k n low x vs e h.below b s (h.within x) i }

  pub known_all : (es : Exprs ℕ) (s : Variables) → BoundExprs o k vs es → AreKnown n vs s → AreKnown n vs (before_all es s)
  known_all es s b h = record { below = h.below; within = λ x i. all_scoped o k n low x vs es h.below b s (h.within x) i }

  pub known_fields : (fs : Fields ℕ) (s : Variables) → BoundFields o k vs fs → AreKnown n vs s → AreKnown n vs (before_fields fs s)
  known_fields fs s b h = record { below = h.below; within = λ x i. fields_scoped o k n low x vs fs h.below b s (h.within x) i }

  pub known_turned : (y : ℕ) (body : Expr ℕ) (s : Variables) → y < n → BoundExpr o k (y ∷ vs) body → AreKnown n vs s → AreKnown n vs (turned y body s)
  known_turned y body s less b h = record { below = h.below; within = λ x i. scoped o k n low x (y ∷ vs) body (below_more n vs y less h.below) b s (h.within x) (restored_less (has s y) (before body s) y x i) }

-- with one variable more in scope
pub known_turn : (n : ℕ) (vs : Scope) (y : ℕ) (s : Variables) → y < n → AreKnown n vs s → AreKnown n (y ∷ vs) s
known_turn n vs y s less h = record { below = below_more n vs y less h.below; within = h.within }

pub is_below : (n : ℕ) (vs : Scope) (s : Variables) → AreKnown n vs s → (x : ℕ) → has s x ≡ true → x < n
is_below n vs s h x i = h.within x i

-- ---- a value comes into its register

-- no variable of the set has this register
abbrev pub Apart : Variables → ℕ → Type 0
Apart s t = (y : ℕ) → has s y ≡ true → y ≢ t

-- a register behind those of the variables
pub apart_behind : (n : ℕ) (s : Variables) (d : ℕ) → ((x : ℕ) → has s x ≡ true → x < n) → n ≤ d → Apart s d
apart_behind n s d below behind y h e = let l = below y h in absurd (omega (arith, l, behind, e))

pub got_put : (vs : Scope) (n : ℕ) (s : Variables) (store first regs : Store) (d : ℕ) (v : Datum) → Apart s d → d < length regs → Live vs s store regs → ((t : ℕ) → n ≤ t → t < d → slot regs t ≡ slot first t) → length regs ≡ length first
    → Got vs n d s store first v (put regs d (Some v))
got_put vs n s store first regs d v apart room live kept size = record {
  value = put_here regs d (Some v) room;
  live = live_put vs s store regs d (Some v) (λ x i h. apart x h) live;
  kept = λ t a b. put_other regs d t (Some v) (λ e. absurd (omega (arith, b, e))) ∙ kept t a b;
  size = put_size regs d (Some v) ∙ size;
}
