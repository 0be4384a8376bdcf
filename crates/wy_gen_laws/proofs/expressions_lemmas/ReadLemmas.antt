-- Operands that are read in the registers of variables: where their values stand, and how long.
use Rattle.std.proofs.Common.{◌≡◌, ◌≢◌, ◌<◌, ◌≤◌, ◌⊎◌, inl, inr, ℕ, suc, length, Bool, true, false, cond, Option, Some, None, ℤ, refl, sym, ◌∙◌, ap, subst, arith}
use Rattle.wy_lemmas.proofs.Choices.{false_true as never}
use Rattle.wy_value.specs.Datum.{Datum}
use Rattle.wy_core.specs.CoreTree.{Expr, NullExpr, BoolExpr, IntExpr, VarExpr, CallExpr, NegExpr, NotExpr, LenExpr, BinaryExpr, IsExpr, IndexExpr, FieldExpr, ListExpr, RepeatExpr, RecordExpr, QuantExpr}
use Rattle.wy_core.specs.formed.Offers.{Offers}
use Rattle.wy_core.specs.formed.Bound.{Scope, Has, BoundExpr}
use Rattle.wy_code_spec.specs.wy_live.Sets.{Variables, has, with}
use Rattle.wy_code_spec.specs.wy_live.Walks.{before}
use Rattle.wy_code_spec.specs.declared.tables.context.Context.{Context}
use Rattle.wy_code_spec.specs.compiled.Operands.{variable_in, where_live, is_still, read, standing, unless_read, plain_or_read}
use Rattle.wy_code_spec.specs.compiled.Expressions.{code}
use Rattle.wy_vc_spec.specs.wy_sem.Expressions.{Store, slot}
use Rattle.wy_gen_laws.specs.Registers.{Live, Got}
use Rattle.wy_gen_laws.proofs.StoreLemmas.{live_fewer}
use Rattle.wy_gen_laws.specs.expressions.Standing.{AreKnown}
use Rattle.wy_gen_laws.proofs.expressions_lemmas.KnownLemmas.{Apart, apart_behind, with_has, with_keeps, with_cases}

-- ---- how an operand is read

-- in the register of the variable that it is, or in the one that it is evaluated into
abbrev pub IsRead : Expr ℕ → Option ℕ → Type 0
IsRead a None = Unit {0}
IsRead a (Some x) = variable_in a ≡ Some x

-- the variable is one of these
abbrev pub IsKept : Option ℕ → Variables → Type 0
IsKept None s = Unit {0}
IsKept (Some x) s = has s x ≡ true

-- the value is that of the variable
abbrev pub IsOf : Option ℕ → Scope → Store → Datum → Type 0
IsOf None vs store v = Unit {0}
IsOf (Some x) vs store v = Has vs x × (slot store x ≡ Some v)

some_same : {x y : ℕ} → Some x ≡ Some y → x ≡ y
some_same {x} e = ap (λ (o : Option ℕ). by o) e
  where
    by : Option ℕ → ℕ
    by None = x
    by (Some z) = z

none_never : {A : Type 0} {x : ℕ} → None ≡ Some x → A
none_never e = absurd cc

-- what is so of a variable is so of what is read as one
pub as_variable : (A : Expr ℕ → Type 0) (a : Expr ℕ) (x : ℕ) → variable_in a ≡ Some x → ((i : ℕ) → A (VarExpr i x)) → A a
as_variable A (VarExpr i y) x e h = subst (λ (z : ℕ). A (VarExpr i z)) (sym (some_same e)) (h i)
as_variable A (NullExpr i) x e h = none_never e
as_variable A (BoolExpr i truth) x e h = none_never e
as_variable A (IntExpr i number) x e h = none_never e
as_variable A (CallExpr i g args) x e h = none_never e
as_variable A (NegExpr i a) x e h = none_never e
as_variable A (NotExpr i a) x e h = none_never e
as_variable A (LenExpr i a) x e h = none_never e
as_variable A (BinaryExpr i o a b) x e h = none_never e
as_variable A (IsExpr i a ty) x e h = none_never e
as_variable A (IndexExpr i a b) x e h = none_never e
as_variable A (FieldExpr i a name) x e h = none_never e
as_variable A (ListExpr i items) x e h = none_never e
as_variable A (RepeatExpr i a b) x e h = none_never e
as_variable A (RecordExpr i fs) x e h = none_never e
as_variable A (QuantExpr i all y a b body) x e h = none_never e

-- what is so of numbers and variables is so of what is still
pub as_still : (A : Expr ℕ → Type 0) (b : Expr ℕ) → is_still b ≡ true → ((i : ℕ) (z : ℤ) → A (IntExpr i z)) → ((i y : ℕ) → A (VarExpr i y)) → A b
as_still A (IntExpr i number) e h g = h i number
as_still A (VarExpr i y) e h g = g i y
as_still A (NullExpr i) e h g = never e
as_still A (BoolExpr i truth) e h g = never e
as_still A (CallExpr i r args) e h g = never e
as_still A (NegExpr i a) e h g = never e
as_still A (NotExpr i a) e h g = never e
as_still A (LenExpr i a) e h g = never e
as_still A (BinaryExpr i o a b) e h g = never e
as_still A (IsExpr i a ty) e h g = never e
as_still A (IndexExpr i a b) e h g = never e
as_still A (FieldExpr i a name) e h g = never e
as_still A (ListExpr i items) e h g = never e
as_still A (RepeatExpr i a b) e h g = never e
as_still A (RecordExpr i fs) e h g = never e
as_still A (QuantExpr i all y a b body) e h g = never e

pub variable_read : (a : Expr ℕ) → IsRead a (variable_in a)
variable_read a = by (variable_in a) refl
  where
    by : (q : Option ℕ) → variable_in a ≡ q → IsRead a q
    by None e = tt
    by (Some x) e = e

-- where the variable must be live
pub live_read : (a : Expr ℕ) (s : Variables) → IsRead a (read a s)
live_read a s = by (variable_in a) refl
  where
    on : (x : ℕ) (b : Bool) → variable_in a ≡ Some x → IsRead a (cond b (Some x) None)
    on x true e = e
    on x false e = tt

    by : (q : Option ℕ) → variable_in a ≡ q → IsRead a (where_live q s)
    by None e = tt
    by (Some x) e = on x (has s x) e

pub live_kept : (a : Expr ℕ) (s : Variables) → IsKept (read a s) s
live_kept a s = by (variable_in a)
  where
    on : (x : ℕ) (b : Bool) → has s x ≡ b → IsKept (cond b (Some x) None) s
    on x true e = e
    on x false e = tt

    by : (q : Option ℕ) → IsKept (where_live q s) s
    by None = tt
    by (Some x) = on x (has s x) refl

-- where something else is so
pub read_where : (b : Bool) (a : Expr ℕ) (q : Option ℕ) → IsRead a q → IsRead a (cond b q None)
read_where true a q h = h
read_where false a q h = tt

-- what is released of an operand is behind the register of the operation
pub releases_behind : (p : Option ℕ) (plain : Bool) (d : ℕ) → plain_or_read p plain ≡ false → d < standing p (suc d)
releases_behind None plain d e = omega arith
releases_behind (Some x) plain d e = never (sym e)

-- ---- where the values stand

-- the value of one operand, as `Got`
pub record Stands (vs : Scope) (n d : ℕ) (q : Option ℕ) (s : Variables) (store first : Store) (v : Datum) (regs : Store) : Type 0 where
  pub value : slot regs (standing q d) ≡ Some v
  pub whose : IsOf q vs store v
  pub live : Live vs s store regs
  pub kept : (t : ℕ) → n ≤ t → t < d → slot regs t ≡ slot first t
  pub size : length regs ≡ length first

-- the values of two operands stand in the registers l and r
pub record Both (vs : Scope) (n d l r : ℕ) (s : Variables) (store first : Store) (v u : Datum) (regs : Store) : Type 0 where
  pub left : slot regs l ≡ Some v
  pub right : slot regs r ≡ Some u
  pub live : Live vs s store regs
  pub kept : (t : ℕ) → n ≤ t → t < d → slot regs t ≡ slot first t
  pub size : length regs ≡ length first

-- the value of one operand stands in register l
pub record One (vs : Scope) (n d l : ℕ) (s : Variables) (store first : Store) (v : Datum) (regs : Store) : Type 0 where
  pub value : slot regs l ≡ Some v
  pub live : Live vs s store regs
  pub kept : (t : ℕ) → n ≤ t → t < d → slot regs t ≡ slot first t
  pub size : length regs ≡ length first

-- what came into its register stands there
pub got_stands : (vs : Scope) (n d : ℕ) (s : Variables) (store first regs : Store) (v : Datum) → Got vs n d s store first v regs → Stands vs n d None s store first v regs
got_stands vs n d s store first regs v got = record { value = got.value; whose = tt; live = got.live; kept = got.kept; size = got.size }

-- and the other way round
pub stood_got : (vs : Scope) (n d : ℕ) (s : Variables) (store first regs : Store) (v : Datum) → Stands vs n d None s store first v regs → Got vs n d s store first v regs
stood_got vs n d s store first regs v one = record { value = one.value; live = one.live; kept = one.kept; size = one.size }

-- the registers of operands are up to that of the operation
pub stands_low : (vs : Scope) (n d : ℕ) (q : Option ℕ) (s : Variables) (store first regs : Store) (v : Datum) → AreKnown n vs s → n ≤ d → Stands vs n d q s store first v regs → standing q d ≤ d
stands_low vs n d None s store first regs v known behind one = omega arith
stands_low vs n d (Some x) s store first regs v known behind one = let l = known.below x one.whose.0 in omega (arith, l, behind)

-- while what is behind it is evaluated, the value of an operand stays where it stands
pub still_stands : (vs : Scope) (n d : ℕ) (q : Option ℕ) (s t : Variables) (store first middle last : Store) (v : Datum) → n ≤ d → IsKept q t → Stands vs n d q s store first v middle → Live vs t store last → ((k : ℕ) → n ≤ k → k < suc d → slot last k ≡ slot middle k) → slot last (standing q d) ≡ Some v
still_stands vs n d None s t store first middle last v behind kept one live same = same d behind (omega arith) ∙ one.value
still_stands vs n d (Some x) s t store first middle last v behind kept one live same = live.holds x v one.whose.0 kept one.whose.1

-- so both stand
pub both_stand : (vs : Scope) (n d : ℕ) (q p : Option ℕ) (s t : Variables) (store first middle last : Store) (v u : Datum) → n ≤ d → IsKept q t → Stands vs n d q s store first v middle → Stands vs n (suc d) p t store middle u last → Both vs n d (standing q d) (standing p (suc d)) t store first v u last
both_stand vs n d q p s t store first middle last v u behind kept one two = record {
  left = still_stands vs n d q s t store first middle last v behind kept one two.live two.kept;
  right = two.value;
  live = two.live;
  kept = λ k a b. two.kept k a (omega (arith, b)) ∙ one.kept k a b;
  size = two.size ∙ one.size;
}

-- fewer variables are live
pub both_fewer : (vs : Scope) (n d l r : ℕ) (s t : Variables) (store first regs : Store) (v u : Datum) → ((x : ℕ) → has s x ≡ true → has t x ≡ true) → Both vs n d l r t store first v u regs → Both vs n d l r s store first v u regs
both_fewer vs n d l r s t store first regs v u fewer both = record { left = both.left; right = both.right; live = live_fewer vs t s store regs fewer both.live; kept = both.kept; size = both.size }

-- ---- where the value of an operation comes

-- it may come into register z, where its operands come into those from d on, behind those from n on that are kept: no variable that is live behind has it, and of those before it the ones from a register on are kept
pub record IsTarget (n d from z : ℕ) (s : Variables) : Type 0 where
  pub apart : Apart s z
  pub top : z ≤ d
  pub within : (t : ℕ) → from ≤ t → t < z → n ≤ t

-- the register of the operation
pub own_target : (n d : ℕ) (s : Variables) → ((x : ℕ) → has s x ≡ true → x < n) → n ≤ d → IsTarget n d n d s
own_target n d s below behind = record { apart = apart_behind n s d below behind; top = omega arith; within = λ t a b. a }

-- that of a variable that isn't live behind
pub variable_target : (n d x : ℕ) (s : Variables) → Apart s x → x < n → n ≤ d → IsTarget n d x x s
variable_target n d x s apart less behind = record { apart = apart; top = omega (arith, less, behind); within = λ t a b. absurd (omega (arith, a, b)) }

-- a register that may be filled on the way: it is no live variable's, none of those that are kept, and not the one that the value comes into
pub record IsFree (n z : ℕ) (s : Variables) (g : ℕ) : Type 0 where
  pub apart : Apart s g
  pub before : (t : ℕ) → n ≤ t → t < z → t ≢ g
  pub other : z ≢ g

module _ (n d from z : ℕ) (s : Variables) (target : IsTarget n d from z s) where
  -- one behind the register of the operation
  pub free_behind : ((x : ℕ) → has s x ≡ true → x < n) → n ≤ d → (g : ℕ) → d < g → IsFree from z s g
  free_behind below behind g far = let l = target.top in record {
    apart = apart_behind n s g below (omega (arith, behind, far));
    before = λ t a b e. absurd (omega (arith, l, b, far, e));
    other = λ e. absurd (omega (arith, l, far, e));
  }

  module _ (vs : Scope) (store first regs : Store) (v : Datum) where
    pub stands_one : (q : Option ℕ) → Stands vs n d q s store first v regs → One vs from z (standing q d) s store first v regs
    stands_one q one = let l = target.top in record { value = one.value; live = one.live; kept = λ t a b. one.kept t (target.within t a b) (omega (arith, l, b)); size = one.size }

    pub both_within : (l r : ℕ) (u : Datum) → Both vs n d l r s store first v u regs → Both vs from z l r s store first v u regs
    both_within l r u both = let e = target.top in record { left = both.left; right = both.right; live = both.live; kept = λ t a b. both.kept t (target.within t a b) (omega (arith, e, b)); size = both.size }

-- ---- a first operand that isn't live behind, in front of a second one that is still

-- the variable of an expression is in scope
pub read_bound : (o : Offers) (k : ℕ) (vs : Scope) (a : Expr ℕ) (x : ℕ) → variable_in a ≡ Some x → BoundExpr o k vs a → Has vs x
read_bound o k vs a x e = as_variable (λ (z : Expr ℕ). BoundExpr o k vs z → Has vs x) a x e (λ i b. b)

pub known_with : (n : ℕ) (vs : Scope) (s : Variables) (x : ℕ) → Has vs x → AreKnown n vs s → AreKnown n vs (with s x)
known_with n vs s x h known = record { below = known.below; within = λ y e. by y (with_cases s x y e) }
  where
    by : (y : ℕ) → (y ≡ x) ⊎ (has s y ≡ true) → y < n
    by y (inl e) = let l = known.below x h in omega (arith, l, e)
    by y (inr e) = known.within y e

-- its code is the same, whatever is live behind it
pub same_code : (c : Context) (b : Expr ℕ) (s t : Variables) (d : ℕ) → is_still b ≡ true → unless_read (variable_in b) (code c b s d) ≡ unless_read (variable_in b) (code c b t d)
same_code c b s t d e = as_still (λ (z : Expr ℕ). unless_read (variable_in z) (code c z s d) ≡ unless_read (variable_in z) (code c z t d)) b e (λ i z. refl) (λ i y. refl)

or_cases : (s : Variables) (x y z : ℕ) → (y ≡ z) ⊎ (has (with s x) y ≡ true) → (y ≡ x) ⊎ (has (with s z) y ≡ true)
or_cases s x y z (inl e) = inr (subst (λ (w : ℕ). has (with s z) w ≡ true) (sym e) (with_has s z))
or_cases s x y z (inr h) = by (with_cases s x y h)
  where
    by : (y ≡ x) ⊎ (has s y ≡ true) → (y ≡ x) ⊎ (has (with s z) y ≡ true)
    by (inl e) = inl e
    by (inr g) = inr (with_keeps s z y g)

still_cases : (b : Expr ℕ) (s : Variables) (x y : ℕ) → is_still b ≡ true → has (before b (with s x)) y ≡ true → (y ≡ x) ⊎ (has (before b s) y ≡ true)
still_cases b s x y e = as_still (λ (z : Expr ℕ). has (before z (with s x)) y ≡ true → (y ≡ x) ⊎ (has (before z s) y ≡ true)) b e (λ i z h. with_cases s x y h) (λ i z h. or_cases s x y z (with_cases (with s x) z y h))

-- no more is live in front of both, where the variable is live behind them
pub still_before : (a b : Expr ℕ) (s : Variables) (x y : ℕ) → variable_in a ≡ Some x → is_still b ≡ true → has (before a (before b (with s x))) y ≡ true → has (before a (before b s)) y ≡ true
still_before a b s x y e still = as_variable (λ (z : Expr ℕ). has (before z (before b (with s x))) y ≡ true → has (before z (before b s)) y ≡ true) a x e (λ i h. by (with_cases (before b (with s x)) x y h))
  where
    last : (y ≡ x) ⊎ (has (before b s) y ≡ true) → has (with (before b s) x) y ≡ true
    last (inl g) = subst (λ (w : ℕ). has (with (before b s) x) w ≡ true) (sym g) (with_has (before b s) x)
    last (inr g) = with_keeps (before b s) x y g

    by : (y ≡ x) ⊎ (has (before b (with s x)) y ≡ true) → has (with (before b s) x) y ≡ true
    by (inl g) = last (inl g)
    by (inr g) = last (still_cases b s x y still g)
