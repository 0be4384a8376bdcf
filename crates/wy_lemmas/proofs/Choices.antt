-- Tests, and one of two.
use Rattle.std.proofs.Common.{◌≡◌, Bool, true, false, refl, ◌||◌, not, sym, ◌∙◌, ◌<◌, ℕ, zero, suc, arith, eqb, ℤ, pos, negsuc, ◌⊎◌, inl, inr, cond, ◌≤◌, subst, int_le, ◌≤ℤ◌, IsTrue, ap, ◌+◌, ◌≢◌}
use Rattle.std.proofs.lemmas.Bool.{lt-ltb, cases_lt}
use Rattle.std.proofs.lemmas.Bool.Decides.{nat_tests, eqb_tells}
use Rattle.std.proofs.lemmas.Int.{ints}
use Rattle.std.specs.Bool.{beq}
use Rattle.std.specs.Prelude.{◌&&◌, nat_lt, ◌==◌, unsigned_abs, int_lt}

pub and_false : (a : Bool) → (a && false) ≡ false
and_false true = refl
and_false false = refl

pub and_end : (b : Bool) → (b && true) ≡ b
and_end true = refl
and_end false = refl

pub or_none : (x : Bool) → (x || false) ≡ x
or_none true = refl
or_none false = refl

pub or_true : (x : Bool) → (x || true) ≡ true
or_true true = refl
or_true false = refl

pub true_of : (b : Bool) → (b ≡ false → ⊥) → b ≡ true
true_of true h = refl
true_of false h = absurd (h refl)

pub false_of : (b : Bool) → (b ≡ true → ⊥) → b ≡ false
false_of true f = absurd (f refl)
false_of false f = refl

pub bits_self : (b : Bool) → beq b b ≡ true
bits_self true = refl
bits_self false = refl

pub not_false : (b : Bool) → not b ≡ false → b ≡ true
not_false true e = refl
not_false false e = absurd cc

pub not_true : (b : Bool) → not b ≡ true → b ≡ false
not_true true e = absurd cc
not_true false e = refl

pub or_not : (b : Bool) → b ≡ (b || false)
or_not true = refl
or_not false = refl

pub true_false : (b : Bool) → b ≡ true → b ≡ false → ⊥
true_false b e f = let no : true ≡ false = sym e ∙ f in absurd cc

pub large_one : (d : ℕ) → (d == 0) ≡ false → (d == 1) ≡ false → nat_lt 1 d ≡ true
large_one zero e f = absurd cc
large_one (suc zero) e f = absurd cc
large_one (suc (suc n)) e f = large (suc (suc n)) (omega arith)
  where
    large : (k : ℕ) → 1 < k → nat_lt 1 k ≡ true
    large k lt = lt-ltb 1 k lt

pub eqb_self : (n : ℕ) → (n == n) ≡ true
eqb_self n = search (arith)

pub eqb_itself : (n : ℕ) → eqb n n ≡ true
eqb_itself n = grind arith

pub above_zero : (c : ℤ) → int_lt (pos 0) c ≡ true → 0 < unsigned_abs c
above_zero (pos zero) e = absurd cc
above_zero (pos (suc n)) e = omega arith
above_zero (negsuc n) e = omega arith

pub below_zero : (c : ℤ) → int_lt c (pos 0) ≡ true → 0 < unsigned_abs c
below_zero (pos zero) e = absurd cc
below_zero (pos (suc n)) e = omega arith
below_zero (negsuc n) e = omega arith

pub or_elim : (a b : Bool) {P : Type 0} → (a || b) ≡ true → (a ≡ true → P) → (b ≡ true → P) → P
or_elim true b e f g = f refl
or_elim false b e f g = g e

pub both_false : (a b : Bool) → (a && b) ≡ false → (a ≡ false) ⊎ (b ≡ false)
both_false true b e = inr e
both_false false b e = inl refl

pub both_parts : (a b : Bool) → (a && b) ≡ true → (a ≡ true) × (b ≡ true)
both_parts true b e = (refl, e)
both_parts false b e = absurd cc

pub and-left : (a b : Bool) → (a && b) ≡ true → a ≡ true
and-left true b h = refl
and-left false b h = h

pub and-right : (a b : Bool) → (a && b) ≡ true → b ≡ true
and-right true b e = e
and-right false b e = absurd cc

pub or_false : (a b : Bool) → (a || b) ≡ false → (a ≡ false) × (b ≡ false)
or_false true b h = absurd (cc)
or_false false b h = (refl, h)

pub first_false : (a b : Bool) → (a || b) ≡ false → a ≡ false
first_false true b e = absurd cc
first_false false b e = refl

pub or_cases : (a b : Bool) → (a || b) ≡ true → (a ≡ true) ⊎ (b ≡ true)
or_cases true b h = inl refl
or_cases false b h = inr h

pub same_test : (a b : Bool) → (a ≡ true → b ≡ true) → (b ≡ true → a ≡ true) → a ≡ b
same_test true b f g = sym (f refl)
same_test false true f g = g refl
same_test false false f g = refl

pub bits_are : (a b : Bool) → beq a b ≡ true → a ≡ b
bits_are true true e = refl
bits_are true false e = absurd cc
bits_are false true e = absurd cc
bits_are false false e = refl

pub cond_or : (a b : Bool) → cond a true b ≡ (a || b)
cond_or true b = refl
cond_or false b = refl

pub or_left : (a b : Bool) → a ≡ true → (a || b) ≡ true
or_left a b t = rw t refl

pub both_true : (a b : Bool) → a ≡ true → b ≡ true → (a && b) ≡ true
both_true a b h g = rw (h, g) refl

pub or_right : (a b : Bool) → b ≡ true → (a || b) ≡ true
or_right true b e = refl
or_right false b e = e

pub opposite_never : (b c : Bool) → c ≡ b → c ≡ not b → ⊥
opposite_never true c e f = true_false c e f
opposite_never false c e f = true_false c f e

pub at_or_past : (t n : ℕ) → (t < n) ⊎ (n ≤ t)
at_or_past t zero = inr (omega arith)
at_or_past zero (suc n) = inl (omega arith)
at_or_past (suc t) (suc n) = elim (at_or_past t n) [ inl a ↦ inl (omega (arith, a)) | inr b ↦ inr (omega (arith, b)) ]

pub apart_of : (x y : ℕ) → (x == y) ≡ false → x ≡ y → ⊥
apart_of x y e is = let f : (x == y) ≡ true = subst (λ (z : ℕ). (x == z) ≡ true) is (eqb_self x) in absurd cc

pub same_of : (n m : ℕ) → (n == m) ≡ true → n ≡ m
same_of n m e = grind (arith, nat_tests, e)

pub lt_false : (a b : ℕ) → nat_lt a b ≡ false → b ≤ a
lt_false a b h = first_of (grind (arith, nat_tests), search arith)

pub lt_true : (a b : ℕ) → nat_lt a b ≡ true → a < b
lt_true a b h = first_of (grind (arith, nat_tests), search arith)

pub less_more : (n k : ℕ) → n < suc k → (n < k) ⊎ (n ≡ k)
less_more n k lt = elim (cases_lt n k) as (λ _. (n < k) ⊎ (n ≡ k)) [ inl h ↦ inl h | inr h ↦ inr (omega (arith, lt, h)) ]

pub less_is : (a b : ℕ) → a < b → nat_lt a b ≡ true
less_is a b lt = lt-ltb a b lt

pub same_to : (n m : ℕ) → n ≡ m → (n == m) ≡ true
same_to n m e = grind (arith, nat_tests)

pub at_most_test : (a b : ℤ) → a ≤ℤ b → int_le a b ≡ true
at_most_test a b h = grind (arith, ints)

pub and_assoc : (a b c : Bool) → ((a && b) && c) ≡ (a && (b && c))
and_assoc true b c = refl
and_assoc false b c = refl

pub or_assoc : (x y z : Bool) → ((x || y) || z) ≡ (x || (y || z))
or_assoc true y z = refl
or_assoc false y z = refl

pub or_regrouped : (a b c : Bool) → (a || (b || c)) ≡ ((a || b) || c)
or_regrouped true b c = refl
or_regrouped false b c = refl

pub or_swapped : (a b c : Bool) → (a || (b || c)) ≡ (b || (a || c))
or_swapped true true c = refl
or_swapped true false c = refl
or_swapped false b c = refl

-- of whether one of the first two is so, by whether a name is that one
pub shuffled : (a b c d : Bool) → (cond a true b || (c || d)) ≡ ((a || c) || (b || d))
shuffled true b c d = refl
shuffled false true true d = refl
shuffled false true false d = refl
shuffled false false c d = refl

pub cond_more : (b k u v : Bool) → (u ≡ true → v ≡ true) → cond b k u ≡ true → cond b k v ≡ true
cond_more true k u v h e = e
cond_more false k u v h e = h e

pub off : true ≡ false → ⊥
off e = absurd cc

pub unlike : {A : Type 0} (b : Bool) → b ≡ true → b ≡ false → A
unlike b h g = absurd cc

pub never_true : {A : Type 0} → IsTrue false → A
never_true f = absurd cc

pub false_true : {X : Type 0} → false ≡ true → X
false_true e = absurd cc

pub no_call : {X : Type 0} → true ≡ false → X
no_call e = absurd cc

abbrev pub counted : Bool → ℕ → ℕ
counted true n = suc n
counted false n = n

-- what a turn of a quantifier begins with
abbrev pub given : (ℕ → Bool) → ℕ → ℕ → Bool
given u y x = cond (x == y) false (u x)

abbrev pub one_if : Bool → ℕ
one_if true = 1
one_if false = 0

-- cases by a truth value
pub by_truth : (b : Bool) (P : Bool → Type 0) → (b ≡ true → P true) → (b ≡ false → P false) → P b
by_truth true P f g = f refl
by_truth false P f g = g refl

pub cond_less : (b u : Bool) → cond b false u ≡ true → u ≡ true
cond_less true u e = false_true e
cond_less false u e = e

pub either : {A B C : Type 0} → (A → C) → (B → C) → A ⊎ B → C
either f g (inl a) = f a
either f g (inr b) = g b

pub either_of : {A B C : Type 0} → A ⊎ B → (A → C) → (B → C) → C
either_of (inl a) f g = f a
either_of (inr b) f g = g b

-- either of two has what both have
pub pick : {A : Type 0} (P : A → Type 0) (b : Bool) {x y : A} → P x → P y → P (cond b x y)
pick P true h g = h
pick P false h g = g

pub widen : {A B C : Type 0} → A ⊎ B → A ⊎ (B ⊎ C)
widen (inl a) = inl a
widen (inr b) = inr (inl b)

pub one_at_most : (b : Bool) → one_if b ≤ 1
one_at_most true = omega arith
one_at_most false = omega arith

pub no_more : (b c : Bool) (m n : ℕ) → (b ≡ true → c ≡ true) → m ≤ n → counted b m ≤ counted c n
no_more true true m n h le = omega (arith, le)
no_more true false m n h le = let e : false ≡ true = h refl in absurd cc
no_more false true m n h le = omega (arith, le)
no_more false false m n h le = le

pub at_end : (a b : Bool) → (a && not b) ≡ true → (a ≡ true) × (b ≡ false)
at_end true true e = false_true e
at_end true false e = (refl, refl)
at_end false b e = false_true e

pub one_within : (a b : Bool) → (a ≡ true → b ≡ true) → one_if a ≤ one_if b
one_within true b h = let e : b ≡ true = h refl in let f : one_if b ≡ 1 = ap one_if e in omega (arith, f)
one_within false b h = omega arith

pub or_either : (a b : Bool) → (a ≡ true) ⊎ (b ≡ true) → (a || b) ≡ true
or_either a b e = either (or_left a b) (or_right a b) e

abbrev pub how_many : (ℕ → Bool) → ℕ → ℕ
how_many p zero = 0
how_many p (suc k) = one_if (p k) + how_many p k

-- cases by whether two variables are one
pub by_same : (x y : ℕ) (P : Bool → Type 0) → (x ≡ y → P true) → (x ≢ y → P false) → P (x == y)
by_same x y P f g = either (λ (t : ((x == y) ≡ true) × (x ≡ y)). subst P (sym t.0) (f t.1)) (λ (t : ((x == y) ≡ false) × (x ≢ y)). subst P (sym t.0) (g t.1)) (eqb_tells x y)

pub at_most_all : (p : ℕ → Bool) (k : ℕ) → how_many p k ≤ k
at_most_all p zero = omega arith
at_most_all p (suc k) = let h = at_most_all p k in let l = one_at_most (p k) in omega (arith, h, l)

pub as_many : (p q : ℕ → Bool) → ((n : ℕ) → p n ≡ true → q n ≡ true) → (k : ℕ) → how_many p k ≤ how_many q k
as_many p q up zero = omega arith
as_many p q up (suc k) = let h = as_many p q up k in let l = one_within (p k) (q k) (up k) in omega (arith, h, l)
