-- The product of two forms that are at least 0 is at least 0.
use Rattle.std.proofs.Common.{◌≡◌, ℕ, List, [], true, ℤ, pos, negsuc, ◌+ℤ◌, ◌-ℤ◌, ◌*ℤ◌, ◌≤ℤ◌, Option, Some, None, refl, sym, ap, ◌∙◌, subst, arith}
use Rattle.std.proofs.lemmas.Int.{ints}
use Rattle.std.proofs.Math.IntN.{*ℤ-zero, *ℤ_comm}
use Rattle.wy_check_spec.specs.wy_facts.Schema.{only_if, zero_term}
use Rattle.wy_lemmas.proofs.Numbers.{distrib_right, distrib_left}
use Rattle.wy_lemmas.proofs.Options.{some_same as some_is}
use Rattle.wy_check_spec.specs.wy_term.Term.{Term, Of, no_parts, part, Number, add, mul}
use Rattle.wy_check_spec.specs.wy_term.Same.{same_term}
use Rattle.wy_check_spec.specs.wy_term.Meaning.{Names, sense}
use Rattle.wy_check_spec.specs.wy_term.Rewriting.{fitted}
use Rattle.wy_check_spec.specs.wy_lin.declared.arithmetic.Factor.TheVariants.{Scale, Minus}
use Rattle.wy_check_spec.specs.wy_lin.Linear.{◌>>=◌, more, Linear, coefficient, plus_parts}
use Rattle.wy_check_spec.specs.wy_lin.TermForm.{with, multiple, form_of}
use Rattle.wy_check_spec.specs.wy_lin.Worth.{worth_of_parts, worth, number_of}
use Rattle.wy_check_spec.proofs.wy_lin_proofs.OptionLemmas.{bind_some, fitted_is}
use Rattle.wy_check_spec.proofs.wy_lin_proofs.Ring.{times_assoc, times_pos}
use Rattle.wy_check_spec.proofs.wy_lin_proofs.WorthLemmas.{worth-with, worth-multiple, worth-form_of}
use Rattle.wy_check_spec.specs.wy_facts.Made.{made_two}
use Rattle.wy_check_spec.proofs.wy_facts_proofs.SenseLemmas.{at_most_holds}
use Rattle.wy_check_spec.specs.judge.Node.{Literal}
use Rattle.wy_check_spec.specs.judge.Told.{AllTold}
use Rattle.wy_check_spec.specs.valid.Sums.{form_at}
use Rattle.wy_check_spec.specs.valid.Products.{leading, ratio, varying, vanishes, is_multiple, Affine, affine, as_product, product_bound, product_of, product_stated}
use Rattle.wy_check_laws.proofs.sound_lemmas.Basics.{only_some}
use Rattle.wy_check_laws.proofs.sound_lemmas.FormLemmas.{form_natural, worth_of_zeros}
use Rattle.wy_check_laws.proofs.sound_lemmas.CutLemmas.{sum_means, product_means}

-- ---- the number of a sum of forms

scaled_zero : (k c d : ℤ) → k *ℤ pos 0 ≡ c → pos 0 +ℤ c ≡ d → d ≡ pos 0
scaled_zero k c d e f = let z = *ℤ-zero k in omega (arith, ints, e, f, z)

zero_less_zero : (d : ℤ) → pos 0 -ℤ pos 0 ≡ d → d ≡ pos 0
zero_less_zero d e = omega (arith, ints, e)

-- a multiple of a form without a number has none
multiple_varying : (a : ℤ) (f h : Linear Term) → multiple (Scale a) (varying f) ≡ Some h → h.constant ≡ pos 0
multiple_varying a f h e =
    let x = bind_some (plus_parts same_term [] (Scale a) f.parts) (λ ps. more (pos 0) (Scale a) (pos 0) >>= λ c. Some (record { parts = ps; constant = c })) h e in
    let y = bind_some (more (pos 0) (Scale a) (pos 0)) (λ c. Some (record { parts = x.0; constant = c })) h x.2 in
    let z = bind_some (fitted (a *ℤ pos 0)) (λ d. fitted (pos 0 +ℤ d)) y.0 y.1 in
    let made : Linear Term = record { parts = x.0; constant = y.0 } in
    ap (λ (l : Linear Term). l.constant) (sym (some_is made h y.2)) ∙ scaled_zero a z.0 y.0 (fitted_is (a *ℤ pos 0) z.0 z.1) (fitted_is (pos 0 +ℤ z.0) y.0 z.2)

less_varying : (f g h : Linear Term) → f.constant ≡ pos 0 → with f Minus (varying g) ≡ Some h → h.constant ≡ pos 0
less_varying f g h e is =
    let x = bind_some (plus_parts same_term f.parts Minus g.parts) (λ ps. more f.constant Minus (pos 0) >>= λ c. Some (record { parts = ps; constant = c })) h is in
    let y = bind_some (more f.constant Minus (pos 0)) (λ c. Some (record { parts = x.0; constant = c })) h x.2 in
    let made : Linear Term = record { parts = x.0; constant = y.0 } in
    ap (λ (l : Linear Term). l.constant) (sym (some_is made h y.2)) ∙ zero_less_zero y.0 (ap (λ (c : ℤ). c -ℤ pos 0) (sym e) ∙ fitted_is (f.constant -ℤ pos 0) y.0 y.1)

-- ---- a form that is a multiple of another and a number

no_difference : (p k h w v a : ℤ) → p +ℤ k ≡ h +ℤ negsuc 0 *ℤ (w +ℤ pos 0) → h ≡ a *ℤ (v +ℤ pos 0) → p ≡ pos 0 → k ≡ pos 0 → w ≡ a *ℤ v
no_difference p k h w v a e f is_p is_k =
    let none : v +ℤ pos 0 ≡ v = omega (arith, ints) in
    let whole : a *ℤ (v +ℤ pos 0) ≡ a *ℤ v = ap (λ (y : ℤ). a *ℤ y) none in
    omega (arith, ints, e, f, is_p, is_k, whole)

multiple_means : (names : Names) (a : ℤ) (f g : Linear Term) → is_multiple a f g ≡ true → worth_of_parts (number_of names) g.parts ≡ a *ℤ worth_of_parts (number_of names) f.parts
multiple_means names a f g e = by (multiple (Scale a) (varying f)) refl e
  where
    last : (h : Linear Term) → multiple (Scale a) (varying f) ≡ Some h → (o : Option (Linear Term)) → with h Minus (varying g) ≡ o → vanishes o ≡ true → worth_of_parts (number_of names) g.parts ≡ a *ℤ worth_of_parts (number_of names) f.parts
    last h is None is_o e = absurd cc
    last h is (Some k) is_o e =
        no_difference (worth_of_parts (number_of names) k.parts) k.constant (worth (number_of names) h) (worth_of_parts (number_of names) g.parts) (worth_of_parts (number_of names) f.parts) a (worth-with names h Minus (varying g) k is_o) (worth-multiple names (Scale a) (varying f) h is) (worth_of_zeros (number_of names) k.parts e) (less_varying h g k (multiple_varying a f h is) is_o)

    by : (o : Option (Linear Term)) → multiple (Scale a) (varying f) ≡ o → vanishes (o >>= λ h. with h Minus (varying g)) ≡ true → worth_of_parts (number_of names) g.parts ≡ a *ℤ worth_of_parts (number_of names) f.parts
    by None is e = absurd cc
    by (Some h) is e = last h is (with h Minus (varying g)) refl e

in_two : (a v c w k : ℤ) → w ≡ a *ℤ v → w +ℤ k ≡ a *ℤ (v +ℤ c) +ℤ (k -ℤ a *ℤ c)
in_two a v c w k e = let apart = distrib_left a v c in omega (arith, ints, e, apart)

pub affine_means : (names : Names) (f g : Linear Term) (x : Affine) → affine f g ≡ Some x → worth (number_of names) g ≡ x.factor *ℤ worth (number_of names) f +ℤ x.more
affine_means names f g x e =
    let p = bind_some (leading f.parts) (λ p. ratio p.0 (coefficient same_term g.parts p.1) >>= λ a. only_if (is_multiple a f g) (Some (record { factor = a; more = g.constant -ℤ a *ℤ f.constant }))) x e in
    let a = bind_some (ratio p.0.0 (coefficient same_term g.parts p.0.1)) (λ a. only_if (is_multiple a f g) (Some (record { factor = a; more = g.constant -ℤ a *ℤ f.constant }))) x p.2 in
    let made : Affine = record { factor = a.0; more = g.constant -ℤ a.0 *ℤ f.constant } in
    let h = only_some (is_multiple a.0 f g) (Some made) x a.2 in
    subst (λ (y : Affine). worth (number_of names) g ≡ y.factor *ℤ worth (number_of names) f +ℤ y.more) (some_is made x h.1) (in_two a.0 (worth_of_parts (number_of names) f.parts) f.constant (worth_of_parts (number_of names) g.parts) g.constant (multiple_means names a.0 f g h.0))

-- ---- products

pub product_natural : (x y : ℤ) → pos 0 ≤ℤ x → pos 0 ≤ℤ y → pos 0 ≤ℤ (x *ℤ y)
product_natural (pos m) y h k = times_pos m y k
product_natural (negsuc m) y h k = absurd (no_natural h)
  where
    no_natural : pos 0 ≤ℤ negsuc m → ⊥
    no_natural h = omega (arith, ints, h)

-- (a * s) * (b * t) is (a * b) * (s * t)
crossed : (a s b t : ℤ) → (a *ℤ s) *ℤ (b *ℤ t) ≡ (a *ℤ b) *ℤ (s *ℤ t)
crossed a s b t =
    times_assoc a s (b *ℤ t)
    ∙ (ap (λ (y : ℤ). a *ℤ y) (sym (times_assoc s b t) ∙ (ap (λ (y : ℤ). y *ℤ t) (*ℤ_comm s b) ∙ times_assoc b s t))
    ∙ sym (times_assoc a b (s *ℤ t)))

-- (a * s) * d is (a * d) * s
moved : (a s d : ℤ) → (a *ℤ s) *ℤ d ≡ (a *ℤ d) *ℤ s
moved a s d = times_assoc a s d ∙ (ap (λ (y : ℤ). a *ℤ y) (*ℤ_comm s d) ∙ sym (times_assoc a d s))

multiplied_out : (a s c b t d : ℤ) → (a *ℤ s +ℤ c) *ℤ (b *ℤ t +ℤ d) ≡ (((a *ℤ b) *ℤ (s *ℤ t) +ℤ (a *ℤ d) *ℤ s) +ℤ (c *ℤ b) *ℤ t) +ℤ c *ℤ d
multiplied_out a s c b t d =
    let whole = distrib_right (a *ℤ s) c (b *ℤ t +ℤ d) in
    let first = distrib_left (a *ℤ s) (b *ℤ t) d in
    let second = distrib_left c (b *ℤ t) d in
    let one = crossed a s b t in
    let two = moved a s d in
    let three = times_assoc c b t in
    omega (arith, ints, whole, first, second, one, two, three)

-- what the bound of a product says
bound_means : (names : Names) (p s t : Term) (k l m n : ℤ) → number_of names (made_two add (made_two add (made_two add (made_two mul (Number k) p) (made_two mul (Number l) s)) (made_two mul (Number m) t)) (Number n)) ≡ ((k *ℤ number_of names p +ℤ l *ℤ number_of names s) +ℤ m *ℤ number_of names t) +ℤ n
bound_means names p s t k l m n =
    let a = product_means names (Number k) p in
    let b = product_means names (Number l) s in
    let c = product_means names (Number m) t in
    let ab = sum_means names (made_two mul (Number k) p) (made_two mul (Number l) s) in
    let abc = sum_means names (made_two add (made_two mul (Number k) p) (made_two mul (Number l) s)) (made_two mul (Number m) t) in
    let all = sum_means names (made_two add (made_two add (made_two mul (Number k) p) (made_two mul (Number l) s)) (made_two mul (Number m) t)) (Number n) in
    all_sums (k *ℤ number_of names p) (l *ℤ number_of names s) (m *ℤ number_of names t) n (number_of names (made_two mul (Number k) p)) (number_of names (made_two mul (Number l) s)) (number_of names (made_two mul (Number m) t)) (number_of names (made_two add (made_two mul (Number k) p) (made_two mul (Number l) s))) (number_of names (made_two add (made_two add (made_two mul (Number k) p) (made_two mul (Number l) s)) (made_two mul (Number m) t))) (number_of names (made_two add (made_two add (made_two add (made_two mul (Number k) p) (made_two mul (Number l) s)) (made_two mul (Number m) t)) (Number n))) a b c ab abc all
  where
    all_sums : (kp ls mt n a b c ab abc all : ℤ) → a ≡ kp → b ≡ ls → c ≡ mt → ab ≡ a +ℤ b → abc ≡ ab +ℤ c → all ≡ abc +ℤ n → all ≡ ((kp +ℤ ls) +ℤ mt) +ℤ n
    all_sums kp ls mt n a b c ab abc all e f g h i j = omega (arith, ints, e, f, g, h, i, j)

-- the bound is the product of two numbers that are at least 0
product_of_holds : (names : Names) (p s t : Term) (x y : Affine) (g : Term) (v w : ℤ) → number_of names p ≡ number_of names s *ℤ number_of names t → v ≡ x.factor *ℤ number_of names s +ℤ x.more → w ≡ y.factor *ℤ number_of names t +ℤ y.more → pos 0 ≤ℤ v → pos 0 ≤ℤ w → product_of p s t x y ≡ Some g → (sense names g).truth ≡ true
product_of_holds names p s t x y g v w is_p is_v is_w le_v le_w e =
    let a = bind_some (fitted (x.factor *ℤ y.factor)) (λ k. fitted (x.factor *ℤ y.more) >>= λ l. fitted (x.more *ℤ y.factor) >>= λ m. fitted (x.more *ℤ y.more) >>= λ n. Some (product_bound p s t k l m n)) g e in
    let b = bind_some (fitted (x.factor *ℤ y.more)) (λ l. fitted (x.more *ℤ y.factor) >>= λ m. fitted (x.more *ℤ y.more) >>= λ n. Some (product_bound p s t a.0 l m n)) g a.2 in
    let c = bind_some (fitted (x.more *ℤ y.factor)) (λ m. fitted (x.more *ℤ y.more) >>= λ n. Some (product_bound p s t a.0 b.0 m n)) g b.2 in
    let d = bind_some (fitted (x.more *ℤ y.more)) (λ n. Some (product_bound p s t a.0 b.0 c.0 n)) g c.2 in
    let out = multiplied_out x.factor (number_of names s) x.more y.factor (number_of names t) y.more in
    let natural : pos 0 ≤ℤ (v *ℤ w) = product_natural v w le_v le_w in
    let whole : v *ℤ w ≡ (x.factor *ℤ number_of names s +ℤ x.more) *ℤ (y.factor *ℤ number_of names t +ℤ y.more) = ap (λ (z : ℤ). z *ℤ w) is_v ∙ ap (λ (z : ℤ). (x.factor *ℤ number_of names s +ℤ x.more) *ℤ z) is_w in
    let is_k = fitted_is (x.factor *ℤ y.factor) a.0 a.1 in
    let is_l = fitted_is (x.factor *ℤ y.more) b.0 b.1 in
    let is_m = fitted_is (x.more *ℤ y.factor) c.0 c.1 in
    let is_n = fitted_is (x.more *ℤ y.more) d.0 d.1 in
    let same : v *ℤ w ≡ ((a.0 *ℤ number_of names p +ℤ b.0 *ℤ number_of names s) +ℤ c.0 *ℤ number_of names t) +ℤ d.0 = whole ∙ (out ∙ four (number_of names s) (number_of names t) (x.factor *ℤ y.factor) (x.factor *ℤ y.more) (x.more *ℤ y.factor) (x.more *ℤ y.more) a.0 b.0 c.0 d.0 (number_of names s *ℤ number_of names t) (number_of names p) is_k is_l is_m is_n (sym is_p)) in
    ap (λ (f : Term). (sense names f).truth) (sym (some_is (product_bound p s t a.0 b.0 c.0 d.0) g d.2))
    ∙ at_most_holds names zero_term (made_two add (made_two add (made_two add (made_two mul (Number a.0) p) (made_two mul (Number b.0) s)) (made_two mul (Number c.0) t)) (Number d.0)) (subst (λ (z : ℤ). pos 0 ≤ℤ z) (same ∙ sym (bound_means names p s t a.0 b.0 c.0 d.0)) natural)
  where
    four : (u v k l m n a b c d q r : ℤ) → k ≡ a → l ≡ b → m ≡ c → n ≡ d → q ≡ r → ((k *ℤ q +ℤ l *ℤ u) +ℤ m *ℤ v) +ℤ n ≡ ((a *ℤ r +ℤ b *ℤ u) +ℤ c *ℤ v) +ℤ d
    four u v k l m n a b c d q r e f g h i =
        let first : k *ℤ q ≡ a *ℤ r = ap (λ (z : ℤ). z *ℤ q) e ∙ ap (λ (z : ℤ). a *ℤ z) i in
        let second : l *ℤ u ≡ b *ℤ u = ap (λ (z : ℤ). z *ℤ u) f in
        let third : m *ℤ v ≡ c *ℤ v = ap (λ (z : ℤ). z *ℤ v) g in
        omega (arith, ints, first, second, third, h)

product_is : (names : Names) (p : Term) (u : Term × Term) → as_product p ≡ Some u → number_of names p ≡ number_of names u.0 *ℤ number_of names u.1
product_is names (Of mul (part s (part t no_parts))) u e =
    let same : (s, t) ≡ u = cc in
    ap (λ (q : Term × Term). number_of names q.0 *ℤ number_of names q.1) same
product_is names p u e = absurd cc

-- what two true literals state of a product is true
pub product_holds : (names : Names) (ls : List Literal) (i j : ℕ) (p g : Term) → AllTold names ls → product_stated ls i j p ≡ Some g → (sense names g).truth ≡ true
product_holds names ls i j p g all e =
    let u = bind_some (as_product p) (λ u. form_of u.0 >>= λ f. form_of u.1 >>= λ g. form_at ls i >>= λ h. form_at ls j >>= λ k. affine f h >>= λ x. affine g k >>= λ y. product_of p u.0 u.1 x y) g e in
    let f = bind_some (form_of u.0.0) (λ f. form_of u.0.1 >>= λ g. form_at ls i >>= λ h. form_at ls j >>= λ k. affine f h >>= λ x. affine g k >>= λ y. product_of p u.0.0 u.0.1 x y) g u.2 in
    let f2 = bind_some (form_of u.0.1) (λ g. form_at ls i >>= λ h. form_at ls j >>= λ k. affine f.0 h >>= λ x. affine g k >>= λ y. product_of p u.0.0 u.0.1 x y) g f.2 in
    let h = bind_some (form_at ls i) (λ h. form_at ls j >>= λ k. affine f.0 h >>= λ x. affine f2.0 k >>= λ y. product_of p u.0.0 u.0.1 x y) g f2.2 in
    let k = bind_some (form_at ls j) (λ k. affine f.0 h.0 >>= λ x. affine f2.0 k >>= λ y. product_of p u.0.0 u.0.1 x y) g h.2 in
    let x = bind_some (affine f.0 h.0) (λ x. affine f2.0 k.0 >>= λ y. product_of p u.0.0 u.0.1 x y) g k.2 in
    let y = bind_some (affine f2.0 k.0) (λ y. product_of p u.0.0 u.0.1 x.0 y) g x.2 in
    product_of_holds names p u.0.0 u.0.1 x.0 y.0 g (worth (number_of names) h.0) (worth (number_of names) k.0) (product_is names p u.0 u.1)
    (affine_means names f.0 h.0 x.0 x.1 ∙ ap (λ (z : ℤ). x.0.factor *ℤ z +ℤ x.0.more) (worth-form_of names u.0.0 f.0 f.1))
    (affine_means names f2.0 k.0 y.0 y.1 ∙ ap (λ (z : ℤ). y.0.factor *ℤ z +ℤ y.0.more) (worth-form_of names u.0.1 f2.0 f2.1))
    (form_natural names ls i h.0 all h.1) (form_natural names ls j k.0 all k.1) y.2
