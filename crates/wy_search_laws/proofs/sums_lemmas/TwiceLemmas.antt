-- Twice a sum has twice its coefficients, so it has a variable where the sum has one.
use Rattle.std.proofs.Common.{◌≡◌, ◌*◌, ◌+◌, ◌%◌, ◌∙◌, ℕ, zero, suc, List, [], ◌∷◌, Bool, true, false, cond, eqb, ℤ, pos, negsuc, ◌+ℤ◌, ◌*ℤ◌, Some, refl, sym, ap, subst, arith}
use Rattle.std.specs.Prelude.{nat_eq, unsigned_abs, ◌==◌}
use Rattle.std.proofs.lemmas.Bool.{eqb-true, eq-eqb}
use Rattle.std.proofs.lemmas.Int.{ints}
use Rattle.wy_lemmas.proofs.Choices.{both_parts as both_of, both_true as still}
use Rattle.wy_lemmas.proofs.Lists.{some_parts}
use Rattle.wy_lemmas.proofs.Numbers.{distrib_right}
use Rattle.wy_lemmas.proofs.Options.{some_same as some_is}
use Rattle.wy_search_bounds.specs.wy_term.Rewriting.{fitted}
use Rattle.wy_search_bounds.specs.wy_lin.declared.arithmetic.Factor.TheVariants.{Times}
use Rattle.wy_search_bounds.specs.wy_lin.Linear.{◌>>=◌, more, Linear, nothing, coefficient, with_coefficient, plus_part, plus_parts, plus}
use Rattle.wy_search_bounds.specs.wy_lin.Combination.{form_at, combined, combined_from}
use Rattle.wy_search_bounds.proofs.wy_lin_proofs.OptionLemmas.{bind_some, fitted_is}
use Rattle.wy_search_bounds.specs.wy_lin_eliminate.Division.{gcd, common_from, common}
use Rattle.wy_search_bounds.specs.wy_lin_eliminate.Validity.{divides, is_bare}
use Rattle.wy_search_bounds.proofs.wy_lin_eliminate_proofs.ValidityLemmas.{form_with, some_form, even_abs}

-- ---- forms without variables have no common divisor

gcd_none : gcd 0 0 ≡ 0
unfolding gcd
gcd_none = refl

none_from : (g : ℕ) (ps : List (ℤ × ℕ)) → g ≡ 0 → is_bare ps ≡ true → common_from g ps ≡ 0
none_from g [] e f = e
none_from g (p ∷ ps) e f =
    let h = both_of (unsigned_abs p.0 == 0) (is_bare ps) f in
    none_from (gcd g (unsigned_abs p.0)) ps (ap (λ (k : ℕ). gcd k (unsigned_abs p.0)) e ∙ (ap (λ (k : ℕ). gcd 0 k) (eqb-true (unsigned_abs p.0) 0 h.0) ∙ gcd_none)) h.1

pub bare_common : (ps : List (ℤ × ℕ)) → is_bare ps ≡ true → common ps ≡ 0
bare_common ps e = none_from 0 ps refl e

-- ---- twice the coefficients

-- the second parts have twice the coefficients of the first, at the same variables
abbrev AreTwice : List (ℤ × ℕ) → List (ℤ × ℕ) → Type 0
AreTwice [] [] = Unit {0}
AreTwice [] (q ∷ qs) = ⊥
AreTwice (p ∷ ps) [] = ⊥
AreTwice (p ∷ ps) (q ∷ qs) = (q.0 ≡ p.0 +ℤ p.0) × (q.1 ≡ p.1) × AreTwice ps qs

zero_twice : pos 0 ≡ pos 0 +ℤ pos 0
zero_twice = omega (arith, ints)

twice_coefficient : (ps qs : List (ℤ × ℕ)) (v : ℕ) → AreTwice ps qs → coefficient nat_eq qs v ≡ coefficient nat_eq ps v +ℤ coefficient nat_eq ps v
twice_coefficient [] [] v h = zero_twice
twice_coefficient [] (q ∷ qs) v h = absurd h
twice_coefficient (p ∷ ps) [] v h = absurd h
twice_coefficient (p ∷ ps) (q ∷ qs) v h = ap (λ (w : ℕ). cond (nat_eq v w) q.0 (coefficient nat_eq qs v)) h.1 ∙ by (nat_eq v p.1) (twice_coefficient ps qs v h.2)
  where
    by : (b : Bool) → coefficient nat_eq qs v ≡ coefficient nat_eq ps v +ℤ coefficient nat_eq ps v → cond b q.0 (coefficient nat_eq qs v) ≡ cond b p.0 (coefficient nat_eq ps v) +ℤ cond b p.0 (coefficient nat_eq ps v)
    by true rest = h.0
    by false rest = rest

twice_with : (ps qs : List (ℤ × ℕ)) (v : ℕ) (d e : ℤ) → e ≡ d +ℤ d → AreTwice ps qs → AreTwice (with_coefficient nat_eq ps v d) (with_coefficient nat_eq qs v e)
twice_with [] [] v d e is h = (is, refl, tt)
twice_with [] (q ∷ qs) v d e is h = absurd h
twice_with (p ∷ ps) [] v d e is h = absurd h
twice_with (p ∷ ps) (q ∷ qs) v d e is h =
    subst (λ (w : ℕ). AreTwice (cond (nat_eq v p.1) ((d, p.1) ∷ ps) (p ∷ with_coefficient nat_eq ps v d)) (cond (nat_eq v w) ((e, q.1) ∷ qs) (q ∷ with_coefficient nat_eq qs v e))) (sym h.1) (by (nat_eq v p.1) (twice_with ps qs v d e is h.2))
  where
    by : (b : Bool) → AreTwice (with_coefficient nat_eq ps v d) (with_coefficient nat_eq qs v e) → AreTwice (cond b ((d, p.1) ∷ ps) (p ∷ with_coefficient nat_eq ps v d)) (cond b ((e, q.1) ∷ qs) (q ∷ with_coefficient nat_eq qs v e))
    by true rest = (is, h.1, h.2)
    by false rest = (h.0, h.1, rest)

twice_sum : (m : ℕ) (a b c d e x y : ℤ) → b ≡ a +ℤ a → pos m *ℤ c ≡ x → a +ℤ x ≡ d → pos (2 * m) *ℤ c ≡ y → b +ℤ y ≡ e → e ≡ d +ℤ d
twice_sum m a b c d e x y f g h i j =
    let twice : pos (2 * m) ≡ pos m +ℤ pos m = omega (arith, ints) in
    let whole : pos (2 * m) *ℤ c ≡ pos m *ℤ c +ℤ pos m *ℤ c = ap (λ (z : ℤ). z *ℤ c) twice ∙ distrib_right (pos m) (pos m) c in
    omega (arith, ints, f, g, h, i, j, whole)

twice_more : (a b c d e : ℤ) (m : ℕ) → b ≡ a +ℤ a → more a (Times m) c ≡ Some d → more b (Times (2 * m)) c ≡ Some e → e ≡ d +ℤ d
twice_more a b c d e m is f g =
    let x = bind_some (fitted (pos m *ℤ c)) (λ (z : ℤ). fitted (a +ℤ z)) d f in
    let y = bind_some (fitted (pos (2 * m) *ℤ c)) (λ (z : ℤ). fitted (b +ℤ z)) e g in
    twice_sum m a b c d e x.0 y.0 is (fitted_is (pos m *ℤ c) x.0 x.1) (fitted_is (a +ℤ x.0) d x.2) (fitted_is (pos (2 * m) *ℤ c) y.0 y.1) (fitted_is (b +ℤ y.0) e y.2)

twice_part : (ps qs rs ss : List (ℤ × ℕ)) (m : ℕ) (c : ℤ) (v : ℕ) → AreTwice ps qs → plus_part nat_eq ps (Times m) c v ≡ Some rs → plus_part nat_eq qs (Times (2 * m)) c v ≡ Some ss → AreTwice rs ss
twice_part ps qs rs ss m c v h f g =
    let a = bind_some (more (coefficient nat_eq ps v) (Times m) c) (λ (d : ℤ). some_parts (with_coefficient nat_eq ps v d)) rs f in
    let b = bind_some (more (coefficient nat_eq qs v) (Times (2 * m)) c) (λ (d : ℤ). some_parts (with_coefficient nat_eq qs v d)) ss g in
    let is = twice_more (coefficient nat_eq ps v) (coefficient nat_eq qs v) c a.0 b.0 m (twice_coefficient ps qs v h) a.1 b.1 in
    subst (λ (x : List (ℤ × ℕ)). AreTwice x ss) (some_is (with_coefficient nat_eq ps v a.0) rs a.2)
    (subst (λ (x : List (ℤ × ℕ)). AreTwice (with_coefficient nat_eq ps v a.0) x) (some_is (with_coefficient nat_eq qs v b.0) ss b.2) (twice_with ps qs v a.0 b.0 is h))

twice_parts : (ps qs rs ss : List (ℤ × ℕ)) (m : ℕ) (gs : List (ℤ × ℕ)) → AreTwice ps qs → plus_parts nat_eq ps (Times m) gs ≡ Some rs → plus_parts nat_eq qs (Times (2 * m)) gs ≡ Some ss → AreTwice rs ss
twice_parts ps qs rs ss m [] h f g = subst (λ (x : List (ℤ × ℕ)). AreTwice x ss) (some_is ps rs f) (subst (λ (x : List (ℤ × ℕ)). AreTwice ps x) (some_is qs ss g) h)
twice_parts ps qs rs ss m (k ∷ ks) h f g =
    let a = bind_some (plus_part nat_eq ps (Times m) k.0 k.1) (λ (x : List (ℤ × ℕ)). plus_parts nat_eq x (Times m) ks) rs f in
    let b = bind_some (plus_part nat_eq qs (Times (2 * m)) k.0 k.1) (λ (x : List (ℤ × ℕ)). plus_parts nat_eq x (Times (2 * m)) ks) ss g in
    twice_parts a.0 b.0 rs ss m ks (twice_part ps qs a.0 b.0 m k.0 k.1 h a.1 b.1) a.2 b.2

twice_plus : (f g h k : Linear ℕ) (m : ℕ) (x : Linear ℕ) → AreTwice f.parts g.parts → plus nat_eq f (Times m) x ≡ Some h → plus nat_eq g (Times (2 * m)) x ≡ Some k → AreTwice h.parts k.parts
twice_plus f g h k m x twice e i =
    let a = bind_some (plus_parts nat_eq f.parts (Times m) x.parts) (λ (ps : List (ℤ × ℕ)). more f.constant (Times m) x.constant >>= λ (c : ℤ). some_form (form_with ps c)) h e in
    let b = bind_some (more f.constant (Times m) x.constant) (λ (c : ℤ). some_form (form_with a.0 c)) h a.2 in
    let c = bind_some (plus_parts nat_eq g.parts (Times (2 * m)) x.parts) (λ (ps : List (ℤ × ℕ)). more g.constant (Times (2 * m)) x.constant >>= λ (c : ℤ). some_form (form_with ps c)) k i in
    let d = bind_some (more g.constant (Times (2 * m)) x.constant) (λ (z : ℤ). some_form (form_with c.0 z)) k c.2 in
    subst (λ (ps : List (ℤ × ℕ)). AreTwice ps k.parts) (ap (λ (y : Linear ℕ). y.parts) (some_is (form_with a.0 b.0) h b.2))
    (subst (λ (ps : List (ℤ × ℕ)). AreTwice a.0 ps) (ap (λ (y : Linear ℕ). y.parts) (some_is (form_with c.0 d.0) k d.2)) (twice_parts f.parts g.parts a.0 c.0 m x.parts twice a.1 c.1))

-- ---- multipliers

-- the second multipliers are twice the first, at the same places
abbrev pub AreDoubled : List (ℕ × ℕ) → List (ℕ × ℕ) → Type 0
AreDoubled [] [] = Unit {0}
AreDoubled [] (n ∷ ns) = ⊥
AreDoubled (m ∷ ms) [] = ⊥
AreDoubled (m ∷ ms) (n ∷ ns) = (n.0 ≡ 2 * m.0) × (n.1 ≡ m.1) × AreDoubled ms ns

twice_combined : (all : List (Linear ℕ)) (ms ns : List (ℕ × ℕ)) (f g h k : Linear ℕ) → AreDoubled ms ns → AreTwice f.parts g.parts → combined_from all f ms ≡ Some h → combined_from all g ns ≡ Some k → AreTwice h.parts k.parts
twice_combined all [] [] f g h k doubled twice e i = subst (λ (x : Linear ℕ). AreTwice x.parts k.parts) (some_is f h e) (subst (λ (x : Linear ℕ). AreTwice f.parts x.parts) (some_is g k i) twice)
twice_combined all [] (n ∷ ns) f g h k doubled twice e i = absurd doubled
twice_combined all (m ∷ ms) [] f g h k doubled twice e i = absurd doubled
twice_combined all (m ∷ ms) (n ∷ ns) f g h k doubled twice e i =
    let a = bind_some (plus nat_eq f (Times m.0) (form_at all m.1)) (λ (x : Linear ℕ). combined_from all x ms) h e in
    let b = bind_some (plus nat_eq g (Times n.0) (form_at all n.1)) (λ (x : Linear ℕ). combined_from all x ns) k i in
    let is : plus nat_eq g (Times (2 * m.0)) (form_at all m.1) ≡ Some b.0 = ap (λ (x : ℕ). plus nat_eq g (Times x) (form_at all m.1)) (sym doubled.0) ∙ (ap (λ (x : ℕ). plus nat_eq g (Times n.0) (form_at all x)) (sym doubled.1) ∙ b.1) in
    twice_combined all ms ns a.0 b.0 h k doubled.2 (twice_plus f g a.0 b.0 m.0 (form_at all m.1) twice a.1 is) a.2 b.2

pub abs_zero : (z : ℤ) → unsigned_abs z ≡ 0 → z ≡ pos 0
abs_zero (pos n) e = ap (λ (m : ℕ). pos m) e
abs_zero (negsuc n) e = absurd (omega (arith, e))

half_none : (p q : ℤ) → q ≡ p +ℤ p → unsigned_abs q ≡ 0 → unsigned_abs p ≡ 0
half_none (pos n) q e f =
    let whole : pos n +ℤ pos n ≡ pos 0 = sym e ∙ abs_zero q f in
    omega (arith, ints, whole)
half_none (negsuc n) q e f =
    let whole : negsuc n +ℤ negsuc n ≡ pos 0 = sym e ∙ abs_zero q f in
    absurd (omega (arith, ints, whole))

twice_none : (ps qs : List (ℤ × ℕ)) → AreTwice ps qs → is_bare qs ≡ true → is_bare ps ≡ true
twice_none [] [] h e = refl
twice_none [] (q ∷ qs) h e = absurd h
twice_none (p ∷ ps) [] h e = absurd h
twice_none (p ∷ ps) (q ∷ qs) h e =
    let two = both_of (unsigned_abs q.0 == 0) (is_bare qs) e in
    still (unsigned_abs p.0 == 0) (is_bare ps) (eq-eqb (unsigned_abs p.0) 0 (half_none p.0 q.0 h.0 (eqb-true (unsigned_abs q.0) 0 two.0))) (twice_none ps qs h.2 two.1)

-- where a sum has a variable, so has its double
pub doubled_bare : (all : List (Linear ℕ)) (ms ns : List (ℕ × ℕ)) (f g : Linear ℕ) → AreDoubled ms ns → combined all ms ≡ Some f → combined all ns ≡ Some g → is_bare f.parts ≡ false → is_bare g.parts ≡ false
doubled_bare all ms ns f g doubled e i free = by (is_bare g.parts) refl
  where
    by : (b : Bool) → is_bare g.parts ≡ b → b ≡ false
    by true h = absurd (let up : true ≡ false = sym (twice_none f.parts g.parts (twice_combined all ms ns nothing nothing f g doubled tt e i) h) ∙ free in cc)
    by false h = refl

twice_even : (ps qs : List (ℤ × ℕ)) → AreTwice ps qs → divides 2 qs ≡ true
twice_even [] [] h = refl
twice_even [] (q ∷ qs) h = absurd h
twice_even (p ∷ ps) [] h = absurd h
twice_even (p ∷ ps) (q ∷ qs) h = still (unsigned_abs q.0 % 2 == 0) (divides 2 qs) (eq-eqb (unsigned_abs q.0 % 2) 0 (even_abs q.0 (record { half = p.0; is = h.0 }))) (twice_even ps qs h.2)

-- the double of a sum has even coefficients
pub doubled_even : (all : List (Linear ℕ)) (ms ns : List (ℕ × ℕ)) (f g : Linear ℕ) → AreDoubled ms ns → combined all ms ≡ Some f → combined all ns ≡ Some g → divides 2 g.parts ≡ true
doubled_even all ms ns f g doubled e i = twice_even f.parts g.parts (twice_combined all ms ns nothing nothing f g doubled tt e i)

pub twice_bare : (all : List (Linear ℕ)) (m l n u : ℕ) (f g : Linear ℕ) → combined all ((m, l) ∷ (n, u) ∷ []) ≡ Some f → combined all ((2 * m, l) ∷ (2 * n, u) ∷ []) ≡ Some g → is_bare f.parts ≡ false → is_bare g.parts ≡ false
twice_bare all m l n u f g e i free = doubled_bare all ((m, l) ∷ (n, u) ∷ []) ((2 * m, l) ∷ (2 * n, u) ∷ []) f g (refl, refl, (refl, refl, tt)) e i free
