-- What a cut states is true where the form is at least 0.
use Rattle.std.proofs.Common.{◌≡◌, ℕ, zero, suc, List, [], ◌∷◌, Bool, true, false, cond, eqb, ◌&&◌, ℤ, pos, negsuc, ◌+ℤ◌, ◌-ℤ◌, ◌*ℤ◌, ◌≤ℤ◌, ◌<ℤ◌, neg_ℤ, Some, refl, sym, ap, ◌∙◌, subst, arith}
use Rattle.std.proofs.lemmas.Int.{ints}
use Rattle.std.specs.Prelude.{nat_lt}
use Rattle.std.specs.Ordering.{int_eq}
use Rattle.std.proofs.Math.IntN.{zero-*ℤ}
use Rattle.wy_check_spec.specs.wy_facts.Schema.{zero_term}
use Rattle.wy_lemmas.proofs.Choices.{both_parts as and_both}
use Rattle.wy_lemmas.proofs.Numbers.{none_first as only_number, distrib_left}
use Rattle.wy_lemmas.proofs.Options.{some_same as some_is}
use Rattle.wy_check_spec.specs.wy_term.Term.{Term, Number, add, mul, two}
use Rattle.wy_check_spec.specs.wy_term.Data.{quotient_down}
use Rattle.wy_check_spec.specs.wy_term.Meaning.{Names, sense}
use Rattle.wy_check_spec.proofs.wy_term_proofs.FoldingLemmas.{folding_keeps_meaning}
use Rattle.wy_check_spec.specs.wy_lin.Linear.{Linear}
use Rattle.wy_check_spec.specs.wy_lin.Worth.{worth_of_parts, worth, number_of}
use Rattle.wy_check_spec.proofs.wy_lin_proofs.Ring.{times_assoc}
use Rattle.wy_check_spec.specs.wy_facts.Made.{made_two}
use Rattle.wy_check_spec.proofs.wy_facts_proofs.SenseLemmas.{at_most_holds}
use Rattle.wy_check_spec.proofs.wy_facts_proofs.QuotientLemmas.{divides}
use Rattle.wy_check_spec.specs.valid.Sums.{divided, added_up, total_of, cut_bound, cut_of}
use Rattle.wy_check_spec.specs.valid.Sums as sums
use Rattle.wy_check_laws.proofs.sound_lemmas.Basics.{only_some}
use Rattle.wy_check_laws.proofs.sound_lemmas.FormLemmas.{int_eq_is}

-- ---- sums of terms

pub sum_means : (names : Names) (s t : Term) → number_of names (made_two add s t) ≡ number_of names s +ℤ number_of names t
sum_means names s t = folding_keeps_meaning (two add s t) names tt

pub product_means : (names : Names) (s t : Term) → number_of names (made_two mul s t) ≡ number_of names s *ℤ number_of names t
product_means names s t = folding_keeps_meaning (two mul s t) names tt

-- the sum of the numbers of these terms
abbrev numbers_of : Names → List Term → ℤ
numbers_of names [] = pos 0
numbers_of names (t ∷ ts) = number_of names t +ℤ numbers_of names ts

none_more : (a : ℤ) → a ≡ a +ℤ pos 0
none_more a = omega (arith, ints)

one_more : (h a b c rest : ℤ) → h ≡ a +ℤ b → c ≡ h +ℤ rest → c ≡ a +ℤ (b +ℤ rest)
one_more h a b c rest e f = omega (arith, ints, e, f)

added_up_means : (names : Names) (s : Term) (ts : List Term) → number_of names (added_up s ts) ≡ number_of names s +ℤ numbers_of names ts
added_up_means names s [] = none_more (number_of names s)
added_up_means names s (t ∷ ts) =
    one_more (number_of names (made_two add s t)) (number_of names s) (number_of names t) (number_of names (added_up (made_two add s t) ts)) (numbers_of names ts) (sum_means names s t) (added_up_means names (made_two add s t) ts)

with_number : (h a z b : ℤ) → h ≡ a +ℤ z → a ≡ b → h ≡ b +ℤ z
with_number h a z b e f = omega (arith, ints, e, f)

total_means : (names : Names) (ts : List Term) (z : ℤ) → number_of names (total_of ts z) ≡ numbers_of names ts +ℤ z
total_means names [] z = only_number z
total_means names (t ∷ ts) z = with_number (number_of names (made_two add (added_up t ts) (Number z))) (number_of names (added_up t ts)) z (numbers_of names (t ∷ ts)) (sum_means names (added_up t ts) (Number z)) (added_up_means names t ts)

-- ---- divided parts

part_divided : (d q c v x : ℤ) → d *ℤ q ≡ c → x ≡ q *ℤ v → d *ℤ x ≡ c *ℤ v
part_divided d q c v x e f = ap (λ (y : ℤ). d *ℤ y) f ∙ (sym (times_assoc d q v) ∙ ap (λ (y : ℤ). y *ℤ v) e)

parts_divided : (d x rest c others : ℤ) → d *ℤ x ≡ c → d *ℤ rest ≡ others → d *ℤ (x +ℤ rest) ≡ c +ℤ others
parts_divided d x rest c others e f = let apart = distrib_left d x rest in omega (arith, ints, e, f, apart)

no_part : (a c v others : ℤ) → a ≡ others → c *ℤ v ≡ pos 0 → a ≡ c *ℤ v +ℤ others
no_part a c v others e f = omega (arith, ints, e, f)

nothing_left : (d : ℤ) → d *ℤ pos 0 ≡ pos 0
nothing_left d = omega (arith, ints)

-- the products of the divided coefficients, times the divisor, are worth the parts
divided_means : (names : Names) (d : ℕ) (ps : List (ℤ × Term)) → sums.divides_all d ps ≡ true → pos d *ℤ numbers_of names (divided d ps) ≡ worth_of_parts (number_of names) ps
divided_means names d [] e = nothing_left (pos d)
divided_means names d (p ∷ ps) e =
    let h = and_both (sums.divides d p.0) (sums.divides_all d ps) e in
    by h.0 (divided_means names d ps h.1) (int_eq p.0 (pos 0)) refl
  where
    by : sums.divides d p.0 ≡ true → pos d *ℤ numbers_of names (divided d ps) ≡ worth_of_parts (number_of names) ps → (b : Bool) → int_eq p.0 (pos 0) ≡ b → pos d *ℤ numbers_of names (cond b (divided d ps) (made_two mul (Number (quotient_down p.0 d)) p.1 ∷ divided d ps)) ≡ p.0 *ℤ number_of names p.1 +ℤ worth_of_parts (number_of names) ps
    by f rest true is = no_part (pos d *ℤ numbers_of names (divided d ps)) p.0 (number_of names p.1) (worth_of_parts (number_of names) ps) rest (ap (λ (c : ℤ). c *ℤ number_of names p.1) (int_eq_is p.0 (pos 0) is) ∙ zero-*ℤ (number_of names p.1))
    by f rest false is =
        parts_divided (pos d) (number_of names (made_two mul (Number (quotient_down p.0 d)) p.1)) (numbers_of names (divided d ps)) (p.0 *ℤ number_of names p.1) (worth_of_parts (number_of names) ps)
        (part_divided (pos d) (quotient_down p.0 d) p.0 (number_of names p.1) (number_of names (made_two mul (Number (quotient_down p.0 d)) p.1)) (int_eq_is (pos d *ℤ quotient_down p.0 d) p.0 f) (product_means names (Number (quotient_down p.0 d)) p.1))
        rest

-- ---- rounding down

nonzero : (d : ℕ) → nat_lt 1 d ≡ true → pos d ≡ pos 0 → ⊥
nonzero zero e h = absurd cc
nonzero (suc d) e h = omega (arith, ints, h)

positive : (d : ℕ) → nat_lt 1 d ≡ true → pos 0 <ℤ pos d
positive zero e = absurd cc
positive (suc d) e = omega (arith, ints)

not_zero : (d : ℕ) → nat_lt 1 d ≡ true → eqb d 0 ≡ false
not_zero zero e = absurd cc
not_zero (suc d) e = grind arith

plainly : (k : ℤ) (d : ℕ) (b : Bool) → b ≡ false → k -ℤ pos d *ℤ cond b (pos 0) (quotient_down k d) ≡ k -ℤ pos d *ℤ quotient_down k d
plainly k d b e = ap (λ (c : Bool). k -ℤ pos d *ℤ cond c (pos 0) (quotient_down k d)) e

rest_is_below : (k : ℤ) (d : ℕ) → nat_lt 1 d ≡ true → (k -ℤ pos d *ℤ quotient_down k d) <ℤ pos d
rest_is_below k d e = subst (λ (r : ℤ). r <ℤ pos d) (plainly k d (eqb d 0) (not_zero d e)) ((divides k (pos d) (nonzero d e)).below (positive d e))

-- a multiple of a negative number is at most the opposite of the factor
below_zero : (d : ℕ) (y : ℤ) → y <ℤ pos 0 → (pos d *ℤ y) ≤ℤ neg_ℤ (pos d)
below_zero d y h = grind (arith, ints)

is_at_least : (d w q k x : ℤ) → ((d *ℤ x) ≤ℤ neg_ℤ d) → d *ℤ x ≡ w +ℤ d *ℤ q → pos 0 ≤ℤ (w +ℤ k) → (k -ℤ d *ℤ q) <ℤ d → ⊥
is_at_least d w q k x low e le lt = omega (arith, ints, low, e, le, lt)

not_negative : (x : ℤ) → (x <ℤ pos 0 → ⊥) → pos 0 ≤ℤ x
not_negative (pos n) h = omega (arith, ints)
not_negative (negsuc n) h = absurd (h (omega (arith, ints)))

rounded_natural : (d : ℕ) (w k s : ℤ) → nat_lt 1 d ≡ true → pos d *ℤ s ≡ w → pos 0 ≤ℤ (w +ℤ k) → pos 0 ≤ℤ (s +ℤ quotient_down k d)
rounded_natural d w k s two_or_more e le =
    not_negative (s +ℤ quotient_down k d) (λ lt. is_at_least (pos d) w (quotient_down k d) k (s +ℤ quotient_down k d) (below_zero d (s +ℤ quotient_down k d) lt) (spread (quotient_down k d)) le (rest_is_below k d two_or_more))
  where
    spread : (q : ℤ) → pos d *ℤ (s +ℤ q) ≡ w +ℤ pos d *ℤ q
    spread q = distrib_left (pos d) s q ∙ ap (λ (y : ℤ). y +ℤ pos d *ℤ q) e

-- the cut of a form that is at least 0 is true
pub cut_holds : (names : Names) (d : ℕ) (f : Linear Term) (g : Term) → pos 0 ≤ℤ worth (number_of names) f → cut_of d f ≡ Some g → (sense names g).truth ≡ true
cut_holds names d f g le e =
    let h = only_some (nat_lt 1 d && sums.divides_all d f.parts) (Some (cut_bound d f)) g e in
    let two_parts = and_both (nat_lt 1 d) (sums.divides_all d f.parts) h.0 in
    let natural = rounded_natural d (worth_of_parts (number_of names) f.parts) f.constant (numbers_of names (divided d f.parts)) two_parts.0 (divided_means names d f.parts two_parts.1) le in
    ap (λ (t : Term). (sense names t).truth) (sym (some_is (cut_bound d f) g h.1))
    ∙ at_most_holds names zero_term (total_of (divided d f.parts) (quotient_down f.constant d)) (subst (λ (x : ℤ). pos 0 ≤ℤ x) (sym (total_means names (divided d f.parts) (quotient_down f.constant d))) natural)
