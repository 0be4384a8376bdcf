-- Forms that are at least 0, and what is made of them.
use Rattle.std.proofs.Common.{◌≡◌, ◌∙◌, ◌+◌, ◌*◌, ◌/◌, ◌%◌, ◌<◌, ◌&&◌, ◌^◌, ℕ, zero, suc, List, [], ◌∷◌, ◌++◌, Bool, true, false, cond, eqb, ℤ, pos, negsuc, neg_ℤ, ◌+ℤ◌, ◌-ℤ◌, ◌*ℤ◌, ◌≤ℤ◌, ◌<ℤ◌, Option, Some, None, refl, sym, ap, subst, arith}
use Rattle.std.specs.Prelude.{unsigned_abs, int_lt}
use Rattle.std.specs.Ordering.{int_eq}
use Rattle.std.proofs.lemmas.Bool.{eqb-true}
use Rattle.std.proofs.lemmas.Int.{ints}
use Rattle.std.proofs.Math.Nat.{div-add-mod, zero-div}
use Rattle.std.proofs.Math.IntN.{zero-*ℤ}
use Rattle.wy_search_bounds.proofs.wy_facts_proofs.QuotientLemmas.{times_opposite}
use Rattle.wy_lemmas.proofs.Choices.{both_parts as and_both}
use Rattle.wy_lemmas.proofs.Numbers.{none_first, alone_from as alone, none_and_rest, zero_natural, distrib_left}
use Rattle.wy_search_bounds.specs.wy_term.Data.{quotient_down}
use Rattle.wy_search_bounds.specs.wy_lin.Linear.{Linear, nothing}
use Rattle.wy_search_bounds.specs.wy_lin.Combination.{form_at, combined}
use Rattle.wy_search_bounds.specs.wy_lin.Worth.{worth_of_parts, worth, total}
use Rattle.wy_search_bounds.proofs.wy_lin_proofs.Ring.{times_pos, times_assoc}
use Rattle.wy_search_bounds.proofs.wy_lin_proofs.WorthLemmas.{worth-combined}
use Rattle.wy_search_bounds.specs.wy_lin_eliminate.Division.{quotient, common, with_divided, divided_from, lowered}
use Rattle.wy_search_bounds.specs.wy_lin_eliminate.Validity.{divides, is_bare}
use Rattle.wy_search_bounds.proofs.wy_lin_eliminate_proofs.ValidityLemmas.{common-divides, common-bare}
use Rattle.wy_search_bounds.proofs.QuotientLemmas.{quotient_more}
use Rattle.wy_search_bounds.proofs.wy_check_laws_proofs.sound_lemmas.FormLemmas.{int_eq_is}
use Rattle.wy_search_laws.specs.sound.Closed.{IsNatural, AreNatural}

-- ---- tests

pub cond_some : {A : Type 0} (b : Bool) (o : Option A) (x : A) → cond b o None ≡ Some x → (b ≡ true) × (o ≡ Some x)
cond_some true o x e = (refl, e)
cond_some false o x e = absurd cc

pub below_is : (a b : ℤ) → int_lt a b ≡ true → a <ℤ b
below_is a b e = grind (arith, ints)

-- ---- sums

nothing_natural : (values : ℕ → ℤ) → IsNatural values nothing
nothing_natural values = zero_natural

pub natural_at : (values : ℕ → ℤ) (fs : List (Linear ℕ)) (i : ℕ) → AreNatural values fs → IsNatural values (form_at fs i)
natural_at values [] i h = nothing_natural values
natural_at values (f ∷ fs) zero h = h.0
natural_at values (f ∷ fs) (suc i) h = natural_at values fs i h.1

pub natural_last : (values : ℕ → ℤ) (fs : List (Linear ℕ)) (f : Linear ℕ) → AreNatural values fs → IsNatural values f → AreNatural values (fs ++ f ∷ [])
natural_last values [] f h g = (g, tt)
natural_last values (k ∷ ks) f h g = (h.0, natural_last values ks f h.1 g)

sum_natural : (a b : ℤ) → pos 0 ≤ℤ a → pos 0 ≤ℤ b → pos 0 ≤ℤ (a +ℤ b)
sum_natural a b f g = omega (arith, ints, f, g)

none_natural : pos 0 ≤ℤ pos 0
none_natural = omega (arith, ints)

total_natural : (values : ℕ → ℤ) (fs : List (Linear ℕ)) (ms : List (ℕ × ℕ)) → AreNatural values fs → pos 0 ≤ℤ total values fs ms
total_natural values fs [] h = none_natural
total_natural values fs (m ∷ ms) h = sum_natural (pos m.0 *ℤ worth values (form_at fs m.1)) (total values fs ms) (times_pos m.0 (worth values (form_at fs m.1)) (natural_at values fs m.1 h)) (total_natural values fs ms h)

-- a sum of multiples of forms that are at least 0
pub combined_natural : (values : ℕ → ℤ) (fs : List (Linear ℕ)) (ms : List (ℕ × ℕ)) (h : Linear ℕ) → AreNatural values fs → combined fs ms ≡ Some h → IsNatural values h
combined_natural values fs ms h all e = subst (λ (z : ℤ). pos 0 ≤ℤ z) (sym (worth-combined values fs ms h e)) (total_natural values fs ms all)

-- ---- forms without variables

abs_none : (z : ℤ) → unsigned_abs z ≡ 0 → z ≡ pos 0
abs_none (pos n) e = ap (λ (m : ℕ). pos m) e
abs_none (negsuc n) e = absurd (omega (arith, e))

bare_worth : (values : ℕ → ℤ) (ps : List (ℤ × ℕ)) → is_bare ps ≡ true → worth_of_parts values ps ≡ pos 0
bare_worth values [] e = refl
bare_worth values (p ∷ ps) e =
    let h = and_both (eqb (unsigned_abs p.0) 0) (is_bare ps) e in
    none_and_rest p.0 (values p.1) (worth_of_parts values ps) (ap (λ (c : ℤ). c *ℤ values p.1) (abs_none p.0 (eqb-true (unsigned_abs p.0) 0 h.0)) ∙ zero-*ℤ (values p.1)) (bare_worth values ps h.1)

no_such : (w c : ℤ) → pos 0 ≤ℤ (w +ℤ c) → w ≡ pos 0 → c <ℤ pos 0 → ⊥
no_such w c le e lt = omega (arith, ints, le, e, lt)

-- a form that is at least 0 and has no variable isn't negative
pub bare_never : (values : ℕ → ℤ) (f : Linear ℕ) → IsNatural values f → common f.parts ≡ 0 → int_lt f.constant (pos 0) ≡ true → ⊥
bare_never values f natural e lt = no_such (worth_of_parts values f.parts) f.constant natural (bare_worth values f.parts (common-bare f.parts e)) (below_is f.constant (pos 0) lt)

-- ---- divided forms

pub same_quotient : (d : ℕ) (c : ℤ) → quotient d c ≡ quotient_down c d
same_quotient d (pos n) = refl
same_quotient d (negsuc n) = refl

pub record IsTimes (d : ℕ) (c : ℤ) : Type 0 where
  pub rest : ℤ
  pub is : c ≡ pos d *ℤ rest

pub times_of : (d : ℕ) (c : ℤ) → unsigned_abs c % d ≡ 0 → IsTimes d c
times_of d (pos n) e =
    let whole = div-add-mod n d in
    let product : pos d *ℤ pos (n / d) ≡ pos (d * (n / d)) = refl in
    record { rest = pos (n / d); is = omega (arith, ints, whole, e, product) }
times_of d (negsuc n) e =
    let whole = div-add-mod (suc n) d in
    let product : pos d *ℤ pos (suc n / d) ≡ pos (d * (suc n / d)) = refl in
    let turned = times_opposite (pos d) (pos (suc n / d)) in
    let opposite : negsuc n ≡ neg_ℤ (pos (suc n)) = omega (arith, ints) in
    let whole_again : pos (suc n) ≡ pos (d * (suc n / d)) = let left : suc n ≡ d * (suc n / d) = omega (arith, whole, e) in ap (λ (k : ℕ). pos k) left in
    record { rest = neg_ℤ (pos (suc n / d)); is = opposite ∙ (ap neg_ℤ whole_again ∙ sym turned) }

-- a coefficient that the number divides is the number's multiple of the quotient
part_lowered : (d : ℕ) (c : ℤ) → 0 < d → unsigned_abs c % d ≡ 0 → pos d *ℤ quotient d c ≡ c
part_lowered d c lt e =
    let t = times_of d c e in
    let first : quotient_down (pos 0) d ≡ pos 0 = ap (λ (k : ℕ). pos k) (zero-div d) in
    let q : quotient_down c d ≡ t.rest = alone (quotient_down c d) t.rest (ap (λ (z : ℤ). quotient_down z d) (t.is ∙ none_first (pos d *ℤ t.rest)) ∙ (quotient_more (pos 0) t.rest d lt ∙ ap (λ (z : ℤ). z +ℤ t.rest) first)) in
    ap (λ (z : ℤ). pos d *ℤ z) (same_quotient d c ∙ q) ∙ sym t.is

only_worth : (v : ℤ) → v +ℤ pos 0 ≡ pos 0 +ℤ v
only_worth v = omega (arith, ints)

more_worth : (x a v w : ℤ) → w ≡ a +ℤ v → x +ℤ w ≡ (x +ℤ a) +ℤ v
more_worth x a v w e = omega (arith, ints, e)

worth-last : (values : ℕ → ℤ) (ps : List (ℤ × ℕ)) (c : ℤ) (v : ℕ) → worth_of_parts values (ps ++ (c, v) ∷ []) ≡ worth_of_parts values ps +ℤ c *ℤ values v
worth-last values [] c v = only_worth (c *ℤ values v)
worth-last values (p ∷ ps) c v = more_worth (p.0 *ℤ values p.1) (worth_of_parts values ps) (c *ℤ values v) (worth_of_parts values (ps ++ (c, v) ∷ [])) (worth-last values ps c v)

nothing_added : (w : ℤ) → w ≡ w +ℤ pos 0
nothing_added w = omega (arith, ints)

joined : (x y v rest : ℤ) → x ≡ y +ℤ v → x +ℤ rest ≡ y +ℤ (v +ℤ rest)
joined x y v rest e = omega (arith, ints, e)

-- one part more
with_divided_worth : (values : ℕ → ℤ) (d : ℕ) (done : List (ℤ × ℕ)) (p : ℤ × ℕ) → 0 < d → unsigned_abs p.0 % d ≡ 0 → pos d *ℤ worth_of_parts values (with_divided d done p) ≡ pos d *ℤ worth_of_parts values done +ℤ p.0 *ℤ values p.1
with_divided_worth values d done p lt e = by (int_eq p.0 (pos 0)) refl
  where
    by : (b : Bool) → int_eq p.0 (pos 0) ≡ b → pos d *ℤ worth_of_parts values (cond b done (done ++ (quotient d p.0, p.1) ∷ [])) ≡ pos d *ℤ worth_of_parts values done +ℤ p.0 *ℤ values p.1
    by true is =
        let none : p.0 *ℤ values p.1 ≡ pos 0 = ap (λ (c : ℤ). c *ℤ values p.1) (int_eq_is p.0 (pos 0) is) ∙ zero-*ℤ (values p.1) in
        nothing_added (pos d *ℤ worth_of_parts values done) ∙ ap (λ (z : ℤ). pos d *ℤ worth_of_parts values done +ℤ z) (sym none)
    by false is =
        ap (λ (z : ℤ). pos d *ℤ z) (worth-last values done (quotient d p.0) p.1)
        ∙ (distrib_left (pos d) (worth_of_parts values done) (quotient d p.0 *ℤ values p.1)
        ∙ ap (λ (z : ℤ). pos d *ℤ worth_of_parts values done +ℤ z) (sym (times_assoc (pos d) (quotient d p.0) (values p.1)) ∙ ap (λ (z : ℤ). z *ℤ values p.1) (part_lowered d p.0 lt e)))

divided_worth : (values : ℕ → ℤ) (d : ℕ) (done ps : List (ℤ × ℕ)) → 0 < d → divides d ps ≡ true → pos d *ℤ worth_of_parts values (divided_from d done ps) ≡ pos d *ℤ worth_of_parts values done +ℤ worth_of_parts values ps
divided_worth values d done [] lt e = nothing_added (pos d *ℤ worth_of_parts values done)
divided_worth values d done (p ∷ ps) lt e =
    let h = and_both (eqb (unsigned_abs p.0 % d) 0) (divides d ps) e in
    divided_worth values d (with_divided d done p) ps lt h.1
    ∙ joined (pos d *ℤ worth_of_parts values (with_divided d done p)) (pos d *ℤ worth_of_parts values done) (p.0 *ℤ values p.1) (worth_of_parts values ps) (with_divided_worth values d done p lt (eqb-true (unsigned_abs p.0 % d) 0 h.0))

natural_quotient : (z : ℤ) (d : ℕ) → pos 0 ≤ℤ z → pos 0 ≤ℤ quotient_down z d
natural_quotient (pos n) d h = omega (arith, ints)
natural_quotient (negsuc n) d h = absurd (omega (arith, ints, h))

whole_natural : (m ds w c : ℤ) → ds ≡ m *ℤ pos 0 +ℤ w → pos 0 ≤ℤ (w +ℤ c) → pos 0 ≤ℤ (c +ℤ ds)
whole_natural m ds w c e le = omega (arith, ints, e, le)

turned_natural : (s q r : ℤ) → pos 0 ≤ℤ (q +ℤ s) → r ≡ q → pos 0 ≤ℤ (s +ℤ r)
turned_natural s q r le e = omega (arith, ints, le, e)

-- what is left of a form that is at least 0, divided by a number that divides its coefficients, its constant rounded down
pub lowered_natural : (values : ℕ → ℤ) (d : ℕ) (f : Linear ℕ) → 0 < d → divides d f.parts ≡ true → IsNatural values f → IsNatural values (lowered d f)
lowered_natural values d f lt e natural =
    let s = worth_of_parts values (divided_from d [] f.parts) in
    let parts : pos d *ℤ s ≡ pos d *ℤ pos 0 +ℤ worth_of_parts values f.parts = divided_worth values d [] f.parts lt e in
    let whole = whole_natural (pos d) (pos d *ℤ s) (worth_of_parts values f.parts) f.constant parts natural in
    let rounded : pos 0 ≤ℤ (quotient_down f.constant d +ℤ s) = subst (λ (z : ℤ). pos 0 ≤ℤ z) (quotient_more f.constant s d lt) (natural_quotient (f.constant +ℤ pos d *ℤ s) d whole) in
    turned_natural s (quotient_down f.constant d) (quotient d f.constant) rounded (same_quotient d f.constant)

pub common_lowered : (values : ℕ → ℤ) (f : Linear ℕ) → 0 < common f.parts → IsNatural values f → IsNatural values (lowered (common f.parts) f)
common_lowered values f lt natural = lowered_natural values (common f.parts) f lt (common-divides f.parts) natural
