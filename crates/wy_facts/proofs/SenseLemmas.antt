-- What made formulas mean, and when they hold.
use Rattle.std.proofs.Common.{◌≡◌, Bool, true, false, not, ◌&&◌, ◌||◌, ℤ, ◌≤ℤ◌, ◌<ℤ◌, refl, sym, ap, ◌∙◌, arith}
use Rattle.std.proofs.lemmas.Int.{ints}
use Rattle.std.proofs.lemmas.Bool.Decides.{Decides-int_eq}
use Rattle.std.proofs.lemmas.Slice.Eq.{bytes_eq-Decides}
use Rattle.wy_term_subst.proofs.wy_lemmas_proofs.Choices.{not_false, not_true}
use Rattle.wy_term_subst.specs.wy_value.Datum.{Datum, Null, Truth, Whole, Array, Record, Data, no_items, item, Fields, no_fields}
use Rattle.wy_term_subst.specs.wy_value.Datum as datum
use Rattle.wy_term_subst.specs.wy_term.Data.{same_datum, same_data, same_fields, length_in, number_in, is_of_kind, element}
use Rattle.wy_term_subst.specs.wy_term.Term.{DataKind, Term, Of, no_parts, part, one, two, at_most, equal, of_kind, denied, all_of, any_of, len, num, get}
use Rattle.wy_term_subst.specs.wy_term.Meaning.{Names, sense}
use Rattle.wy_term_subst.specs.wy_term.Meaning as meaning
use Rattle.wy_term_subst.proofs.wy_term_proofs.FoldingLemmas.{folding_keeps_meaning}
use Rattle.wy_facts.specs.Made.{made_one, made_two, is_at_most, is_equal, denial, is_below, both, all_three, all_four, either, one_of_three, implies, same_number}
use Rattle.wy_facts.specs.Schema.{length_of, number_in as number_term}

-- ---- truth values

-- ---- equal data

mutual
  pub datum_self : (d : Datum) → same_datum d d ≡ true
  datum_self Null = refl
  datum_self (Truth true) = refl
  datum_self (Truth false) = refl
  datum_self (Whole z) = (Decides-int_eq z z).1 refl
  datum_self (Array items) = data_self items
  datum_self (Record fields) = fields_self fields

  data_self : (ds : Data) → same_data ds ds ≡ true
  data_self no_items = refl
  data_self (item d rest) = rw (datum_self d, data_self rest) refl

  fields_self : (fs : Fields) → same_fields fs fs ≡ true
  fields_self no_fields = refl
  fields_self (datum.field n d rest) = rw ((bytes_eq-Decides n n).1 refl, datum_self d, fields_self rest) refl

module _ (names : Names) where
  abbrev pub num_of : Term → ℤ
  num_of t = (sense names t).number

  abbrev pub dat_of : Term → Datum
  dat_of t = (sense names t).datum

  abbrev pub tru_of : Term → Bool
  tru_of t = (sense names t).truth

  -- ---- what made terms mean

  at_most_means : (s t : Term) → tru_of (is_at_most s t) ≡ meaning.at_most (num_of s) (num_of t)
  at_most_means s t = folding_keeps_meaning (two at_most s t) names tt

  equal_means : (v w : Term) → tru_of (is_equal v w) ≡ same_datum (dat_of v) (dat_of w)
  equal_means v w = folding_keeps_meaning (two equal v w) names tt

  denial_means : (f : Term) → tru_of (denial f) ≡ not (tru_of f)
  denial_means f = folding_keeps_meaning (one denied f) names tt

  both_means : (f g : Term) → tru_of (both f g) ≡ (tru_of f && (tru_of g && true))
  both_means f g = folding_keeps_meaning (Of all_of (part f (part g no_parts))) names tt

  three_mean : (f g h : Term) → tru_of (all_three f g h) ≡ (tru_of f && (tru_of g && (tru_of h && true)))
  three_mean f g h = folding_keeps_meaning (Of all_of (part f (part g (part h no_parts)))) names tt

  four_mean : (f g h k : Term) → tru_of (all_four f g h k) ≡ (tru_of f && (tru_of g && (tru_of h && (tru_of k && true))))
  four_mean f g h k = folding_keeps_meaning (Of all_of (part f (part g (part h (part k no_parts))))) names tt

  either_means : (f g : Term) → tru_of (either f g) ≡ (tru_of f || (tru_of g || false))
  either_means f g = folding_keeps_meaning (Of any_of (part f (part g no_parts))) names tt

  one_of_three_means : (f g h : Term) → tru_of (one_of_three f g h) ≡ (tru_of f || (tru_of g || (tru_of h || false)))
  one_of_three_means f g h = folding_keeps_meaning (Of any_of (part f (part g (part h no_parts)))) names tt

  pub kind_means : (kind : DataKind) (v : Term) → tru_of (made_one (of_kind kind) v) ≡ is_of_kind kind (dat_of v)
  kind_means kind v = folding_keeps_meaning (one (of_kind kind) v) names tt

  pub length_means : (v : Term) → num_of (length_of v) ≡ length_in (dat_of v)
  length_means v = folding_keeps_meaning (one len v) names tt

  pub number_means : (v : Term) → num_of (number_term v) ≡ number_in (dat_of v)
  number_means v = folding_keeps_meaning (one num v) names tt

  pub element_means : (a j : Term) → dat_of (made_two get a j) ≡ element (dat_of a) (num_of j)
  element_means a j = folding_keeps_meaning (two get a j) names tt

  -- ---- when they hold

  at_most_is : (a b : ℤ) → meaning.at_most a b ≡ true → a ≤ℤ b
  at_most_is a b h = grind (arith, ints)

  at_most_not : (a b : ℤ) → meaning.at_most a b ≡ false → b <ℤ a
  at_most_not a b h = grind (arith, ints)

  is_at_most_by : (a b : ℤ) → a ≤ℤ b → meaning.at_most a b ≡ true
  is_at_most_by a b h = grind (arith, ints)

  not_at_most_by : (a b : ℤ) → b <ℤ a → meaning.at_most a b ≡ false
  not_at_most_by a b h = grind (arith, ints)

  pub at_most_holds : (s t : Term) → num_of s ≤ℤ num_of t → tru_of (is_at_most s t) ≡ true
  at_most_holds s t h = at_most_means s t ∙ is_at_most_by (num_of s) (num_of t) h

  pub at_most_says : (s t : Term) → tru_of (is_at_most s t) ≡ true → num_of s ≤ℤ num_of t
  at_most_says s t e = at_most_is (num_of s) (num_of t) (sym (at_most_means s t) ∙ e)

  pub not_at_most_says : (s t : Term) → tru_of (is_at_most s t) ≡ false → num_of t <ℤ num_of s
  not_at_most_says s t e = at_most_not (num_of s) (num_of t) (sym (at_most_means s t) ∙ e)

  pub below_holds : (s t : Term) → num_of s <ℤ num_of t → tru_of (is_below s t) ≡ true
  below_holds s t h = denial_means (is_at_most t s) ∙ ap not (at_most_means t s ∙ not_at_most_by (num_of t) (num_of s) h)

  pub below_says : (s t : Term) → tru_of (is_below s t) ≡ true → num_of s <ℤ num_of t
  below_says s t e = at_most_not (num_of t) (num_of s) (sym (at_most_means t s) ∙ not_true (tru_of (is_at_most t s)) (sym (denial_means (is_at_most t s)) ∙ e))

  pub not_below_says : (s t : Term) → tru_of (is_below s t) ≡ false → num_of t ≤ℤ num_of s
  not_below_says s t e = at_most_is (num_of t) (num_of s) (sym (at_most_means t s) ∙ not_false (tru_of (is_at_most t s)) (sym (denial_means (is_at_most t s)) ∙ e))

  pub equal_holds : (v w : Term) → dat_of v ≡ dat_of w → tru_of (is_equal v w) ≡ true
  equal_holds v w e = equal_means v w ∙ ap (same_datum (dat_of v)) (sym e) ∙ datum_self (dat_of v)

  pub denial_holds : (f : Term) → tru_of f ≡ false → tru_of (denial f) ≡ true
  denial_holds f e = denial_means f ∙ ap not e

  two_true : (a b : Bool) → a ≡ true → b ≡ true → (a && (b && true)) ≡ true
  two_true a b e f = rw (e, f) refl

  three_true : (a b c : Bool) → a ≡ true → b ≡ true → c ≡ true → (a && (b && (c && true))) ≡ true
  three_true a b c e f g = rw (e, f, g) refl

  four_true : (a b c d : Bool) → a ≡ true → b ≡ true → c ≡ true → d ≡ true → (a && (b && (c && (d && true)))) ≡ true
  four_true a b c d e f g h = rw (e, f, g, h) refl

  pub both_hold : (f g : Term) → tru_of f ≡ true → tru_of g ≡ true → tru_of (both f g) ≡ true
  both_hold f g e h = both_means f g ∙ two_true (tru_of f) (tru_of g) e h

  pub three_hold : (f g h : Term) → tru_of f ≡ true → tru_of g ≡ true → tru_of h ≡ true → tru_of (all_three f g h) ≡ true
  three_hold f g h a b c = three_mean f g h ∙ three_true (tru_of f) (tru_of g) (tru_of h) a b c

  pub four_hold : (f g h k : Term) → tru_of f ≡ true → tru_of g ≡ true → tru_of h ≡ true → tru_of k ≡ true → tru_of (all_four f g h k) ≡ true
  four_hold f g h k a b c d = four_mean f g h k ∙ four_true (tru_of f) (tru_of g) (tru_of h) (tru_of k) a b c d

  and_first : (a b : Bool) → (a && b) ≡ true → a ≡ true
  and_first true b e = refl
  and_first false b e = absurd cc

  and_rest : (a b : Bool) → (a && b) ≡ true → b ≡ true
  and_rest true b e = e
  and_rest false b e = absurd cc

  pub both_say : (f g : Term) → tru_of (both f g) ≡ true → (tru_of f ≡ true) × (tru_of g ≡ true)
  both_say f g e =
      let h = sym (both_means f g) ∙ e in
      (and_first (tru_of f) (tru_of g && true) h, and_first (tru_of g) true (and_rest (tru_of f) (tru_of g && true) h))

  pub four_say : (f g h k : Term) → tru_of (all_four f g h k) ≡ true → (tru_of f ≡ true) × (tru_of g ≡ true) × (tru_of h ≡ true) × (tru_of k ≡ true)
  four_say f g h k e =
      let a = sym (four_mean f g h k) ∙ e in
      let b = and_rest (tru_of f) (tru_of g && (tru_of h && (tru_of k && true))) a in
      let c = and_rest (tru_of g) (tru_of h && (tru_of k && true)) b in
      let d = and_rest (tru_of h) (tru_of k && true) c in
      (and_first (tru_of f) (tru_of g && (tru_of h && (tru_of k && true))) a, and_first (tru_of g) (tru_of h && (tru_of k && true)) b, and_first (tru_of h) (tru_of k && true) c, and_first (tru_of k) true d)

  or_by : (a b : Bool) → (a ≡ false → b ≡ true) → (a || (b || false)) ≡ true
  or_by true b h = refl
  or_by false true h = refl
  or_by false false h = absurd (true_is_not (h refl))
    where
      true_is_not : false ≡ true → ⊥
      true_is_not e = cc

  three_by : (a b c : Bool) → (a ≡ false → b ≡ false → c ≡ true) → (a || (b || (c || false))) ≡ true
  three_by true b c h = refl
  three_by false true c h = refl
  three_by false false true h = refl
  three_by false false false h = absurd (true_is_not (h refl refl))
    where
      true_is_not : false ≡ true → ⊥
      true_is_not e = cc

  -- g holds unless f does
  pub either_holds : (f g : Term) → (tru_of f ≡ false → tru_of g ≡ true) → tru_of (either f g) ≡ true
  either_holds f g h = either_means f g ∙ or_by (tru_of f) (tru_of g) h

  pub either_first : (f g : Term) → tru_of f ≡ true → tru_of (either f g) ≡ true
  either_first f g e = either_holds f g (λ h. absurd (apart (tru_of f) e h))
    where
      apart : (b : Bool) → b ≡ true → b ≡ false → ⊥
      apart true e h = cc
      apart false e h = cc

  pub either_second : (f g : Term) → tru_of g ≡ true → tru_of (either f g) ≡ true
  either_second f g e = either_holds f g (λ h. e)

  pub one_of_three_holds : (f g h : Term) → (tru_of f ≡ false → tru_of g ≡ false → tru_of h ≡ true) → tru_of (one_of_three f g h) ≡ true
  one_of_three_holds f g h k = one_of_three_means f g h ∙ three_by (tru_of f) (tru_of g) (tru_of h) k

  pub implies_holds : (f g : Term) → (tru_of f ≡ true → tru_of g ≡ true) → tru_of (implies f g) ≡ true
  implies_holds f g h = either_holds (denial f) g (λ e. h (not_false (tru_of f) (sym (denial_means f) ∙ e)))

  pub either_says : (f g : Term) → (P : Type 0) → tru_of (either f g) ≡ true → (tru_of f ≡ true → P) → (tru_of g ≡ true → P) → P
  either_says f g P e a b = by (tru_of f) refl (tru_of g) refl
    where
      no_one : (x y : Bool) → x ≡ false → y ≡ false → (x || (y || false)) ≡ true → ⊥
      no_one x y p q r = cc

      by : (x : Bool) → tru_of f ≡ x → (y : Bool) → tru_of g ≡ y → P
      by true is y other = a is
      by false is true other = b other
      by false is false other = absurd (no_one (tru_of f) (tru_of g) is other (sym (either_means f g) ∙ e))

  same_order : (a b : ℤ) → a ≡ b → a ≤ℤ b
  same_order a b e = omega (arith, ints, e)

  pub same_number_holds : (s t : Term) → num_of s ≡ num_of t → tru_of (same_number s t) ≡ true
  same_number_holds s t e = both_hold (is_at_most s t) (is_at_most t s) (at_most_holds s t (same_order (num_of s) (num_of t) e)) (at_most_holds t s (same_order (num_of t) (num_of s) (sym e)))
