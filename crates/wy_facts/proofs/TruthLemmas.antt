-- What each schema states holds.
use Rattle.std.proofs.Common.{inl, inr, ◌≡◌, ℕ, List, [], ◌∷◌, Bool, true, false, cond, not, eqb, ℤ, pos, ◌+ℤ◌, ◌-ℤ◌, ◌*ℤ◌, ◌≤ℤ◌, ◌<ℤ◌, neg_ℤ, Option, Some, None, refl, sym, ap, subst, ◌∙◌, arith}
use Rattle.std.proofs.lemmas.Int.{ints}
use Rattle.std.specs.Prelude.{bytes_eq, ◌⊎◌}
use Rattle.std.proofs.lemmas.Slice.Eq.{bytes_eq-Decides}
use Rattle.wy_term_subst.proofs.wy_lemmas_proofs.Choices.{true_false as not_both}
use Rattle.wy_term_subst.proofs.wy_lemmas_proofs.Options.{some, some_same as some_is}
use Rattle.wy_term_subst.specs.wy_value.Datum.{Datum, Truth, Whole, Array}
use Rattle.wy_term_subst.specs.wy_term.Data.{quotient, remainder, length_in, element, with_element, repeated, field_in, with_field, items_with, is_of_kind, same_datum}
use Rattle.wy_term_subst.specs.wy_term.Term.{DataKind, null_kind, bool_kind, int_kind, Term, Of, Parts, no_parts, part, leaf, one, two, Number}
use Rattle.wy_term_subst.specs.wy_term.Term as term
use Rattle.wy_term_subst.specs.wy_term.Same.{same_term}
use Rattle.wy_term_subst.specs.wy_term.Rewriting.{as_number, as_array, as_bool}
use Rattle.wy_term_subst.specs.wy_term.Meaning.{Names, senses_of, data_in}
use Rattle.wy_term_subst.specs.wy_term.Folding.{folded}
use Rattle.wy_term_subst.proofs.wy_term_proofs.SameLemmas.{terms_are}
use Rattle.wy_term_subst.proofs.wy_term_proofs.FoldingLemmas.{folding_keeps_meaning}
use Rattle.wy_facts.specs.declared.schema.Schema.{Schema}
use Rattle.wy_facts.specs.declared.schema.Schema.TheVariants as schema
use Rattle.wy_facts.specs.Made.{made_one, made_two, is_at_most, is_equal, denial, is_below, both, all_four, either, implies, same_number}
use Rattle.wy_facts.specs.Schema.{◌>>=◌, whole, length_of, zero_term, stated, is_val, as_copies, as_updated, as_element, as_field_updated, as_field, as_equation, as_kind_test, as_division, element_numbered, has_field, Instance, instance, only_if, length_is_natural, length_of_copies, length_of_updated, numbered_in, element_of_array, element_of_copies, element_updated, element_elsewhere, elements_at_one_index, set_to, field_updated, field_before, field_elsewhere, equal_numbers, kind_before_update, kind_of_updated, kind_before_set, kind_of_field_updated, datum_by, datum_by_kind, division, plain_by_one, by_one, by_two, instance_of, fact_of}
use Rattle.wy_facts.specs.Schema as schemas
use Rattle.wy_facts.specs.Truth.{AlwaysHolds, FactsAreTrue}
use Rattle.wy_facts.proofs.SenseLemmas.{num_of, dat_of, tru_of, kind_means, length_means, number_means, element_means, at_most_holds, at_most_says, not_at_most_says, below_holds, below_says, not_below_says, equal_holds, denial_holds, both_hold, three_hold, four_hold, both_say, four_say, either_holds, either_first, either_second, one_of_three_holds, implies_holds, either_says, same_number_holds}
use Rattle.wy_facts.proofs.DataLemmas.{length_natural, length-repeated, length-with_element, element-repeated, element-with_element, element-elsewhere, element-items, kind-with_element, number_same, is_null, is_bool, is_int}
use Rattle.wy_facts.proofs.FieldLemmas.{field_in-set, field_in-other, kind-with_field}
use Rattle.wy_facts.proofs.QuotientLemmas.{divides}

-- both of two successive answers are there
bind_some : {A B : Type 0} (o : Option A) (f : A → Option B) (y : B) → (o >>= f) ≡ Some y → (x : A) × (o ≡ Some x) × (f x ≡ Some y)
bind_some (Some x) f y e = (x, refl, e)
bind_some None f y e = absurd cc

if_only : {A : Type 0} (b : Bool) (o : Option A) (x : A) → only_if b o ≡ some x → (b ≡ true) × (o ≡ Some x)
if_only true o x e = (refl, e)
if_only false o x e = absurd cc

at_once : (a b : ℤ) → a ≤ℤ b → b ≤ℤ a → a ≡ b
at_once a b h k = omega (arith, ints, h, k)

below_apart : (a b : ℤ) → a <ℤ b → a ≡ b → ⊥
below_apart a b h e = omega (arith, ints, h, e)

above_apart : (a b : ℤ) → b <ℤ a → a ≡ b → ⊥
above_apart a b h e = omega (arith, ints, h, e)

module _ (names : Names) where
  -- ---- what terms of a form mean

  copies_mean : (t : Term) (c : Term × Term) → as_copies t ≡ Some c → dat_of names t ≡ repeated (dat_of names c.0) (num_of names c.1)
  copies_mean (Of term.repeat (part v (part n no_parts))) c e = ap (λ (p : Term × Term). repeated (dat_of names p.0) (num_of names p.1)) (some_is (v, n) c e)
  copies_mean t c e = absurd cc

  updated_means : (t : Term) (u : Term × Term × Term) → as_updated t ≡ Some u → dat_of names t ≡ with_element (dat_of names u.0) (num_of names u.1) (dat_of names u.2)
  updated_means (Of term.update (part a (part i (part w no_parts)))) u e = ap (λ (p : Term × Term × Term). with_element (dat_of names p.0) (num_of names p.1) (dat_of names p.2)) (some_is (a, i, w) u e)
  updated_means t u e = absurd cc

  element_is : (t : Term) (g : Term × Term) → as_element t ≡ Some g → dat_of names t ≡ element (dat_of names g.0) (num_of names g.1)
  element_is (Of term.get (part a (part i no_parts))) g e = ap (λ (p : Term × Term). element (dat_of names p.0) (num_of names p.1)) (some_is (a, i) g e)
  element_is t g e = absurd cc

  field_updated_means : (t : Term) (u : Term × List ℕ × Term) → as_field_updated t ≡ Some u → dat_of names t ≡ with_field (dat_of names u.0) u.1 (dat_of names u.2)
  field_updated_means (Of (term.set_field name) (part r (part w no_parts))) u e = ap (λ (p : Term × List ℕ × Term). with_field (dat_of names p.0) p.1 (dat_of names p.2)) (some_is (r, name, w) u e)
  field_updated_means t u e = absurd cc

  field_is : (t : Term) (g : Term × List ℕ) → as_field t ≡ Some g → dat_of names t ≡ field_in (dat_of names g.0) g.1
  field_is (Of (term.field name) (part r no_parts)) g e = ap (λ (p : Term × List ℕ). field_in (dat_of names p.0) p.1) (some_is (r, name) g e)
  field_is t g e = absurd cc

  equation_means : (t : Term) (s : Term × Term) → as_equation t ≡ Some s → tru_of names t ≡ same_datum (dat_of names s.0) (dat_of names s.1)
  equation_means (Of term.equal (part v (part w no_parts))) s e = ap (λ (p : Term × Term). same_datum (dat_of names p.0) (dat_of names p.1)) (some_is (v, w) s e)
  equation_means t s e = absurd cc

  kind_test_means : (t : Term) (k : Term × DataKind) → as_kind_test t ≡ Some k → tru_of names t ≡ is_of_kind k.1 (dat_of names k.0)
  kind_test_means (Of (term.of_kind kind) (part v no_parts)) k e = ap (λ (p : Term × DataKind). is_of_kind p.1 (dat_of names p.0)) (some_is (v, kind) k e)
  kind_test_means t k e = absurd cc

  array_means : (t : Term) (vs : Parts) → as_array t ≡ Some vs → dat_of names t ≡ Array (items_with (data_in (senses_of vs) names))
  array_means (Of term.array ps) vs e = ap (λ (qs : Parts). Array (items_with (data_in (senses_of qs) names))) (some_is ps vs e)
  array_means t vs e = absurd cc

  number_is : (t : Term) (z : ℤ) → as_number t ≡ Some z → num_of names t ≡ z
  number_is (Of (term.number y) ps) z e = some_is y z e
  number_is t z e = absurd cc

  formula_is : (v f : Term) → as_bool v ≡ Some f → dat_of names v ≡ Truth (tru_of names f)
  formula_is (Of term.bool (part g no_parts)) f e = ap (λ (h : Term). Truth (tru_of names h)) (some_is g f e)
  formula_is v f e = absurd cc

  numbered_means : (a : Term) (z : ℤ) (v : Term) → numbered_in a z ≡ Some v → element (dat_of names a) z ≡ dat_of names v
  numbered_means a z v e =
      let vs = bind_some (as_array a) (λ vs. element_numbered vs z) v e in
      ap (λ (d : Datum). element d z) (array_means a vs.0 vs.1) ∙ element-items names vs.0 z v vs.2

  -- ---- instances that hold

  -- what is stated of the instance, if there is one, holds
  abbrev Holds : Option Instance → Type 0
  Holds o = (i : Instance) → o ≡ Some i → tru_of names (stated i.schema i.parts) ≡ true

  by_instance : (n : Schema) (ts : List Term) → tru_of names (stated n ts) ≡ true → Holds (instance n ts)
  by_instance n ts h i e =
      let made : Instance = record { schema = n; parts = ts } in
      subst (λ (j : Instance). tru_of names (stated j.schema j.parts) ≡ true) (some_is made i e) h

  by_bind : {A : Type 0} (o : Option A) (f : A → Option Instance) → ((a : A) → o ≡ Some a → Holds (f a)) → Holds (o >>= f)
  by_bind o f h i e = let a = bind_some o f i e in h a.0 a.1 i a.2

  by_if : (b : Bool) (o : Option Instance) → (b ≡ true → Holds o) → Holds (only_if b o)
  by_if b o h i e = let p = if_only b o i e in h p.0 i p.1

  -- ---- lengths

  length_is_natural_holds : (v : Term) → Holds (length_is_natural v)
  length_is_natural_holds v = by_if (is_val v) (instance schema.LengthIsNatural (v ∷ [])) (λ e. by_instance schema.LengthIsNatural (v ∷ []) (at_most_holds names zero_term (length_of v) (subst (λ (z : ℤ). pos 0 ≤ℤ z) (sym (length_means names v)) (length_natural (dat_of names v)))))

  length_of_copies_holds : (t : Term) → Holds (length_of_copies t)
  length_of_copies_holds t = by_bind (as_copies t) (λ c. instance schema.LengthOfCopies (t ∷ c.1 ∷ [])) (λ c is. by_instance schema.LengthOfCopies (t ∷ c.1 ∷ []) (
      implies_holds names (is_at_most zero_term c.1) (same_number (length_of t) c.1) (λ low. same_number_holds names (length_of t) c.1 (
      length_means names t ∙ ap length_in (copies_mean t c is) ∙ length-repeated (dat_of names c.0) (num_of names c.1) (at_most_says names zero_term c.1 low)))))

  length_of_updated_holds : (t : Term) → Holds (length_of_updated t)
  length_of_updated_holds t = by_bind (as_updated t) (λ u. instance schema.LengthOfUpdated (t ∷ u.0 ∷ [])) (λ u is. by_instance schema.LengthOfUpdated (t ∷ u.0 ∷ []) (
      same_number_holds names (length_of t) (length_of u.0) (
      length_means names t ∙ ap length_in (updated_means t u is) ∙ length-with_element (dat_of names u.0) (num_of names u.1) (dat_of names u.2) ∙ sym (length_means names u.0))))

  -- ---- elements

  -- two Int terms of which neither is below the other are equal
  same_index : (i j : Term) → tru_of names (is_below i j) ≡ false → tru_of names (is_below j i) ≡ false → num_of names i ≡ num_of names j
  same_index i j e f = at_once (num_of names i) (num_of names j) (not_below_says names j i f) (not_below_says names i j e)

  element_of_array_holds : (t k : Term) → Holds (element_of_array t k)
  element_of_array_holds t k =
      by_bind (as_element t) (λ g. as_number k >>= λ z. numbered_in g.0 z >>= λ v. instance schema.ElementOfArray (t ∷ g.1 ∷ k ∷ v ∷ [])) (λ g is.
      by_bind (as_number k) (λ z. numbered_in g.0 z >>= λ v. instance schema.ElementOfArray (t ∷ g.1 ∷ k ∷ v ∷ [])) (λ z is_z.
      by_bind (numbered_in g.0 z) (λ v. instance schema.ElementOfArray (t ∷ g.1 ∷ k ∷ v ∷ [])) (λ v is_v.
      by_instance schema.ElementOfArray (t ∷ g.1 ∷ k ∷ v ∷ []) (one_of_three_holds names (is_below g.1 k) (is_below k g.1) (is_equal t v) (λ e f.
      equal_holds names t v (element_is t g is ∙ ap (element (dat_of names g.0)) (same_index g.1 k e f ∙ number_is k z is_z) ∙ numbered_means g.0 z v is_v))))))

  element_of_copies_holds : (t : Term) → Holds (element_of_copies t)
  element_of_copies_holds t =
      by_bind (as_element t) (λ g. as_copies g.0 >>= λ c. instance schema.ElementOfCopies (t ∷ g.1 ∷ c.1 ∷ c.0 ∷ [])) (λ g is.
      by_bind (as_copies g.0) (λ c. instance schema.ElementOfCopies (t ∷ g.1 ∷ c.1 ∷ c.0 ∷ [])) (λ c is_c.
      by_instance schema.ElementOfCopies (t ∷ g.1 ∷ c.1 ∷ c.0 ∷ []) (implies_holds names (both (is_at_most zero_term g.1) (is_below g.1 c.1)) (is_equal t c.0) (λ told.
      let within = both_say names (is_at_most zero_term g.1) (is_below g.1 c.1) told in
      equal_holds names t c.0 (element_is t g is ∙ ap (λ (d : Datum). element d (num_of names g.1)) (copies_mean g.0 c is_c) ∙ element-repeated (dat_of names c.0) (num_of names c.1) (num_of names g.1) (at_most_says names zero_term g.1 within.0) (below_says names g.1 c.1 within.1))))))

  element_updated_holds : (t : Term) → Holds (element_updated t)
  element_updated_holds t =
      by_bind (as_element t) (λ g. as_updated g.0 >>= λ u. instance schema.ElementUpdated (t ∷ u.0 ∷ u.1 ∷ u.2 ∷ g.1 ∷ [])) (λ g is.
      by_bind (as_updated g.0) (λ u. instance schema.ElementUpdated (t ∷ u.0 ∷ u.1 ∷ u.2 ∷ g.1 ∷ [])) (λ u is_u.
      by_instance schema.ElementUpdated (t ∷ u.0 ∷ u.1 ∷ u.2 ∷ g.1 ∷ []) (implies_holds names (all_four (is_at_most u.1 g.1) (is_at_most g.1 u.1) (is_at_most zero_term u.1) (is_below u.1 (length_of u.0))) (is_equal t u.2) (λ told.
      let within = four_say names (is_at_most u.1 g.1) (is_at_most g.1 u.1) (is_at_most zero_term u.1) (is_below u.1 (length_of u.0)) told in
      let same : num_of names g.1 ≡ num_of names u.1 = at_once (num_of names g.1) (num_of names u.1) (at_most_says names g.1 u.1 within.1) (at_most_says names u.1 g.1 within.0) in
      let high : num_of names u.1 <ℤ length_in (dat_of names u.0) = subst (λ (z : ℤ). num_of names u.1 <ℤ z) (length_means names u.0) (below_says names u.1 (length_of u.0) within.3) in
      equal_holds names t u.2 (element_is t g is ∙ ap (element (dat_of names g.0)) same ∙ ap (λ (d : Datum). element d (num_of names u.1)) (updated_means g.0 u is_u) ∙ element-with_element (dat_of names u.0) (num_of names u.1) (dat_of names u.2) (at_most_says names zero_term u.1 within.2) high)))))

  element_elsewhere_holds : (t : Term) → Holds (element_elsewhere t)
  element_elsewhere_holds t =
      by_bind (as_element t) (λ g. as_updated g.0 >>= λ u. instance schema.ElementElsewhere (t ∷ u.0 ∷ u.1 ∷ g.1 ∷ [])) (λ g is.
      by_bind (as_updated g.0) (λ u. instance schema.ElementElsewhere (t ∷ u.0 ∷ u.1 ∷ g.1 ∷ [])) (λ u is_u.
      by_instance schema.ElementElsewhere (t ∷ u.0 ∷ u.1 ∷ g.1 ∷ []) (implies_holds names (either (is_below u.1 g.1) (is_below g.1 u.1)) (is_equal t (made_two term.get u.0 g.1)) (λ told.
      let apart : num_of names u.1 ≡ num_of names g.1 → ⊥ = λ same. either_says names (is_below u.1 g.1) (is_below g.1 u.1) ⊥ told (λ e. below_apart (num_of names u.1) (num_of names g.1) (below_says names u.1 g.1 e) same) (λ e. above_apart (num_of names u.1) (num_of names g.1) (below_says names g.1 u.1 e) same) in
      equal_holds names t (made_two term.get u.0 g.1) (element_is t g is ∙ ap (λ (d : Datum). element d (num_of names g.1)) (updated_means g.0 u is_u) ∙ element-elsewhere (dat_of names u.0) (num_of names u.1) (num_of names g.1) (dat_of names u.2) apart ∙ sym (element_means names u.0 g.1))))))

  elements_at_one_index_hold : (s t : Term) → Holds (elements_at_one_index s t)
  elements_at_one_index_hold s t =
      by_bind (as_element s) (λ g. as_element t >>= λ h. only_if (same_term g.0 h.0) (instance schema.ElementsAtOneIndex (s ∷ t ∷ g.1 ∷ h.1 ∷ []))) (λ g is_g.
      by_bind (as_element t) (λ h. only_if (same_term g.0 h.0) (instance schema.ElementsAtOneIndex (s ∷ t ∷ g.1 ∷ h.1 ∷ []))) (λ h is_h.
      by_if (same_term g.0 h.0) (instance schema.ElementsAtOneIndex (s ∷ t ∷ g.1 ∷ h.1 ∷ [])) (λ same.
      by_instance schema.ElementsAtOneIndex (s ∷ t ∷ g.1 ∷ h.1 ∷ []) (one_of_three_holds names (is_below g.1 h.1) (is_below h.1 g.1) (is_equal s t) (λ e f.
      equal_holds names s t (element_is s g is_g ∙ ap (element (dat_of names g.0)) (same_index g.1 h.1 e f) ∙ ap (λ (a : Term). element (dat_of names a) (num_of names h.1)) (terms_are g.0 h.0 same) ∙ sym (element_is t h is_h)))))))

  -- ---- fields

  field_updated_holds : (t : Term) → Holds (field_updated t)
  field_updated_holds t = by_bind (set_to t) (λ w. instance schema.FieldUpdated (t ∷ w ∷ [])) (λ w is. by_instance schema.FieldUpdated (t ∷ w ∷ []) (equal_holds names t w (set_means t w is)))
    where
      same_field : (r : Datum) (f g : List ℕ) (w : Datum) → bytes_eq f g ≡ true → field_in (with_field r f w) g ≡ w
      same_field r f g w e = ap (field_in (with_field r f w)) (sym ((bytes_eq-Decides f g).0 e)) ∙ field_in-set r f w

      set_means : (t w : Term) → set_to t ≡ Some w → dat_of names t ≡ dat_of names w
      set_means t w e =
          let g = bind_some (as_field t) (λ g. as_field_updated g.0 >>= λ u. only_if (bytes_eq u.1 g.1) (Some u.2)) w e in
          let u = bind_some (as_field_updated g.0.0) (λ u. only_if (bytes_eq u.1 g.0.1) (Some u.2)) w g.2 in
          let p = if_only (bytes_eq u.0.1 g.0.1) (Some u.0.2) w u.2 in
          field_is t g.0 g.1 ∙ ap (λ (d : Datum). field_in d g.0.1) (field_updated_means g.0.0 u.0 u.1) ∙ same_field (dat_of names u.0.0) u.0.1 g.0.1 (dat_of names u.0.2) p.0 ∙ ap (dat_of names) (some_is u.0.2 w p.1)

  field_elsewhere_holds : (t : Term) → Holds (field_elsewhere t)
  field_elsewhere_holds t = by_bind (field_before t) (λ u. instance schema.FieldElsewhere (t ∷ folded u ∷ [])) (λ v is. by_instance schema.FieldElsewhere (t ∷ folded v ∷ []) (equal_holds names t (folded v) (before_means t v is)))
    where
      untrue : (b : Bool) → not b ≡ true → b ≡ false
      untrue true e = absurd cc
      untrue false e = refl

      before_means : (t v : Term) → field_before t ≡ Some v → dat_of names t ≡ dat_of names (folded v)
      before_means t v e =
          let g = bind_some (as_field t) (λ g. as_field_updated g.0 >>= λ u. only_if (not (bytes_eq u.1 g.1)) (Some (one (term.field g.1) u.0))) v e in
          let u = bind_some (as_field_updated g.0.0) (λ u. only_if (not (bytes_eq u.1 g.0.1)) (Some (one (term.field g.0.1) u.0))) v g.2 in
          let p = if_only (not (bytes_eq u.0.1 g.0.1)) (Some (one (term.field g.0.1) u.0.0)) v u.2 in
          field_is t g.0 g.1 ∙ ap (λ (d : Datum). field_in d g.0.1) (field_updated_means g.0.0 u.0 u.1) ∙ field_in-other (dat_of names u.0.0) u.0.1 g.0.1 (dat_of names u.0.2) (untrue (bytes_eq u.0.1 g.0.1) p.0)
          ∙ sym (folding_keeps_meaning (one (term.field g.0.1) u.0.0) names tt) ∙ ap (λ (x : Term). dat_of names (folded x)) (some_is (one (term.field g.0.1) u.0.0) v p.1)

  -- ---- numbers and kinds

  equal_numbers_hold : (t : Term) → Holds (equal_numbers t)
  equal_numbers_hold t = by_bind (as_equation t) (λ s. instance schema.EqualNumbers (t ∷ s.0 ∷ s.1 ∷ [])) (λ s is. by_instance schema.EqualNumbers (t ∷ s.0 ∷ s.1 ∷ []) (
      implies_holds names t (same_number (schemas.number_in s.0) (schemas.number_in s.1)) (λ told. same_number_holds names (schemas.number_in s.0) (schemas.number_in s.1) (
      number_means names s.0 ∙ number_same (dat_of names s.0) (dat_of names s.1) (sym (equation_means t s is) ∙ told) ∙ sym (number_means names s.1)))))

  kind_of_updated_holds : (t : Term) → Holds (kind_of_updated t)
  kind_of_updated_holds t = by_bind (kind_before_update t) (λ l. instance schema.KindOfUpdated (t ∷ folded l ∷ [])) (λ l is. by_instance schema.KindOfUpdated (t ∷ folded l ∷ []) (
      both_hold names (implies t (folded l)) (implies (folded l) t) (implies_holds names t (folded l) (λ told. sym (same_truth t l is) ∙ told)) (implies_holds names (folded l) t (λ told. same_truth t l is ∙ told))))
    where
      same_truth : (t l : Term) → kind_before_update t ≡ Some l → tru_of names t ≡ tru_of names (folded l)
      same_truth t l e =
          let k = bind_some (as_kind_test t) (λ k. as_updated k.0 >>= λ u. Some (one (term.of_kind k.1) u.0)) l e in
          let u = bind_some (as_updated k.0.0) (λ u. Some (one (term.of_kind k.0.1) u.0)) l k.2 in
          kind_test_means t k.0 k.1 ∙ ap (is_of_kind k.0.1) (updated_means k.0.0 u.0 u.1) ∙ kind-with_element k.0.1 (dat_of names u.0.0) (num_of names u.0.1) (dat_of names u.0.2)
          ∙ sym (folding_keeps_meaning (one (term.of_kind k.0.1) u.0.0) names tt) ∙ ap (λ (x : Term). tru_of names (folded x)) (some_is (one (term.of_kind k.0.1) u.0.0) l u.2)

  kind_of_field_updated_holds : (t : Term) → Holds (kind_of_field_updated t)
  kind_of_field_updated_holds t = by_bind (kind_before_set t) (λ l. instance schema.KindOfFieldUpdated (t ∷ folded l ∷ [])) (λ l is. by_instance schema.KindOfFieldUpdated (t ∷ folded l ∷ []) (
      implies_holds names (folded l) t (λ told. kept_truth t l is told)))
    where
      kept_truth : (t l : Term) → kind_before_set t ≡ Some l → tru_of names (folded l) ≡ true → tru_of names t ≡ true
      kept_truth t l e told =
          let k = bind_some (as_kind_test t) (λ k. as_field_updated k.0 >>= λ u. only_if (has_field k.1 u.1) (Some (one (term.of_kind k.1) u.0))) l e in
          let u = bind_some (as_field_updated k.0.0) (λ u. only_if (has_field k.0.1 u.1) (Some (one (term.of_kind k.0.1) u.0))) l k.2 in
          let p = if_only (has_field k.0.1 u.0.1) (Some (one (term.of_kind k.0.1) u.0.0)) l u.2 in
          let before : is_of_kind k.0.1 (dat_of names u.0.0) ≡ true = sym (folding_keeps_meaning (one (term.of_kind k.0.1) u.0.0) names tt) ∙ ap (λ (x : Term). tru_of names (folded x)) (some_is (one (term.of_kind k.0.1) u.0.0) l p.1) ∙ told in
          kind_test_means t k.0 k.1 ∙ ap (is_of_kind k.0.1) (field_updated_means k.0.0 u.0 u.1) ∙ kind-with_field k.0.1 (dat_of names u.0.0) u.0.1 (dat_of names u.0.2) p.0 before

  -- ---- data by their kinds

  by_kind : (v : Term) → tru_of names (stated schema.DatumByKind (v ∷ [])) ≡ true
  by_kind v = three_hold names (implies (made_one (term.of_kind null_kind) v) (is_equal v (leaf term.null)))
      (implies (made_one (term.of_kind bool_kind) v) (either (is_equal v (leaf (term.truth true))) (is_equal v (leaf (term.truth false)))))
      (implies (made_one (term.of_kind int_kind) v) (is_equal v (whole (schemas.number_in v))))
      (implies_holds names (made_one (term.of_kind null_kind) v) (is_equal v (leaf term.null)) (λ told. equal_holds names v (leaf term.null) (is_null (dat_of names v) (sym (kind_means names null_kind v) ∙ told))))
      (implies_holds names (made_one (term.of_kind bool_kind) v) (either (is_equal v (leaf (term.truth true))) (is_equal v (leaf (term.truth false)))) (λ told. truths (is_bool (dat_of names v) (sym (kind_means names bool_kind v) ∙ told))))
      (implies_holds names (made_one (term.of_kind int_kind) v) (is_equal v (whole (schemas.number_in v))) (λ told. equal_holds names v (whole (schemas.number_in v)) (is_int (dat_of names v) (sym (kind_means names int_kind v) ∙ told) ∙ ap (λ (z : ℤ). Whole z) (sym (number_means names v)) ∙ sym (folding_keeps_meaning (one term.int (schemas.number_in v)) names tt))))
    where
      truths : (dat_of names v ≡ Truth true) ⊎ (dat_of names v ≡ Truth false) → tru_of names (either (is_equal v (leaf (term.truth true))) (is_equal v (leaf (term.truth false)))) ≡ true
      truths (inl e) = either_first names (is_equal v (leaf (term.truth true))) (is_equal v (leaf (term.truth false))) (equal_holds names v (leaf (term.truth true)) e)
      truths (inr e) = either_second names (is_equal v (leaf (term.truth true))) (is_equal v (leaf (term.truth false))) (equal_holds names v (leaf (term.truth false)) e)

  by_formula : (v f : Term) → dat_of names v ≡ Truth (tru_of names f) → tru_of names (stated schema.DatumOfFormula (v ∷ f ∷ [])) ≡ true
  by_formula v f is = cases (tru_of names f) refl
    where
      cases : (b : Bool) → tru_of names f ≡ b → tru_of names (stated schema.DatumOfFormula (v ∷ f ∷ [])) ≡ true
      cases true e = either_first names (both f (is_equal v (leaf (term.truth true)))) (both (denial f) (is_equal v (leaf (term.truth false)))) (both_hold names f (is_equal v (leaf (term.truth true))) e (equal_holds names v (leaf (term.truth true)) (is ∙ ap (λ (b : Bool). Truth b) e)))
      cases false e = either_second names (both f (is_equal v (leaf (term.truth true)))) (both (denial f) (is_equal v (leaf (term.truth false)))) (both_hold names (denial f) (is_equal v (leaf (term.truth false))) (denial_holds names f e) (equal_holds names v (leaf (term.truth false)) (is ∙ ap (λ (b : Bool). Truth b) e)))

  datum_by_kind_holds : (v : Term) → Holds (datum_by_kind v)
  datum_by_kind_holds v = by (as_bool v) refl
    where
      by : (o : Option Term) → as_bool v ≡ o → Holds (datum_by v o)
      by None e = by_if (is_val v) (instance schema.DatumByKind (v ∷ [])) (λ h. by_instance schema.DatumByKind (v ∷ []) (by_kind v))
      by (Some f) e = by_instance schema.DatumOfFormula (v ∷ f ∷ []) (by_formula v f (formula_is v f e))

  -- ---- quotients

  division_holds : (t : Term) → Holds (division t)
  division_holds t = by_bind (as_division t) (λ d. instance schema.Division (d.0 ∷ d.1 ∷ made_two term.div d.0 d.1 ∷ made_two term.rem d.0 d.1 ∷ [])) (λ d is. by_instance schema.Division (d.0 ∷ d.1 ∷ made_two term.div d.0 d.1 ∷ made_two term.rem d.0 d.1 ∷ []) (of_terms d.0 d.1))
    where
      whole_again : (a b q r s p : ℤ) → p ≡ b *ℤ q → s ≡ p +ℤ r → r ≡ a -ℤ b *ℤ q → a ≡ s
      whole_again a b q r s p e f g = omega (arith, ints, e, f, g)

      of_terms : (a b : Term) → tru_of names (stated schema.Division (a ∷ b ∷ made_two term.div a b ∷ made_two term.rem a b ∷ [])) ≡ true
      of_terms a b =
          let q = made_two term.div a b in
          let r = made_two term.rem a b in
          let q_is : num_of names q ≡ quotient (num_of names a) (num_of names b) = folding_keeps_meaning (two term.div a b) names tt in
          let r_is : num_of names r ≡ remainder (num_of names a) (num_of names b) = folding_keeps_meaning (two term.rem a b) names tt in
          let p_is : num_of names (made_two term.mul b q) ≡ num_of names b *ℤ num_of names q = folding_keeps_meaning (two term.mul b q) names tt in
          let s_is : num_of names (made_two term.add (made_two term.mul b q) r) ≡ num_of names (made_two term.mul b q) +ℤ num_of names r = folding_keeps_meaning (two term.add (made_two term.mul b q) r) names tt in
          let n_is : num_of names (made_one term.neg b) ≡ neg_ℤ (num_of names b) = folding_keeps_meaning (one term.neg b) names tt in
          let same : num_of names r ≡ num_of names a -ℤ num_of names b *ℤ num_of names q = r_is ∙ ap (λ (z : ℤ). num_of names a -ℤ num_of names b *ℤ z) (sym q_is) in
          either_holds names (same_number b zero_term) (all_four (same_number a (made_two term.add (made_two term.mul b q) r)) (is_at_most zero_term r) (either (is_at_most b zero_term) (is_below r b)) (either (is_at_most zero_term b) (is_below r (made_one term.neg b)))) (λ not_zero.
          let d = divides (num_of names a) (num_of names b) (λ zero_is. not_both (tru_of names (same_number b zero_term)) (same_number_holds names b zero_term zero_is) not_zero) in
          four_hold names (same_number a (made_two term.add (made_two term.mul b q) r)) (is_at_most zero_term r) (either (is_at_most b zero_term) (is_below r b)) (either (is_at_most zero_term b) (is_below r (made_one term.neg b)))
          (same_number_holds names a (made_two term.add (made_two term.mul b q) r) (whole_again (num_of names a) (num_of names b) (num_of names q) (num_of names r) (num_of names (made_two term.add (made_two term.mul b q) r)) (num_of names (made_two term.mul b q)) p_is s_is same))
          (at_most_holds names zero_term r (subst (λ (z : ℤ). pos 0 ≤ℤ z) (sym r_is) d.natural))
          (either_holds names (is_at_most b zero_term) (is_below r b) (λ no_most. below_holds names r b (subst (λ (z : ℤ). z <ℤ num_of names b) (sym r_is) (d.below (not_at_most_says names b zero_term no_most)))))
          (either_holds names (is_at_most zero_term b) (is_below r (made_one term.neg b)) (λ no_most. below_holds names r (made_one term.neg b) (subst (λ (z : ℤ). z <ℤ num_of names (made_one term.neg b)) (sym r_is) (subst (λ (z : ℤ). remainder (num_of names a) (num_of names b) <ℤ z) (sym n_is) (d.above (not_at_most_says names zero_term b no_most)))))))

  -- ---- all schemas

  choose : (b : Bool) (o p : Option Instance) → Holds o → Holds p → Holds (cond b o p)
  choose true o p h k = h
  choose false o p h k = k

  none_holds : Holds None
  none_holds i e = absurd cc

  plain_by_one_holds : (n : ℕ) (t : Term) → Holds (plain_by_one n t)
  plain_by_one_holds n t =
      choose (eqb n 1) _ _ (length_is_natural_holds t) (choose (eqb n 2) _ _ (length_of_copies_holds t) (choose (eqb n 3) _ _ (length_of_updated_holds t) (choose (eqb n 5) _ _ (element_of_copies_holds t) (choose (eqb n 6) _ _ (element_updated_holds t) (
      choose (eqb n 7) _ _ (element_elsewhere_holds t) (choose (eqb n 9) _ _ (field_updated_holds t) (choose (eqb n 11) _ _ (equal_numbers_hold t) (choose (eqb n 14) _ _ (datum_by_kind_holds t) none_holds))))))))

  by_one_holds : (n : ℕ) (t : Term) → Holds (by_one n t)
  by_one_holds n t =
      choose (eqb n 10) _ _ (field_elsewhere_holds t) (choose (eqb n 12) _ _ (kind_of_updated_holds t) (choose (eqb n 13) _ _ (kind_of_field_updated_holds t) (choose (eqb n 15) _ _ (division_holds t) (plain_by_one_holds n t))))

  by_two_holds : (n : ℕ) (s t : Term) → Holds (by_two n s t)
  by_two_holds n s t = choose (eqb n 4) _ _ (element_of_array_holds s t) (choose (eqb n 8) _ _ (elements_at_one_index_hold s t) none_holds)

  instance_of_holds : (n : ℕ) (args : List Term) → Holds (instance_of n args)
  instance_of_holds n [] = none_holds
  instance_of_holds n (t ∷ []) = by_one_holds n t
  instance_of_holds n (s ∷ t ∷ []) = by_two_holds n s t
  instance_of_holds n (s ∷ t ∷ u ∷ ts) = none_holds

pub facts_are_true : FactsAreTrue
facts_are_true n args f e names =
    let i = bind_some (instance_of n args) (λ i. Some (stated i.schema i.parts)) f e in
    subst (λ (g : Term). tru_of names g ≡ true) (some_is (stated i.0.schema i.0.parts) f i.2) (instance_of_holds names n args i.0 i.1)

-- the same of what a call answered
pub fact_holds : (n : ℕ) (args : List Term) (f : Term) → some f ≡ fact_of n args → AlwaysHolds f
fact_holds n args f e = facts_are_true n args f (sym e)
