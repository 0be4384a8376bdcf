-- The bound that a cut states has the form that division leaves of its sum, its parts in the same order.
use Rattle.std.proofs.Common.{◌≡◌, ◌*◌, ◌+◌, ◌/◌, ◌%◌, ◌<◌, ◌&&◌, ◌∙◌, ℕ, zero, suc, List, [], ◌∷◌, ◌++◌, All, map, Bool, true, false, cond, eqb, ℤ, pos, negsuc, neg_ℤ, ◌+ℤ◌, ◌-ℤ◌, ◌*ℤ◌, Option, Some, None, refl, sym, ap, subst, arith, append_assoc}
use Rattle.std.specs.Prelude.{unsigned_abs, nat_lt, ◌==◌}
use Rattle.std.specs.Ordering.{int_eq}
use Rattle.std.proofs.lemmas.Bool.{eqb-true}
use Rattle.std.proofs.lemmas.Bool.Decides.{Decides-int_eq}
use Rattle.std.proofs.lemmas.Int.{ints}
use Rattle.std.proofs.Math.IntN.{*ℤ-zero, *ℤ_comm}
use Rattle.std.proofs.Math.Nat.{div-add-mod, zero-div}
use Rattle.wy_search_bounds.proofs.wy_lin_eliminate_proofs.ValidityLemmas.{form_with}
use Rattle.wy_search_bounds.proofs.wy_facts_proofs.QuotientLemmas.{times_opposite}
use Rattle.wy_search_bounds.specs.wy_facts.Schema.{only_if, zero_term}
use Rattle.wy_lemmas.proofs.Choices.{both_parts as both_of, both_true as still}
use Rattle.wy_lemmas.proofs.Numbers.{zero_and, one_times, none_first, alone_from as alone}
use Rattle.wy_search_bounds.proofs.wy_lin_proofs.SharedLemmas.{some_form}
use Rattle.wy_search_laws.proofs.sound_lemmas.FormLemmas.{same_quotient, times_of}
use Rattle.wy_search_bounds.specs.wy_term.Term as term
use Rattle.wy_search_bounds.specs.wy_term.Term.{Term, Of, no_parts, part, two, Number, add, mul, at_most}
use Rattle.wy_search_bounds.specs.wy_term.Data.{quotient_down}
use Rattle.wy_search_bounds.specs.wy_term.Same.{same_term}
use Rattle.wy_search_bounds.specs.wy_term.Rewriting.{fits, fitted, as_number, on_two, number_or}
use Rattle.wy_search_bounds.specs.wy_lin.declared.arithmetic.Factor.{Factor}
use Rattle.wy_search_bounds.specs.wy_lin.declared.arithmetic.Factor.TheVariants.{Times, Scale, Minus}
use Rattle.wy_search_bounds.specs.wy_lin.Linear.{◌>>=◌, more, Linear, nothing, number_form, variable_form, plus_part, plus_parts, plus}
use Rattle.wy_search_bounds.specs.wy_lin.TermForm.{with, multiple, form_of_product, form_of, difference, form_of_literal}
use Rattle.wy_search_bounds.specs.wy_lin.Seen.{IsOver, seen, seen_part}
use Rattle.wy_search_bounds.proofs.wy_lin_proofs.OptionLemmas.{bind_some}
use Rattle.wy_search_bounds.proofs.wy_lin_proofs.SeenLemmas.{NamesOnce, plus-seen, all_none, all_more}
use Rattle.wy_search_bounds.specs.wy_facts.Made.{made_two, is_at_most}
use Rattle.wy_search_bounds.specs.wy_lin_eliminate.Division.{quotient, lowered}
use Rattle.wy_search_bounds.specs.wy_lin_eliminate.Validity.{divides, is_bare}
use Rattle.wy_search_bounds.proofs.QuotientLemmas.{quotient_more}
use Rattle.wy_search_bounds.specs.wy_check_spec.valid.Sums as sums
use Rattle.wy_search_bounds.specs.wy_check_spec.valid.Sums.{divided, added_up, total_of, cut_bound, cut_of}
use Rattle.wy_search_laws.proofs.sums_lemmas.TidyLemmas.{AreTidy, IsTidy, AllAbsent, all_absent_more, more_once, nothing_tidy, fits_fitted, none_absent, parts_put_last, tidy_plain, quotients, lowered_is, tidy_lowered, tidy_quotients, quotient_fits, none_left}

-- ---- terms that are variables of forms

-- the term is its own form, and no number
pub record IsVariable (t : Term) : Type 0 where
  pub form : form_of t ≡ Some (variable_form t)
  pub free : as_number t ≡ None

abbrev some_terms : List (ℤ × Term) → Option (List (ℤ × Term))
some_terms ps = Some ps

times_one : (c : ℤ) → c *ℤ pos 1 ≡ c
times_one c = *ℤ_comm c (pos 1) ∙ one_times c

times_none : (c : ℤ) → c *ℤ pos 0 ≡ pos 0
times_none c = *ℤ-zero c

less_none : (z : ℤ) → z -ℤ pos 0 ≡ z
less_none z = omega (arith, ints)

scaled_one : (c : ℤ) → fits c ≡ true → more (pos 0) (Scale c) (pos 1) ≡ Some c
scaled_one c e =
    ap (λ (z : ℤ). fitted z >>= λ d. fitted (pos 0 +ℤ d)) (times_one c)
    ∙ (ap (λ (o : Option ℤ). o >>= λ d. fitted (pos 0 +ℤ d)) (fits_fitted c e)
    ∙ (ap fitted (zero_and c) ∙ fits_fitted c e))

scaled_none : (c : ℤ) → more (pos 0) (Scale c) (pos 0) ≡ Some (pos 0)
scaled_none c = ap (λ (z : ℤ). fitted z >>= λ d. fitted (pos 0 +ℤ d)) (times_none c)

pub minus_none : (c : ℤ) → fits c ≡ true → more c Minus (pos 0) ≡ Some c
minus_none c e = ap fitted (less_none c) ∙ fits_fitted c e

-- a multiple of a variable
pub scaled_variable : (c : ℤ) (t : Term) → fits c ≡ true → multiple (Scale c) (variable_form t) ≡ Some (record { parts = (c, t) ∷ []; constant = pos 0 })
scaled_variable c t e =
    ap (λ (o : Option ℤ). ((o >>= λ (d : ℤ). some_terms ((d, t) ∷ [])) >>= λ (rs : List (ℤ × Term)). some_terms rs) >>= λ (ps : List (ℤ × Term)). more (pos 0) (Scale c) (pos 0) >>= λ (k : ℤ). some_form (record { parts = ps; constant = k })) (scaled_one c e)
    ∙ ap (λ (o : Option ℤ). o >>= λ (k : ℤ). some_form (record { parts = (c, t) ∷ []; constant = k })) (scaled_none c)

-- ---- division of coefficients

-- a number that is divided without a rest is the divisor's multiple of the quotient
divided_whole : (d : ℕ) (c : ℤ) → 0 < d → unsigned_abs c % d ≡ 0 → pos d *ℤ quotient_down c d ≡ c
divided_whole d c lt e =
    let t = times_of d c e in
    let first : quotient_down (pos 0) d ≡ pos 0 = ap (λ (k : ℕ). pos k) (zero-div d) in
    let q : quotient_down c d ≡ t.rest = alone (quotient_down c d) t.rest (ap (λ (z : ℤ). quotient_down z d) (t.is ∙ none_first (pos d *ℤ t.rest)) ∙ (quotient_more (pos 0) t.rest d lt ∙ ap (λ (z : ℤ). z +ℤ t.rest) first)) in
    ap (λ (z : ℤ). pos d *ℤ z) q ∙ sym t.is

int_eq_of : (a b : ℤ) → a ≡ b → int_eq a b ≡ true
int_eq_of a b e = (Decides-int_eq a b).1 e

-- ---- the parts of a cut

module _ (at : ℕ → Term) (n : ℕ) (once : NamesOnce at n) where
  -- a number of a term that is a variable
  pub record IsGood (k : ℕ) : Type 0 where
    pub below : k < n
    pub variable : IsVariable (at k)

  abbrev pub AreGood : List (ℤ × ℕ) → Type 0
  AreGood [] = Unit {0}
  AreGood (p ∷ ps) = IsGood p.1 × AreGood ps

  pub good_over : (ps : List (ℤ × ℕ)) → AreGood ps → All (λ (p : ℤ × ℕ). p.1 < n) ps
  good_over [] h = all_none (λ (p : ℤ × ℕ). p.1 < n)
  good_over (p ∷ ps) h = all_more (λ (p : ℤ × ℕ). p.1 < n) p ps h.0.below (good_over ps h.1)

  good_both : (ps qs : List (ℤ × ℕ)) → AreGood ps → AreGood qs → AreGood (ps ++ qs)
  good_both [] qs h g = g
  good_both (p ∷ ps) qs h g = (h.0, good_both ps qs h.1 g)

  pub good_quotients : (d : ℕ) (ps : List (ℤ × ℕ)) → AreGood ps → AreGood (quotients d ps)
  good_quotients d [] h = tt
  good_quotients d (p ∷ ps) h = by (int_eq p.0 (pos 0)) (good_quotients d ps h.1)
    where
      by : (b : Bool) → AreGood (quotients d ps) → AreGood (cond b (quotients d ps) ((quotient d p.0, p.1) ∷ quotients d ps))
      by true rest = rest
      by false rest = (h.0, rest)

  pub good_lowered : (d : ℕ) (f : Linear ℕ) → AreGood f.parts → AreGood (lowered d f).parts
  good_lowered d f h = subst (λ (g : Linear ℕ). AreGood g.parts) (sym (lowered_is d f)) (good_quotients d f.parts h)

  -- ---- products

  abbrev product_of : ℤ × ℕ → Term
  product_of q = two mul (Number q.0) (at q.1)

  abbrev products : List (ℤ × ℕ) → List Term
  products [] = []
  products (q ∷ qs) = product_of q ∷ products qs

  product_made : (c : ℤ) (v : ℕ) → IsVariable (at v) → made_two mul (Number c) (at v) ≡ product_of (c, v)
  product_made c v h = ap (λ (o : Option ℤ). number_or (two mul (Number c) (at v)) (on_two (λ a b. a *ℤ b) (Some c) o)) h.free

  product_form : (c : ℤ) (v : ℕ) → fits c ≡ true → IsVariable (at v) → form_of (product_of (c, v)) ≡ Some (seen at (form_with ((c, v) ∷ []) (pos 0)))
  product_form c v e h =
      ap (λ (o : Option (Linear Term)). form_of_product (product_of (c, v)) (Some c) (as_number (at v)) (form_of (Number c)) o) h.form
      ∙ scaled_variable c (at v) e

  divided_seen : (d : ℕ) (ps : List (ℤ × ℕ)) → AreGood ps → divided d (map (seen_part at) ps) ≡ products (quotients d ps)
  divided_seen d [] h = refl
  divided_seen d (p ∷ ps) h =
      ap (λ (ts : List Term). cond (int_eq p.0 (pos 0)) (divided d (map (seen_part at) ps)) (made_two mul (Number (quotient_down p.0 d)) (at p.1) ∷ ts)) (divided_seen d ps h.1)
      ∙ (ap (λ (ts : List Term). cond (int_eq p.0 (pos 0)) ts (made_two mul (Number (quotient_down p.0 d)) (at p.1) ∷ products (quotients d ps))) (divided_seen d ps h.1)
      ∙ (ap (λ (t : Term). cond (int_eq p.0 (pos 0)) (products (quotients d ps)) (t ∷ products (quotients d ps))) made
      ∙ by (int_eq p.0 (pos 0))))
    where
      made : made_two mul (Number (quotient_down p.0 d)) (at p.1) ≡ product_of (quotient d p.0, p.1)
      made = ap (λ (c : ℤ). made_two mul (Number c) (at p.1)) (sym (same_quotient d p.0)) ∙ product_made (quotient d p.0) p.1 h.0.variable

      by : (b : Bool) → cond b (products (quotients d ps)) (product_of (quotient d p.0, p.1) ∷ products (quotients d ps)) ≡ products (cond b (quotients d ps) ((quotient d p.0, p.1) ∷ quotients d ps))
      by true = refl
      by false = refl

  -- ---- sums of products

  -- a term that is no number has this form
  record Sums (s : Term) (ps : List (ℤ × ℕ)) : Type 0 where
    form : form_of s ≡ Some (seen at (form_with ps (pos 0)))
    free : as_number s ≡ None

  sum_made : (s t : Term) → as_number s ≡ None → made_two add s t ≡ two add s t
  sum_made s t e = ap (λ (o : Option ℤ). number_or (two add s t) (on_two (λ a b. a +ℤ b) o (as_number t))) e

  one_put : (ps : List (ℤ × ℕ)) (q : ℤ × ℕ) → AreGood ps → AreGood (q ∷ []) → AllAbsent ps (q ∷ []) → fits q.0 ≡ true → with (seen at (form_with ps (pos 0))) (Times 1) (seen at (form_with (q ∷ []) (pos 0))) ≡ Some (seen at (form_with (ps ++ q ∷ []) (pos 0)))
  one_put ps q g k absent e =
      plus-seen at n once (form_with ps (pos 0)) (Times 1) (form_with (q ∷ []) (pos 0)) (good_over ps g) (good_over (q ∷ []) k)
      ∙ ap (λ (o : Option (List (ℤ × ℕ))). (o >>= λ (rs : List (ℤ × ℕ)). more (pos 0) (Times 1) (pos 0) >>= λ (c : ℤ). Some (form_with rs c)) >>= λ (h : Linear ℕ). Some (seen at h)) (parts_put_last ps (q ∷ []) (e, tt, tt) absent)

  sum_more : (s : Term) (ps : List (ℤ × ℕ)) (q : ℤ × ℕ) → Sums s ps → AreGood ps → IsGood q.1 → AllAbsent ps (q ∷ []) → fits q.0 ≡ true → Sums (made_two add s (product_of q)) (ps ++ q ∷ [])
  sum_more s ps q h g k absent e =
      subst (λ (t : Term). Sums t (ps ++ q ∷ [])) (sym (sum_made s (product_of q) h.free)) (record {
        form =
            ap (λ (o : Option (Linear Term)). o >>= λ (f : Linear Term). form_of (product_of q) >>= λ (g : Linear Term). with f (Times 1) g) h.form
            ∙ (ap (λ (o : Option (Linear Term)). o >>= λ (g : Linear Term). with (seen at (form_with ps (pos 0))) (Times 1) g) (product_form q.0 q.1 e k.variable)
            ∙ one_put ps q g (k, tt) absent e);
        free = refl;
      })

  sum_all : (s : Term) (ps qs : List (ℤ × ℕ)) → Sums s ps → AreGood ps → AreGood qs → AreTidy eqb qs → AllAbsent ps qs → Sums (added_up s (products qs)) (ps ++ qs)
  sum_all s ps [] h g k tidy absent = subst (λ (rs : List (ℤ × ℕ)). Sums s rs) (sym (nothing_behind ps)) h
    where
      nothing_behind : (rs : List (ℤ × ℕ)) → rs ++ [] ≡ rs
      nothing_behind [] = refl
      nothing_behind (r ∷ rs) = ap (λ (l : List (ℤ × ℕ)). r ∷ l) (nothing_behind rs)
  sum_all s ps (q ∷ qs) h g k tidy absent =
      subst (λ (rs : List (ℤ × ℕ)). Sums (added_up (made_two add s (product_of q)) (products qs)) rs) (append_assoc ps (q ∷ []) qs)
      (sum_all (made_two add s (product_of q)) (ps ++ q ∷ []) qs
      (sum_more s ps q h g k.0 (absent.0, tt) tidy.0)
      (good_both ps (q ∷ []) g (k.0, tt)) k.1 tidy.2 (all_absent_more ps q qs absent.1 tidy.1))

  -- ---- a sum of products and a number

  record Totals (t : Term) (ps : List (ℤ × ℕ)) (z : ℤ) : Type 0 where
    sum : Term
    is : t ≡ two add sum (Number z)
    form : form_of (two add sum (Number z)) ≡ Some (seen at (form_with ps z))

  total_form : (q : ℤ × ℕ) (qs : List (ℤ × ℕ)) (z : ℤ) → AreGood (q ∷ qs) → AreTidy eqb (q ∷ qs) → fits z ≡ true → Totals (total_of (products (q ∷ qs)) z) (q ∷ qs) z
  total_form q qs z good tidy e =
      let first : Sums (product_of q) (q ∷ []) = record { form = product_form q.0 q.1 tidy.0 good.0.variable; free = refl } in
      let all : Sums (added_up (product_of q) (products qs)) (q ∷ qs) = sum_all (product_of q) (q ∷ []) qs first (good.0, tt) good.1 tidy.2 (all_absent_more [] q qs (none_absent qs) tidy.1) in
      record {
        sum = added_up (product_of q) (products qs);
        is = sum_made (added_up (product_of q) (products qs)) (Number z) all.free;
        form =
            ap (λ (o : Option (Linear Term)). o >>= λ (f : Linear Term). form_of (Number z) >>= λ (g : Linear Term). with f (Times 1) g) all.form
            ∙ ap (λ (o : Option ℤ). o >>= λ (c : ℤ). some_form (record { parts = map (seen_part at) (q ∷ qs); constant = c })) (more_once z e);
      }

  -- ---- the difference to nothing

  nothing_over : All (λ (p : ℤ × ℕ). p.1 < n) []
  nothing_over = all_none (λ (p : ℤ × ℕ). p.1 < n)

  difference_none : (h : Linear ℕ) → IsTidy h → AreGood h.parts → difference (number_form (pos 0)) (seen at h) ≡ Some (seen at h)
  difference_none h tidy good =
      ap (λ (o : Option (Linear Term)). o >>= λ (z : Linear Term). with z (Times 1) (seen at h) >>= λ (k : Linear Term). with k Minus (number_form (pos 0))) first
      ∙ (ap (λ (o : Option (Linear Term)). o >>= λ (k : Linear Term). with k Minus (number_form (pos 0))) second ∙ third)
    where
      first : multiple (Scale (pos 0)) (number_form (pos 0)) ≡ Some (seen at nothing)
      first = ap (λ (o : Option ℤ). o >>= λ (k : ℤ). some_form (record { parts = []; constant = k })) (scaled_none (pos 0))

      second : with (seen at nothing) (Times 1) (seen at h) ≡ Some (seen at h)
      second = plus-seen at n once nothing (Times 1) h nothing_over (good_over h.parts good) ∙ ap (λ (o : Option (Linear ℕ)). o >>= λ (k : Linear ℕ). Some (seen at k)) (tidy_plain h tidy)

      third : with (seen at h) Minus (number_form (pos 0)) ≡ Some (seen at h)
      third = ap (λ (o : Option ℤ). o >>= λ (k : ℤ). some_form (record { parts = map (seen_part at) h.parts; constant = k })) (minus_none h.constant tidy.constant)

  -- ---- a cut

  pub record IsCut (d : ℕ) (f : Linear ℕ) : Type 0 where
    pub sum : Term
    pub is : cut_of d (seen at f) ≡ Some (two at_most zero_term sum)
    pub form : form_of_literal (two at_most zero_term sum) ≡ Some (seen at (lowered d f))

  divides_seen : (d : ℕ) (ps : List (ℤ × ℕ)) → 0 < d → divides d ps ≡ true → sums.divides_all d (map (seen_part at) ps) ≡ true
  divides_seen d [] lt e = refl
  divides_seen d (p ∷ ps) lt e =
      let h = both_of (unsigned_abs p.0 % d == 0) (divides d ps) e in
      still (sums.divides d p.0) (sums.divides_all d (map (seen_part at) ps)) (int_eq_of (pos d *ℤ quotient_down p.0 d) p.0 (divided_whole d p.0 lt (eqb-true (unsigned_abs p.0 % d) 0 h.0))) (divides_seen d ps lt h.1)

  above_none : (d : ℕ) → nat_lt 1 d ≡ true → 0 < d
  above_none zero e = absurd cc
  above_none (suc d) e = omega arith

  pub cut_is : (d : ℕ) (f : Linear ℕ) → IsTidy f → AreGood f.parts → nat_lt 1 d ≡ true → divides d f.parts ≡ true → is_bare f.parts ≡ false → IsCut d f
  cut_is d f tidy good large even free = by (quotients d f.parts) refl
    where
      bound : cut_of d (seen at f) ≡ Some (cut_bound d (seen at f))
      bound = ap (λ (b : Bool). only_if b (Some (cut_bound d (seen at f)))) (still (nat_lt 1 d) (sums.divides_all d (map (seen_part at) f.parts)) large (divides_seen d f.parts (above_none d large) even))

      by : (qs : List (ℤ × ℕ)) → quotients d f.parts ≡ qs → IsCut d f
      by [] e = absurd (let up : true ≡ false = sym (none_left d f.parts e) ∙ free in cc)
      by (q ∷ qs) e =
          let good_left : AreGood (q ∷ qs) = subst AreGood e (good_quotients d f.parts good) in
          let tidy_left : AreTidy eqb (q ∷ qs) = subst (λ (ps : List (ℤ × ℕ)). AreTidy eqb ps) e (tidy_quotients d f.parts tidy.parts) in
          let fit = quotient_fits d f.constant tidy.constant in
          let t = total_form q qs (quotient d f.constant) good_left tidy_left fit in
          let total : total_of (divided d (map (seen_part at) f.parts)) (quotient_down f.constant d) ≡ two add t.sum (Number (quotient d f.constant)) =
          ap (λ (ts : List Term). total_of ts (quotient_down f.constant d)) (divided_seen d f.parts good)
          ∙ (ap (λ (ps : List (ℤ × ℕ)). total_of (products ps) (quotient_down f.constant d)) e
          ∙ (ap (λ (c : ℤ). total_of (products (q ∷ qs)) c) (sym (same_quotient d f.constant)) ∙ t.is)) in
          let whole : form_with (q ∷ qs) (quotient d f.constant) ≡ lowered d f = sym (lowered_is d f ∙ ap (λ (ps : List (ℤ × ℕ)). form_with ps (quotient d f.constant)) e) in
          record {
            sum = two add t.sum (Number (quotient d f.constant));
            is = bound ∙ ap (λ (x : Term). Some (is_at_most zero_term x)) total;
            form =
                ap (λ (o : Option (Linear Term)). o >>= λ (g : Linear Term). difference (number_form (pos 0)) g) t.form
                ∙ (difference_none (form_with (q ∷ qs) (quotient d f.constant)) (record { parts = tidy_left; constant = fit }) good_left
                ∙ ap (λ (g : Linear ℕ). some_form (seen at g)) whole);
          }
