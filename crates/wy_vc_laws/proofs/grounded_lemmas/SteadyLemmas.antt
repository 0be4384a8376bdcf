-- Terms and formulas that mean the same by two readings of `in`, whatever numbers their names stand for.
use Rattle.std.proofs.Common.{◌≡◌, ℕ, Bool, true, false, not, ◌&&◌, ◌||◌, List, [], ◌∷◌, length, ℤ, neg_ℤ, ◌+ℤ◌, ◌-ℤ◌, ◌*ℤ◌, refl, sym, ap, ◌∙◌}
use mathlib.Core.Path.{fun_ext}
use Rattle.wy_lemmas.proofs.Equations.{both_same as two_same}
use Rattle.wy_check_laws.specs.wy_value.Datum.{Datum, Truth, Whole, Array, Record}
use Rattle.wy_sound_terms.specs.wy_core.declared.expressions.Op.{Op}
use Rattle.wy_sound_terms.specs.wy_core.declared.expressions.Op.TheVariants.{Add, Sub, Mul, Div, Mod, Equal, Less, LessEqual, Greater, GreaterEqual, And, Or}
use Rattle.wy_check_laws.specs.wy_term.Term as term
use Rattle.wy_check_laws.specs.wy_term.Term.{DataKind, Term, Of, no_parts, part}
use Rattle.wy_check_laws.specs.wy_term.Data as shapes
use Rattle.wy_check_laws.specs.wy_term.Meaning.{Names, with_number, Sense, sense, senses_of, data_in, all_hold, any_holds, each_from, any_from, distance}
use Rattle.wy_check_laws.specs.wy_term.Meaning as means
use Rattle.wy_check_laws.specs.wy_term.Folding.{folded}
use Rattle.wy_check_laws.specs.wy_term.Sorts.{Sort, int_sort, val_sort, formula_sort, sort_in, Agree}
use Rattle.wy_sound_terms.specs.wy_term_subst.sorted.Sorted.{IsSorted}
use Rattle.wy_sound_terms.proofs.wy_term_subst_proofs.sorted_lemmas.SortedLemmas.{folding_kept, agree_on}
use Rattle.wy_sound_terms.proofs.wy_term_subst_proofs.kept_sorts_lemmas.SortLemmas.{folded_sorted}
use Rattle.wy_sound_terms.specs.wy_term_subst.grounded.Readings.{with_members}
use Rattle.wy_sound_terms.specs.wy_vc_spec.Making.{parts_of, number_of, int_name, num, len, null, truth, int, value_of, get, field, all_of, any_of, falsehood, denied, at_most, less_than, equal, of_kind, in_type, formula, bound}
use Rattle.wy_sound_terms.specs.wy_vc_spec.Operations as op
use Rattle.wy_sound_terms.proofs.formed_lemmas.MakingLemmas.{IsOf, AllOf, none, more, parts_sorted, number_sorted, int_name_sorted, null_sorted, truth_sorted}

agree_back : (s : Sort) (a b : Sense) → Agree s a b → Agree s b a
agree_back int_sort a b p = sym p
agree_back val_sort a b p = sym p
agree_back formula_sort a b p = sym p

-- two readings of `in`, and the datum that the Val name of this word with the number 0 stands for
pub record Two : Type 0 where
  pub first : ℕ → Datum → Bool
  pub second : ℕ → Datum → Bool
  pub word : List ℕ
  pub datum : Datum

-- names by which the Val name stands for the datum
abbrev pub Fits : Two → Names → Type 0
Fits r names = names.datum_of r.word 0 ≡ r.datum

-- by both readings the term means the same
abbrev pub Stays : Two → Sort → Term → Type 0
Stays r sort t = (names : Names) → Fits r names → Agree sort (sense (with_members names r.first) t) (sense (with_members names r.second) t)

pub record IsSteady (r : Two) (sort : Sort) (t : Term) : Type 0 where
  pub is : IsOf sort t
  pub same : Stays r sort t

pub data AllSteady (r : Two) (sort : Sort) : List Term → Type 0 where
  none' : AllSteady r sort []
  more' : {t : Term} {ts : List Term} → IsSteady r sort t → AllSteady r sort ts → AllSteady r sort (t ∷ ts)

module _ (r : Two) where
  all_of_sort : {sort : Sort} {ts : List Term} → AllSteady r sort ts → AllOf sort ts
  all_of_sort none' = none
  all_of_sort (more' h all) = more h.is (all_of_sort all)

  -- folding keeps what stays
  made : (t : Term) → IsSorted t → Stays r (sort_in t) t → IsSteady r (sort_in t) (folded t)
  made t sorted stays = record {
    is = record { has = folded_sorted t sorted };
    same = λ names fits.
        agree_on (sort_in t) (sense (with_members names r.first) (folded t)) (sense (with_members names r.first) t) (sense (with_members names r.second) (folded t)) (folding_kept t (with_members names r.first) sorted)
        (agree_on (sort_in t) (sense (with_members names r.first) t) (sense (with_members names r.second) t) (sense (with_members names r.second) (folded t)) (stays names fits)
        (agree_back (sort_in t) (sense (with_members names r.second) (folded t)) (sense (with_members names r.second) t) (folding_kept t (with_members names r.second) sorted)));
  }

  -- ---- Int terms

  pub number_steady : (z : ℤ) → IsSteady r int_sort (number_of z)
  number_steady z = record { is = number_sorted z; same = λ names fits. refl }

  pub int_name_steady : (w : List ℕ) (n : ℕ) → IsSteady r int_sort (int_name w n)
  int_name_steady w n = record { is = int_name_sorted w n; same = λ names fits. refl }

  pub num_steady : {v : Term} → IsSteady r val_sort v → IsSteady r int_sort (num v)
  num_steady {v} h = made (Of term.num (part v no_parts)) (h.is.has.1, h.is.has.0, tt) (λ names fits. ap shapes.number_in (h.same names fits))

  pub len_steady : {v : Term} → IsSteady r val_sort v → IsSteady r int_sort (len v)
  len_steady {v} h = made (Of term.len (part v no_parts)) (h.is.has.1, h.is.has.0, tt) (λ names fits. ap shapes.length_in (h.same names fits))

  -- ---- Val terms

  pub null_steady : IsSteady r val_sort null
  null_steady = record { is = null_sorted; same = λ names fits. refl }

  pub truth_steady : (b : Bool) → IsSteady r val_sort (truth b)
  truth_steady b = record { is = truth_sorted b; same = λ names fits. refl }

  pub int_steady : {s : Term} → IsSteady r int_sort s → IsSteady r val_sort (int s)
  int_steady {s} h = made (Of term.int (part s no_parts)) (h.is.has.1, h.is.has.0, tt) (λ names fits. ap Whole (h.same names fits))

  pub value_steady : {f : Term} → IsSteady r formula_sort f → IsSteady r val_sort (value_of f)
  value_steady {f} h = made (Of term.bool (part f no_parts)) (h.is.has.1, h.is.has.0, tt) (λ names fits. ap Truth (h.same names fits))

  pub get_steady : {v s : Term} → IsSteady r val_sort v → IsSteady r int_sort s → IsSteady r val_sort (get v s)
  get_steady {v} {s} h g = made (Of term.get (part v (part s no_parts))) (h.is.has.1, h.is.has.0, (g.is.has.1, g.is.has.0, tt)) (λ names fits. two_same shapes.element _ _ _ _ (h.same names fits) (g.same names fits))

  pub field_steady : (name : List ℕ) {v : Term} → IsSteady r val_sort v → IsSteady r val_sort (field name v)
  field_steady name {v} h = made (Of (term.field name) (part v no_parts)) (h.is.has.1, h.is.has.0, tt) (λ names fits. ap (λ (e : Datum). shapes.field_in e name) (h.same names fits))

  -- ---- formulas

  all_stay : {fs : List Term} → AllSteady r formula_sort fs → (names : Names) → Fits r names → all_hold (senses_of (parts_of fs)) (with_members names r.first) ≡ all_hold (senses_of (parts_of fs)) (with_members names r.second)
  all_stay none' names fits = refl
  all_stay (more' h all) names fits = two_same ◌&&◌ _ _ _ _ (h.same names fits) (all_stay all names fits)

  any_stay : {fs : List Term} → AllSteady r formula_sort fs → (names : Names) → Fits r names → any_holds (senses_of (parts_of fs)) (with_members names r.first) ≡ any_holds (senses_of (parts_of fs)) (with_members names r.second)
  any_stay none' names fits = refl
  any_stay (more' h all) names fits = two_same ◌||◌ _ _ _ _ (h.same names fits) (any_stay all names fits)

  data_stay : {vs : List Term} → AllSteady r val_sort vs → (names : Names) → Fits r names → data_in (senses_of (parts_of vs)) (with_members names r.first) ≡ data_in (senses_of (parts_of vs)) (with_members names r.second)
  data_stay none' names fits = refl
  data_stay (more' h all) names fits = two_same ◌∷◌ _ _ _ _ (h.same names fits) (data_stay all names fits)

  pub all_steady : {fs : List Term} → AllSteady r formula_sort fs → IsSteady r formula_sort (all_of fs)
  all_steady {fs} all = made (Of term.all_of (parts_of fs)) (parts_sorted (all_of_sort all)) (all_stay all)

  pub any_steady : {fs : List Term} → AllSteady r formula_sort fs → IsSteady r formula_sort (any_of fs)
  any_steady {fs} all = made (Of term.any_of (parts_of fs)) (parts_sorted (all_of_sort all)) (any_stay all)

  pub falsehood_steady : IsSteady r formula_sort falsehood
  falsehood_steady = any_steady none'

  pub denied_steady : {f : Term} → IsSteady r formula_sort f → IsSteady r formula_sort (denied f)
  denied_steady {f} h = made (Of term.denied (part f no_parts)) (h.is.has.1, h.is.has.0, tt) (λ names fits. ap not (h.same names fits))

  pub at_most_steady : {s t : Term} → IsSteady r int_sort s → IsSteady r int_sort t → IsSteady r formula_sort (at_most s t)
  at_most_steady {s} {t} h g = made (Of term.at_most (part s (part t no_parts))) (h.is.has.1, h.is.has.0, (g.is.has.1, g.is.has.0, tt)) (λ names fits. two_same means.at_most _ _ _ _ (h.same names fits) (g.same names fits))

  less_steady : {s t : Term} → IsSteady r int_sort s → IsSteady r int_sort t → IsSteady r formula_sort (less_than s t)
  less_steady h g = denied_steady (at_most_steady g h)

  equal_steady : {v w : Term} → IsSteady r val_sort v → IsSteady r val_sort w → IsSteady r formula_sort (equal v w)
  equal_steady {v} {w} h g = made (Of term.equal (part v (part w no_parts))) (h.is.has.1, h.is.has.0, (g.is.has.1, g.is.has.0, tt)) (λ names fits. two_same shapes.same_datum _ _ _ _ (h.same names fits) (g.same names fits))

  pub kind_steady : (kind : DataKind) {v : Term} → IsSteady r val_sort v → IsSteady r formula_sort (of_kind kind v)
  kind_steady kind {v} h = made (Of (term.of_kind kind) (part v no_parts)) (h.is.has.1, h.is.has.0, tt) (λ names fits. ap (shapes.is_of_kind kind) (h.same names fits))

  -- a test of a named type stays where the readings agree at what the term stands for
  pub in_type_steady : (n : ℕ) {v : Term} → IsSteady r val_sort v → ((names : Names) → Fits r names → r.first n (sense (with_members names r.first) v).datum ≡ r.second n (sense (with_members names r.first) v).datum) → IsSteady r formula_sort (in_type n v)
  in_type_steady n {v} h alike = made (Of (term.in_type n) (part v no_parts)) (h.is.has.1, h.is.has.0, tt) (λ names fits. alike names fits ∙ ap (r.second n) (h.same names fits))

  pub formula_steady : {v : Term} → IsSteady r val_sort v → IsSteady r formula_sort (formula v)
  formula_steady h = equal_steady h (truth_steady true)

  -- the numbers that a bound name stands for leave the Val name as it is
  every_stays : (w : List ℕ) (n : ℕ) {f : Term} → IsSteady r formula_sort f → (names : Names) → Fits r names → ◌≡◌ {A = ℤ → Bool} (λ z. (sense (with_number (with_members names r.first) w n z) f).truth) (λ z. (sense (with_number (with_members names r.second) w n z) f).truth)
  every_stays w n h names fits = fun_ext (λ z. h.same (with_number names w n z) fits)

  pub bound_steady : (all : Bool) (w : List ℕ) (n : ℕ) {s t f : Term} → IsSteady r int_sort s → IsSteady r int_sort t → IsSteady r formula_sort f → IsSteady r formula_sort (bound all w n s t f)
  bound_steady true w n {s} {t} {f} a b c =
      made (Of (term.every w n) (part s (part t (part f no_parts)))) (a.is.has.1, a.is.has.0, (b.is.has.1, b.is.has.0, (c.is.has.1, c.is.has.0, tt))) (λ names fits.
      two_same (λ (x y : ℤ). each_from x (distance (y -ℤ x)) (λ z. (sense (with_number (with_members names r.first) w n z) f).truth)) _ _ _ _ (a.same names fits) (b.same names fits)
      ∙ ap (each_from (sense (with_members names r.second) s).number (distance ((sense (with_members names r.second) t).number -ℤ (sense (with_members names r.second) s).number))) (every_stays w n c names fits))
  bound_steady false w n {s} {t} {f} a b c =
      made (Of (term.exists w n) (part s (part t (part f no_parts)))) (a.is.has.1, a.is.has.0, (b.is.has.1, b.is.has.0, (c.is.has.1, c.is.has.0, tt))) (λ names fits.
      two_same (λ (x y : ℤ). any_from x (distance (y -ℤ x)) (λ z. (sense (with_number (with_members names r.first) w n z) f).truth)) _ _ _ _ (a.same names fits) (b.same names fits)
      ∙ ap (any_from (sense (with_members names r.second) s).number (distance ((sense (with_members names r.second) t).number -ℤ (sense (with_members names r.second) s).number))) (every_stays w n c names fits))

  -- ---- operations on data

  pub negated_steady : {v : Term} → IsSteady r val_sort v → IsSteady r val_sort (op.negated v)
  negated_steady {v} h = let n = num_steady h in int_steady (made (Of term.neg (part (num v) no_parts)) (n.is.has.1, n.is.has.0, tt) (λ names fits. ap neg_ℤ (n.same names fits)))

  pub denial_steady : {v : Term} → IsSteady r val_sort v → IsSteady r val_sort (op.with_denial v)
  denial_steady h = value_steady (denied_steady (formula_steady h))

  pub length_steady : {v : Term} → IsSteady r val_sort v → IsSteady r val_sort (op.length v)
  length_steady h = int_steady (len_steady h)

  pub element_steady : {v i : Term} → IsSteady r val_sort v → IsSteady r val_sort i → IsSteady r val_sort (op.element v i)
  element_steady h g = get_steady h (num_steady g)

  pub repeated_steady : {v n : Term} → IsSteady r val_sort v → IsSteady r val_sort n → IsSteady r val_sort (op.repeated v n)
  repeated_steady {v} {n} h g =
      let m = num_steady g in
      made (Of term.repeat (part v (part (num n) no_parts))) (h.is.has.1, h.is.has.0, (m.is.has.1, m.is.has.0, tt)) (λ names fits. two_same shapes.repeated _ _ _ _ (h.same names fits) (m.same names fits))

  pub list_steady : {vs : List Term} → AllSteady r val_sort vs → IsSteady r val_sort (op.list vs)
  list_steady {vs} all = made (Of term.array (parts_of vs)) (parts_sorted (all_of_sort all)) (λ names fits. ap (λ (ds : List Datum). Array (shapes.items_with ds)) (data_stay all names fits))

  pub record_steady : (fields : List (List ℕ)) {vs : List Term} → AllSteady r val_sort vs → IsSteady r val_sort (op.record_of fields vs)
  record_steady fields {vs} all = made (Of (term.fields fields) (parts_of vs)) (parts_sorted (all_of_sort all)) (λ names fits. ap (λ (ds : List Datum). Record (shapes.fields_with fields ds)) (data_stay all names fits))

  equality_steady : (numbers : Bool) {v w : Term} → IsSteady r val_sort v → IsSteady r val_sort w → IsSteady r val_sort (op.equality numbers v w)
  equality_steady true h g = value_steady (all_steady (more' (at_most_steady (num_steady h) (num_steady g)) (more' (at_most_steady (num_steady g) (num_steady h)) none')))
  equality_steady false h g = value_steady (equal_steady h g)

  pub operated_steady : (o : Op) (numbers : Bool) {v w : Term} → IsSteady r val_sort v → IsSteady r val_sort w → IsSteady r val_sort (op.operated o numbers v w)
  operated_steady Add numbers {v} {w} h g =
      let a = num_steady h in
      let b = num_steady g in
      int_steady (made (Of term.add (part (num v) (part (num w) no_parts))) (a.is.has.1, a.is.has.0, (b.is.has.1, b.is.has.0, tt)) (λ names fits. two_same ◌+ℤ◌ _ _ _ _ (a.same names fits) (b.same names fits)))
  operated_steady Sub numbers {v} {w} h g =
      let a = num_steady h in
      let b = num_steady g in
      int_steady (made (Of term.sub (part (num v) (part (num w) no_parts))) (a.is.has.1, a.is.has.0, (b.is.has.1, b.is.has.0, tt)) (λ names fits. two_same ◌-ℤ◌ _ _ _ _ (a.same names fits) (b.same names fits)))
  operated_steady Mul numbers {v} {w} h g =
      let a = num_steady h in
      let b = num_steady g in
      int_steady (made (Of term.mul (part (num v) (part (num w) no_parts))) (a.is.has.1, a.is.has.0, (b.is.has.1, b.is.has.0, tt)) (λ names fits. two_same ◌*ℤ◌ _ _ _ _ (a.same names fits) (b.same names fits)))
  operated_steady Div numbers {v} {w} h g =
      let a = num_steady h in
      let b = num_steady g in
      int_steady (made (Of term.div (part (num v) (part (num w) no_parts))) (a.is.has.1, a.is.has.0, (b.is.has.1, b.is.has.0, tt)) (λ names fits. two_same shapes.quotient _ _ _ _ (a.same names fits) (b.same names fits)))
  operated_steady Mod numbers {v} {w} h g =
      let a = num_steady h in
      let b = num_steady g in
      int_steady (made (Of term.rem (part (num v) (part (num w) no_parts))) (a.is.has.1, a.is.has.0, (b.is.has.1, b.is.has.0, tt)) (λ names fits. two_same shapes.remainder _ _ _ _ (a.same names fits) (b.same names fits)))
  operated_steady Equal numbers h g = equality_steady numbers h g
  operated_steady Less numbers h g = value_steady (less_steady (num_steady h) (num_steady g))
  operated_steady LessEqual numbers h g = value_steady (at_most_steady (num_steady h) (num_steady g))
  operated_steady Greater numbers h g = value_steady (less_steady (num_steady g) (num_steady h))
  operated_steady GreaterEqual numbers h g = value_steady (at_most_steady (num_steady g) (num_steady h))
  operated_steady And numbers h g = value_steady (all_steady (more' (formula_steady h) (more' (formula_steady g) none')))
  operated_steady Or numbers h g = value_steady (any_steady (more' (formula_steady h) (more' (formula_steady g) none')))

  pub quantified_steady : (all : Bool) (w : List ℕ) (n : ℕ) {v u f : Term} → IsSteady r val_sort v → IsSteady r val_sort u → IsSteady r val_sort f → IsSteady r val_sort (op.quantified all w n v u f)
  quantified_steady all w n h g f = value_steady (bound_steady all w n (num_steady h) (num_steady g) (formula_steady f))
