-- What is made of terms that depend on names below a count does so too.
use Rattle.std.proofs.Common.{◌≡◌, ℕ, suc, ◌≤◌, List, [], ◌∷◌, Bool, true, false, not, ◌&&◌, ◌||◌, ℤ, pos, neg_ℤ, ◌+ℤ◌, ◌-ℤ◌, ◌*ℤ◌, int_le, int_lt, refl, sym, ap, ap₂, ◌∙◌, arith}
use mathlib.Core.Path.{fun_ext}
use Rattle.wy_value.specs.Datum.{Datum, Truth, Whole, Array, Record}
use Rattle.wy_core.specs.declared.expressions.Op.{Op}
use Rattle.wy_core.specs.declared.expressions.Op.TheVariants.{Add, Sub, Mul, Div, Mod, Equal, Less, LessEqual, Greater, GreaterEqual, And, Or}
use Rattle.wy_term.specs.Term as term
use Rattle.wy_term.specs.Term.{DataKind, Term}
use Rattle.wy_term.specs.Data as shapes
use Rattle.wy_term.specs.Meaning.{Names, with_number, sense, distance}
use Rattle.wy_sound_terms.specs.wy_sem.Operations.{same}
use Rattle.wy_sound_terms.specs.wy_vc_spec.Making.{of_one, of_two, number_of, int_name, num, len, int, value_of, get, field, all_of, any_of, denied, at_most, less_than, equal, of_kind, in_type, formula, bound, truth}
use Rattle.wy_sound_terms.specs.wy_vc_spec.Operations as op
use Rattle.wy_sound_terms.proofs.operations_lemmas.MadeLemmas.{number, datum, holds, each_datum, num_means, len_means, add_means, sub_means, mul_means, div_means, rem_means, neg_means, int_means, value_means, get_means, field_means, repeat_means, array_means, record_means, at_most_means, denied_means, less_means, equal_means, kind_means, all, some, all_means, some_means}
use Rattle.wy_sound_terms.proofs.formed_lemmas.MakingLemmas.{IsOf, num_sorted, formula_sorted}
use Rattle.wy_term.specs.Sorts.{int_sort, val_sort, formula_sort}
use Rattle.wy_sound_walks.specs.expressions.Names.{Agree}
use Rattle.wy_sound_walks.proofs.expressions_lemmas.NameLemmas.{agree_less, agree_both}
use Rattle.wy_sound_walks.proofs.expressions_lemmas.QuantifierLemmas.{range, bound_means}
use Rattle.wy_sound_walks.specs.joins.Points.{Depends}

-- the same of Int terms and of formulas
abbrev pub DependsInt : ℕ → Term → Type 0
DependsInt n t = (v w : Names) → Agree n v w → number w t ≡ number v t

abbrev pub Rests : ℕ → Term → Type 0
Rests n f = (v w : Names) → Agree n v w → holds w f ≡ holds v f

pub depends_more : (n m : ℕ) (t : Term) → n ≤ m → Depends n t → Depends m t
depends_more n m t le h v w a = h v w (agree_less n m v w le a)

pub rests_more : (n m : ℕ) (f : Term) → n ≤ m → Rests n f → Rests m f
rests_more n m f le h v w a = h v w (agree_less n m v w le a)

module _ (n : ℕ) where
  pub num_rests : (v : Term) → Depends n v → DependsInt n (num v)
  num_rests (v) h x y a = num_means y v ∙ ap shapes.number_in (h x y a) ∙ sym (num_means x v)

  pub len_rests : (v : Term) → Depends n v → DependsInt n (len v)
  len_rests (v) h x y a = len_means y v ∙ ap shapes.length_in (h x y a) ∙ sym (len_means x v)

  pub int_depends : (s : Term) → DependsInt n s → Depends n (int s)
  int_depends (s) h x y a = int_means y s ∙ ap Whole (h x y a) ∙ sym (int_means x s)

  pub value_depends : (f : Term) → Rests n f → Depends n (value_of f)
  value_depends (f) h x y a = value_means y f ∙ ap Truth (h x y a) ∙ sym (value_means x f)

  pub get_depends : (v s : Term) → Depends n v → DependsInt n s → Depends n (get v s)
  get_depends (v) (s) h g x y a = get_means y v s ∙ ap₂ shapes.element (h x y a) (g x y a) ∙ sym (get_means x v s)

  pub field_depends : (name : List ℕ) (v : Term) → Depends n v → Depends n (field name v)
  field_depends name (v) h x y a = field_means y name v ∙ ap (λ (d : Datum). shapes.field_in d name) (h x y a) ∙ sym (field_means x name v)

  -- ---- formulas

  pub at_most_rests : (s t : Term) → DependsInt n s → DependsInt n t → Rests n (at_most s t)
  at_most_rests (s) (t) h g x y a = at_most_means y s t ∙ ap₂ int_le (h x y a) (g x y a) ∙ sym (at_most_means x s t)

  pub less_rests : (s t : Term) → DependsInt n s → DependsInt n t → Rests n (less_than s t)
  less_rests (s) (t) h g x y a = less_means y s t ∙ ap₂ int_lt (h x y a) (g x y a) ∙ sym (less_means x s t)

  pub denied_rests : (f : Term) → Rests n f → Rests n (denied f)
  denied_rests (f) h x y a = denied_means y f ∙ ap not (h x y a) ∙ sym (denied_means x f)

  pub equal_rests : (v w : Term) → Depends n v → Depends n w → Rests n (equal v w)
  equal_rests (v) (w) h g x y a = equal_means y v w ∙ ap₂ same (h x y a) (g x y a) ∙ sym (equal_means x v w)

  pub kind_rests : (kind : DataKind) (v : Term) → Depends n v → Rests n (of_kind kind v)
  kind_rests kind (v) h x y a = kind_means y kind v ∙ ap (shapes.is_of_kind kind) (h x y a) ∙ sym (kind_means x kind v)

  pub formula_rests : (v : Term) → Depends n v → Rests n (formula v)
  formula_rests (v) h = equal_rests (v) (truth true) h (λ x y a. refl)

  -- each of these formulas
  pub data AllRest : List Term → Type 0 where
    none_rest : AllRest []
    more_rest : (f : Term) {fs : List Term} → Rests n f → AllRest fs → AllRest (f ∷ fs)

  all_same : {fs : List Term} → AllRest fs → (x y : Names) → Agree n x y → all y fs ≡ all x fs
  all_same none_rest x y a = refl
  all_same (more_rest f h rest) x y a = ap₂ (λ (b c : Bool). b && c) (h x y a) (all_same rest x y a)

  some_same : {fs : List Term} → AllRest fs → (x y : Names) → Agree n x y → some y fs ≡ some x fs
  some_same none_rest x y a = refl
  some_same (more_rest f h rest) x y a = ap₂ (λ (b c : Bool). b || c) (h x y a) (some_same rest x y a)

  pub all_rest : {fs : List Term} → AllRest fs → Rests n (all_of fs)
  all_rest {fs} h x y a = all_means y fs ∙ all_same h x y a ∙ sym (all_means x fs)

  pub some_rest : {fs : List Term} → AllRest fs → Rests n (any_of fs)
  some_rest {fs} h x y a = some_means y fs ∙ some_same h x y a ∙ sym (some_means x fs)

  -- a quantifier, whose body may speak of its name
  pub bound_rests : (all' : Bool) (word : List ℕ) (k : ℕ) {s t f : Term} → IsOf int_sort s → IsOf int_sort t → IsOf formula_sort f → DependsInt n s → DependsInt n t → Rests n f → Rests n (bound all' word k s t f)
  bound_rests all' word k {s} {t} {f} is it jf h g b x y a =
      bound_means all' word k s t f y is it jf
      ∙ ap₂ (λ (i j : ℤ). range all' i (distance (j -ℤ i)) (λ z. holds (with_number y word k z) f)) (h x y a) (g x y a)
      ∙ ap (λ (test : ℤ → Bool). range all' (number x s) (distance (number x t -ℤ number x s)) test) (fun_ext (λ z. b (with_number x word k z) (with_number y word k z) (agree_both n x y word k z a)))
      ∙ sym (bound_means all' word k s t f x is it jf)

  -- ---- operations

  pub negated_depends : (v : Term) → Depends n v → Depends n (op.negated v)
  negated_depends (v) h = int_depends (of_one term.neg (num v)) (λ x y a. neg_means y (num v) ∙ ap neg_ℤ (num_rests (v) h x y a) ∙ sym (neg_means x (num v)))

  pub denial_depends : (v : Term) → Depends n v → Depends n (op.with_denial v)
  denial_depends (v) h = value_depends (denied (formula v)) (denied_rests (formula v) (formula_rests (v) h))

  pub length_depends : (v : Term) → Depends n v → Depends n (op.length v)
  length_depends (v) h = int_depends (len v) (len_rests (v) h)

  pub element_depends : (v i : Term) → Depends n v → Depends n i → Depends n (op.element v i)
  element_depends (v) (i) h g = get_depends (v) (num i) h (num_rests (i) g)

  pub repeated_depends : (v m : Term) → Depends n v → Depends n m → Depends n (op.repeated v m)
  repeated_depends (v) (m) h g x y a = repeat_means y v (num m) ∙ ap₂ shapes.repeated (h x y a) (num_rests (m) g x y a) ∙ sym (repeat_means x v (num m))

  -- an Int term of two numbers
  two_depend : (symbol : Term → Term → Term) (f : ℤ → ℤ → ℤ) → ((u : Names) (s t : Term) → number u (symbol s t) ≡ f (number u s) (number u t)) → (v w : Term) → Depends n v → Depends n w → Depends n (int (symbol (num v) (num w)))
  two_depend symbol f means (v) (w) h g = int_depends (symbol (num v) (num w)) (λ x y a. means y (num v) (num w) ∙ ap₂ f (num_rests (v) h x y a) (num_rests (w) g x y a) ∙ sym (means x (num v) (num w)))

  equality_depends : (numbers : Bool) (v w : Term) → Depends n v → Depends n w → Depends n (op.equality numbers v w)
  equality_depends true (v) (w) h g =
      value_depends (all_of (at_most (num v) (num w) ∷ at_most (num w) (num v) ∷ []))
      (all_rest (more_rest (at_most (num v) (num w)) (at_most_rests (num v) (num w) (num_rests (v) h) (num_rests (w) g)) (more_rest (at_most (num w) (num v)) (at_most_rests (num w) (num v) (num_rests (w) g) (num_rests (v) h)) none_rest)))
  equality_depends false (v) (w) h g = value_depends (equal v w) (equal_rests (v) (w) h g)

  pub operated_depends : (o : Op) (numbers : Bool) (v w : Term) → Depends n v → Depends n w → Depends n (op.operated o numbers v w)
  operated_depends Add numbers (v) (w) h g = two_depend (of_two term.add) ◌+ℤ◌ (λ u s t. add_means u s t) (v) (w) h g
  operated_depends Sub numbers (v) (w) h g = two_depend (of_two term.sub) ◌-ℤ◌ (λ u s t. sub_means u s t) (v) (w) h g
  operated_depends Mul numbers (v) (w) h g = two_depend (of_two term.mul) ◌*ℤ◌ (λ u s t. mul_means u s t) (v) (w) h g
  operated_depends Div numbers (v) (w) h g = two_depend (of_two term.div) shapes.quotient (λ u s t. div_means u s t) (v) (w) h g
  operated_depends Mod numbers (v) (w) h g = two_depend (of_two term.rem) shapes.remainder (λ u s t. rem_means u s t) (v) (w) h g
  operated_depends Equal numbers (v) (w) h g = equality_depends numbers (v) (w) h g
  operated_depends Less numbers (v) (w) h g = value_depends (less_than (num v) (num w)) (less_rests (num v) (num w) (num_rests (v) h) (num_rests (w) g))
  operated_depends LessEqual numbers (v) (w) h g = value_depends (at_most (num v) (num w)) (at_most_rests (num v) (num w) (num_rests (v) h) (num_rests (w) g))
  operated_depends Greater numbers (v) (w) h g = value_depends (less_than (num w) (num v)) (less_rests (num w) (num v) (num_rests (w) g) (num_rests (v) h))
  operated_depends GreaterEqual numbers (v) (w) h g = value_depends (at_most (num w) (num v)) (at_most_rests (num w) (num v) (num_rests (w) g) (num_rests (v) h))
  operated_depends And numbers (v) (w) h g = value_depends (all_of (formula v ∷ formula w ∷ [])) (all_rest (more_rest (formula v) (formula_rests (v) h) (more_rest (formula w) (formula_rests (w) g) none_rest)))
  operated_depends Or numbers (v) (w) h g = value_depends (any_of (formula v ∷ formula w ∷ [])) (some_rest (more_rest (formula v) (formula_rests (v) h) (more_rest (formula w) (formula_rests (w) g) none_rest)))

  pub quantified_depends : (all' : Bool) (word : List ℕ) (k : ℕ) (v w u : Term) → IsOf val_sort v → IsOf val_sort w → IsOf val_sort u → Depends n v → Depends n w → Depends n u → Depends n (op.quantified all' word k v w u)
  quantified_depends all' word k (v) (w) (u) iv iw iu h g f =
      value_depends (bound all' word k (num v) (num w) (formula u)) (bound_rests all' word k (num_sorted iv) (num_sorted iw) (formula_sorted iu) (num_rests (v) h) (num_rests (w) g) (formula_rests (u) f))

  -- ---- lists

  pub data EachDepends : List Term → Type 0 where
    none_depends : EachDepends []
    more_depends : {t : Term} {ts : List Term} → Depends n t → EachDepends ts → EachDepends (t ∷ ts)

  each_same : {ts : List Term} → EachDepends ts → (x y : Names) → Agree n x y → each_datum y ts ≡ each_datum x ts
  each_same none_depends x y a = refl
  each_same (more_depends h rest) x y a = ap₂ (λ (d : Datum) (ds : List Datum). d ∷ ds) (h x y a) (each_same rest x y a)

  pub list_depends : {ts : List Term} → EachDepends ts → Depends n (op.list ts)
  list_depends {ts} h x y a = array_means y ts ∙ ap (λ (ds : List Datum). Array (shapes.items_with ds)) (each_same h x y a) ∙ sym (array_means x ts)

  pub record_depends : (fs : List (List ℕ)) {ts : List Term} → EachDepends ts → Depends n (op.record_of fs ts)
  record_depends fs {ts} h x y a = record_means y fs ts ∙ ap (λ (ds : List Datum). Record (shapes.fields_with fs ds)) (each_same h x y a) ∙ sym (record_means x fs ts)
