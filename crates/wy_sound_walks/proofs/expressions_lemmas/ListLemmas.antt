-- Lists of answers, and the last steps of constructs that owe nothing.
use Rattle.std.proofs.Common.{◌≡◌, ℕ, ◌≤◌, List, [], ◌∷◌, Bool, true, false, Option, Some, None, ℤ, refl, sym, ap, ◌∙◌, subst}
use Rattle.wy_value.specs.Datum.{Datum, Null, Truth, Whole, Array, Record, Fields, no_fields, field}
use Rattle.wy_term.specs.Term.{Term}
use Rattle.wy_term.specs.Sorts.{val_sort, formula_sort}
use Rattle.wy_term.specs.Data as shapes
use Rattle.wy_term.specs.Meaning.{Names, sense}
use Rattle.wy_term_subst.specs.kept_sorts.SortKept.{HasSort}
use Rattle.wy_sound_terms.specs.wy_sem.Meter.{Meter, Outcome, Done, Fault, More, Spent, Run, ◌>>=◌}
use Rattle.wy_sound_terms.specs.wy_sem.Operations.{needed, as_number}
use Rattle.wy_sound_terms.specs.wy_vc_spec.Making.{value_of}
use Rattle.wy_sound_terms.specs.wy_vc_spec.Operations as op
use Rattle.wy_sound_terms.proofs.formed_lemmas.MakingLemmas.{IsOf, AllOf, none, more, value_sorted, list_sorted, record_sorted}
use Rattle.wy_sound_terms.specs.operations.Kinds.{IsWhole}
use Rattle.wy_sound_terms.proofs.operations_lemmas.MadeLemmas.{each_datum, value_means, array_means, record_means}
use Rattle.wy_sound_terms.proofs.operations_lemmas.DataLemmas.{items_with_is}
use Rattle.wy_sound_walks.specs.expressions.Names.{Agree, Known, Means, AllMean, Goes}
use Rattle.wy_sound_walks.specs.expressions.Truth.{Good}
use Rattle.wy_sound_walks.specs.expressions.Suits.{Answers}
use Rattle.wy_sound_walks.specs.expressions.Sound.{Ok}
use Rattle.wy_sound_walks.proofs.expressions_lemmas.NameLemmas.{agree_refl, agree_trans, agree_less, goes_agree, goes_refl, goes_trans, known_later, means_later}
use Rattle.wy_value.specs.Seen.{data_of}

-- ---- lists of answers

-- there are names behind a walk of several expressions, at which its hypotheses hold and its terms mean the answers
pub record OkAll (q : Bool) (n : ℕ) (names : Names) (m : ℕ) (hyps : List Term) (terms : List Term) (ds : List Datum) : Type 0 where
  pub later : Names
  pub goes : Goes q n names later
  pub known : Known m later hyps
  pub means : AllMean m later terms ds
  pub are : AllOf val_sort terms

-- the same of the fields of a record
pub record OkFields (q : Bool) (n : ℕ) (names : Names) (m : ℕ) (hyps : List Term) (fields : List (List ℕ)) (terms : List Term) (ds : Fields) : Type 0 where
  pub later : Names
  pub goes : Goes q n names later
  pub known : Known m later hyps
  pub means : (u : Names) → Agree m later u → shapes.fields_with fields (each_datum u terms) ≡ ds
  pub are : AllOf val_sort terms

-- an answer of a call that gives a value
pub record OkResult (q : Bool) (n : ℕ) (names : Names) (m : ℕ) (hyps : List Term) (term : Term) (r : Option Datum) : Type 0 where
  pub value : Datum
  pub is : r ≡ Some value
  pub ok : Ok q n names m hyps term value

pub each_is : (m : ℕ) (names u : Names) (ts : List Term) (ds : List Datum) → AllMean m names ts ds → Agree m names u → each_datum u ts ≡ ds
each_is m names u [] [] h a = refl
each_is m names u [] (d ∷ ds) h a = absurd h
each_is m names u (t ∷ ts) [] h a = absurd h
each_is m names u (t ∷ ts) (d ∷ ds) h a = ap (λ (e : Datum). e ∷ each_datum u ts) (h.0 u a) ∙ ap (λ (es : List Datum). d ∷ es) (each_is m names u ts ds h.1 a)

pub is_of : {t : Term} → HasSort t val_sort → IsOf val_sort t
is_of h = record { has = h }

pub ok_more : (q : Bool) (n : ℕ) (names : Names) (m1 m2 : ℕ) (h1 h2 : List Term) (t : Term) (ts : List Term) (d : Datum) (ds : List Datum) → n ≤ m1 → m1 ≤ m2 → (x : Ok q n names m1 h1 t d) → OkAll q m1 x.later m2 h2 ts ds → OkAll q n names m2 h2 (t ∷ ts) (d ∷ ds)
ok_more q n names m1 m2 h1 h2 t ts d ds le1 le2 x y = record {
  later = y.later;
  goes = goes_trans q n m1 names x.later y.later le1 x.goes y.goes;
  known = y.known;
  means = (means_later m1 m2 x.later y.later t d le2 (goes_agree q m1 x.later y.later y.goes) x.means, y.means);
  are = more (is_of x.is) y.are;
}

pub ok_field : (q : Bool) (n : ℕ) (names : Names) (m1 m2 : ℕ) (h1 h2 : List Term) (name : List ℕ) (fs : List (List ℕ)) (t : Term) (ts : List Term) (d : Datum) (ds : Fields) → n ≤ m1 → m1 ≤ m2 → (x : Ok q n names m1 h1 t d) → OkFields q m1 x.later m2 h2 fs ts ds
    → OkFields q n names m2 h2 (name ∷ fs) (t ∷ ts) (field name d ds)
ok_field q n names m1 m2 h1 h2 name fs t ts d ds le1 le2 x y = record {
  later = y.later;
  goes = goes_trans q n m1 names x.later y.later le1 x.goes y.goes;
  known = y.known;
  means = λ u a.
      ap (λ (e : Datum). field name e (shapes.fields_with fs (each_datum u ts))) (means_later m1 m2 x.later y.later t d le2 (goes_agree q m1 x.later y.later y.goes) x.means u a)
      ∙ ap (field name d) (y.means u a);
  are = more (is_of x.is) y.are;
}

pub ok_list : (q : Bool) (n : ℕ) (names : Names) (m : ℕ) (hyps : List Term) (ts : List Term) (ds : List Datum) → OkAll q n names m hyps ts ds → Ok q n names m hyps (op.list ts) (Array (data_of ds))
ok_list q n names m hyps ts ds x = record {
  later = x.later;
  goes = x.goes;
  known = x.known;
  means = λ u a. array_means u ts ∙ ap (λ (es : List Datum). Array (shapes.items_with es)) (each_is m x.later u ts ds x.means a) ∙ ap Array (items_with_is ds);
  is = (list_sorted x.are).has;
}

pub ok_record : (q : Bool) (n : ℕ) (names : Names) (m : ℕ) (hyps : List Term) (fields : List (List ℕ)) (ts : List Term) (ds : Fields) → OkFields q n names m hyps fields ts ds → Ok q n names m hyps (op.record_of fields ts) (Record ds)
ok_record q n names m hyps fields ts ds x = record {
  later = x.later;
  goes = x.goes;
  known = x.known;
  means = λ u a. record_means u fields ts ∙ ap Record (x.means u a);
  is = (record_sorted fields x.are).has;
}

-- an answer without a step
pub ok_leaf : (q : Bool) (n : ℕ) (names : Names) (hyps : List Term) (t : Term) (d : Datum) → Known n names hyps → Means n names t d → HasSort t val_sort → Ok q n names n hyps t d
ok_leaf q n names hyps t d h g is = record { later = names; goes = goes_refl q n names; known = h; means = g; is = is }

pub ok_call : (q : Bool) (n : ℕ) (names : Names) (m1 m2 : ℕ) (h1 h2 : List Term) (ts : List Term) (ds : List Datum) (t : Term) (d : Datum) → q ≡ false → n ≤ m1 → (x : OkAll q n names m1 h1 ts ds) → Ok false m1 x.later m2 h2 t d → Ok q n names m2 h2 t d
ok_call false n names m1 m2 h1 h2 ts ds t d e le x y = record { later = y.later; goes = agree_trans n m1 names x.later y.later le x.goes y.goes; known = y.known; means = y.means; is = y.is }
ok_call true n names m1 m2 h1 h2 ts ds t d e le x y = absurd cc

-- the answer of a test
pub ok_test : (q : Bool) (n : ℕ) (names : Names) (m1 m2 : ℕ) (hyps : List Term) (t f : Term) (d : Datum) (b : Bool) → m1 ≤ m2 → (x : Ok q n names m1 hyps t d) → ((u : Names) → Agree m1 x.later u → (sense u f).truth ≡ b) → IsOf formula_sort f → Ok q n names m2 hyps (value_of f) (Truth b)
ok_test q n names m1 m2 hyps t f d b le x tells is = record {
  later = x.later;
  goes = x.goes;
  known = known_later m1 m2 x.later x.later hyps le (agree_refl m1 x.later) x.known;
  means = λ u a. value_means u f ∙ ap Truth (tells u (agree_less m1 m2 x.later u le a));
  is = (value_sorted is).has;
}

pub test_end : (q : Bool) (n : ℕ) (names : Names) (m : ℕ) (hyps : List Term) (f : Term) (b : Bool) (o : Outcome Bool) → Answers b o → Ok q n names m hyps (value_of f) (Truth b) → Good (Unit {0}) (o >>= (λ c. Done (Truth c))) (Ok q n names m hyps (value_of f))
test_end q n names m hyps f b (Done c j) e x = subst (λ (z : Bool). Ok q n names m hyps (value_of f) (Truth z)) (sym e) x
test_end q n names m hyps f b (Fault why at j) e x = absurd e
test_end q n names m hyps f b (More j) e x = tt
test_end q n names m hyps f b Spent e x = tt

pub needed_end : (A : Type 0) (at : ℕ) (q : Bool) (n : ℕ) (names : Names) (m : ℕ) (hyps : List Term) (t : Term) (r : Option Datum) (k : Meter) (d : Datum) → r ≡ Some d → Ok q n names m hyps t d → Good A (needed at r Done k) (Ok q n names m hyps t)
needed_end A at q n names m hyps t r k d e x = subst (λ (o : Option Datum). Good A (needed at o Done k) (Ok q n names m hyps t)) (sym e) x

-- a number and another one, by the terms that mean them
pub numbers_end : (A : Type 0) (at : ℕ) (c d : Datum) (next : ℤ → ℤ → Run Datum) (P : Datum → Type 0) (k : Meter) → IsWhole c → IsWhole d → ((x y : ℤ) → c ≡ Whole x → d ≡ Whole y → Good A (next x y k) P) → Good A (as_number at c (λ x. as_number at d (λ y. next x y)) k) P
numbers_end A at (Whole x) (Whole y) next P k h g f = f x y refl refl
numbers_end A at (Whole x) Null next P k h g f = absurd g
numbers_end A at (Whole x) (Truth b) next P k h g f = absurd g
numbers_end A at (Whole x) (Array ds) next P k h g f = absurd g
numbers_end A at (Whole x) (Record fs) next P k h g f = absurd g
numbers_end A at Null d next P k h g f = absurd h
numbers_end A at (Truth b) d next P k h g f = absurd h
numbers_end A at (Array ds) d next P k h g f = absurd h
numbers_end A at (Record fs) d next P k h g f = absurd h
