-- What terms and formulas mean that are folded as they are made.
use Rattle.std.proofs.Common.{◌≡◌, ℕ, List, [], ◌∷◌, Bool, true, false, not, ◌&&◌, ◌||◌, ℤ, pos, neg_ℤ, ◌+ℤ◌, ◌-ℤ◌, ◌*ℤ◌, int_le, int_lt, refl, sym, ap, ◌∙◌}
use Rattle.wy_term_subst.specs.wy_value.Datum.{Datum, Null, Truth, Whole, Array, Record}
use Rattle.wy_term_subst.specs.wy_term.Term as term
use Rattle.wy_term_subst.specs.wy_term.Term.{DataKind, Symbol, Term, Of, no_parts, part}
use Rattle.wy_term_subst.specs.wy_term.Data as shapes
use Rattle.wy_term_subst.specs.wy_term.Meaning.{Names, sense, senses_of, data_in, all_hold, any_holds}
use Rattle.wy_term_subst.proofs.wy_term_proofs.FoldingLemmas.{folding_keeps_meaning}
use Rattle.wy_vc_spec.specs.Making.{parts_of, of_one, of_two, of_three, of_all, num, len, null, truth, int, value_of, get, field, all_of, any_of, denied, at_most, less_than, equal, of_kind, in_type, formula}
use Rattle.wy_vc_spec.specs.wy_sem.Operations.{same}
use Rattle.wy_sound_terms.proofs.operations_lemmas.NumberLemmas.{at_most_is, below_is}
use Rattle.wy_sound_terms.proofs.operations_lemmas.DataLemmas.{same_is}

module _ (names : Names) where
  abbrev pub number : Term → ℤ
  number t = (sense names t).number

  abbrev pub datum : Term → Datum
  datum t = (sense names t).datum

  abbrev pub holds : Term → Bool
  holds t = (sense names t).truth

  -- ---- Int terms

  pub num_means : (v : Term) → number (num v) ≡ shapes.number_in (datum v)
  num_means v = folding_keeps_meaning (Of term.num (part v no_parts)) names tt

  pub len_means : (v : Term) → number (len v) ≡ shapes.length_in (datum v)
  len_means v = folding_keeps_meaning (Of term.len (part v no_parts)) names tt

  pub add_means : (s t : Term) → number (of_two term.add s t) ≡ number s +ℤ number t
  add_means s t = folding_keeps_meaning (Of term.add (part s (part t no_parts))) names tt

  pub sub_means : (s t : Term) → number (of_two term.sub s t) ≡ number s -ℤ number t
  sub_means s t = folding_keeps_meaning (Of term.sub (part s (part t no_parts))) names tt

  pub mul_means : (s t : Term) → number (of_two term.mul s t) ≡ number s *ℤ number t
  mul_means s t = folding_keeps_meaning (Of term.mul (part s (part t no_parts))) names tt

  pub div_means : (s t : Term) → number (of_two term.div s t) ≡ shapes.quotient (number s) (number t)
  div_means s t = folding_keeps_meaning (Of term.div (part s (part t no_parts))) names tt

  pub rem_means : (s t : Term) → number (of_two term.rem s t) ≡ shapes.remainder (number s) (number t)
  rem_means s t = folding_keeps_meaning (Of term.rem (part s (part t no_parts))) names tt

  pub neg_means : (s : Term) → number (of_one term.neg s) ≡ neg_ℤ (number s)
  neg_means s = folding_keeps_meaning (Of term.neg (part s no_parts)) names tt

  -- ---- Val terms

  pub int_means : (s : Term) → datum (int s) ≡ Whole (number s)
  int_means s = folding_keeps_meaning (Of term.int (part s no_parts)) names tt

  pub value_means : (f : Term) → datum (value_of f) ≡ Truth (holds f)
  value_means f = folding_keeps_meaning (Of term.bool (part f no_parts)) names tt

  pub get_means : (v s : Term) → datum (get v s) ≡ shapes.element (datum v) (number s)
  get_means v s = folding_keeps_meaning (Of term.get (part v (part s no_parts))) names tt

  pub field_means : (name : List ℕ) (v : Term) → datum (field name v) ≡ shapes.field_in (datum v) name
  field_means name v = folding_keeps_meaning (Of (term.field name) (part v no_parts)) names tt

  pub repeat_means : (v s : Term) → datum (of_two term.repeat v s) ≡ shapes.repeated (datum v) (number s)
  repeat_means v s = folding_keeps_meaning (Of term.repeat (part v (part s no_parts))) names tt

  pub update_means : (v s w : Term) → datum (of_three term.update v s w) ≡ shapes.with_element (datum v) (number s) (datum w)
  update_means v s w = folding_keeps_meaning (Of term.update (part v (part s (part w no_parts)))) names tt

  pub set_field_means : (name : List ℕ) (v w : Term) → datum (of_two (term.set_field name) v w) ≡ shapes.with_field (datum v) name (datum w)
  set_field_means name v w = folding_keeps_meaning (Of (term.set_field name) (part v (part w no_parts))) names tt

  -- the data of several terms
  abbrev pub each_datum : List Term → List Datum
  each_datum [] = []
  each_datum (t ∷ ts) = datum t ∷ each_datum ts

  data_are : (ts : List Term) → data_in (senses_of (parts_of ts)) names ≡ each_datum ts
  data_are [] = refl
  data_are (t ∷ ts) = ap (λ (ds : List Datum). datum t ∷ ds) (data_are ts)

  pub array_means : (ts : List Term) → datum (of_all term.array ts) ≡ Array (shapes.items_with (each_datum ts))
  array_means ts = folding_keeps_meaning (Of term.array (parts_of ts)) names tt ∙ ap (λ (ds : List Datum). Array (shapes.items_with ds)) (data_are ts)

  pub record_means : (fs : List (List ℕ)) (ts : List Term) → datum (of_all (term.fields fs) ts) ≡ Record (shapes.fields_with fs (each_datum ts))
  record_means fs ts = folding_keeps_meaning (Of (term.fields fs) (parts_of ts)) names tt ∙ ap (λ (ds : List Datum). Record (shapes.fields_with fs ds)) (data_are ts)

  -- ---- formulas

  pub at_most_means : (s t : Term) → holds (at_most s t) ≡ int_le (number s) (number t)
  at_most_means s t = folding_keeps_meaning (Of term.at_most (part s (part t no_parts))) names tt ∙ at_most_is (number s) (number t)

  pub denied_means : (f : Term) → holds (denied f) ≡ not (holds f)
  denied_means f = folding_keeps_meaning (Of term.denied (part f no_parts)) names tt

  pub less_means : (s t : Term) → holds (less_than s t) ≡ int_lt (number s) (number t)
  less_means s t = denied_means (at_most t s) ∙ ap not (folding_keeps_meaning (Of term.at_most (part t (part s no_parts))) names tt) ∙ below_is (number s) (number t)

  pub equal_means : (v w : Term) → holds (equal v w) ≡ same (datum v) (datum w)
  equal_means v w = folding_keeps_meaning (Of term.equal (part v (part w no_parts))) names tt ∙ same_is (datum v) (datum w)

  pub kind_means : (kind : DataKind) (v : Term) → holds (of_kind kind v) ≡ shapes.is_of_kind kind (datum v)
  kind_means kind v = folding_keeps_meaning (Of (term.of_kind kind) (part v no_parts)) names tt

  pub in_type_means : (n : ℕ) (v : Term) → holds (in_type n v) ≡ names.is_member n (datum v)
  in_type_means n v = folding_keeps_meaning (Of (term.in_type n) (part v no_parts)) names tt

  -- a truth value as a formula
  pub formula_means : (v : Term) (b : Bool) → datum v ≡ Truth b → holds (formula v) ≡ b
  formula_means v b e = equal_means v (truth true) ∙ ap (λ (d : Datum). same d (Truth true)) e ∙ only b where
    only : (c : Bool) → same (Truth c) (Truth true) ≡ c
    only true = refl
    only false = refl

  -- all of these hold, one of these holds
  abbrev pub all : List Term → Bool
  all [] = true
  all (f ∷ fs) = holds f && all fs

  abbrev pub some : List Term → Bool
  some [] = false
  some (f ∷ fs) = holds f || some fs

  all_are : (fs : List Term) → all_hold (senses_of (parts_of fs)) names ≡ all fs
  all_are [] = refl
  all_are (f ∷ fs) = ap (λ (b : Bool). holds f && b) (all_are fs)

  some_are : (fs : List Term) → any_holds (senses_of (parts_of fs)) names ≡ some fs
  some_are [] = refl
  some_are (f ∷ fs) = ap (λ (b : Bool). holds f || b) (some_are fs)

  pub all_means : (fs : List Term) → holds (all_of fs) ≡ all fs
  all_means fs = folding_keeps_meaning (Of term.all_of (parts_of fs)) names tt ∙ all_are fs

  pub some_means : (fs : List Term) → holds (any_of fs) ≡ some fs
  some_means fs = folding_keeps_meaning (Of term.any_of (parts_of fs)) names tt ∙ some_are fs
