-- What is said of types stays the same by two readings of `in`, where these agree on what is asked.
use Rattle.std.proofs.Common.{◌≡◌, ℕ, zero, suc, ◌≤◌, Bool, true, false, ◌&&◌, List, [], ◌∷◌, pos, Option, Some, None, refl, sym, ap, ◌∙◌, subst, arith}
use Rattle.wy_check_laws.specs.wy_value.Datum.{Datum}
use Rattle.wy_check_laws.specs.wy_value.declared.bounds.TheConstants.{INT_MIN, INT_MAX}
use Rattle.wy_sound_terms.specs.wy_core.Types.{Ty, NullTy, BoolTy, IntTy, AnyTy, VoidTy, RecordTy, ArrayTy, UnionTy, InterTy, NotTy, NamedTy, NormalTy, FieldTys, NoFieldTys, MoreFieldTys}
use Rattle.wy_sound_terms.specs.wy_core.CoreTree.{Expr, NullExpr, BoolExpr, IntExpr, VarExpr, CallExpr, NegExpr, NotExpr, LenExpr, BinaryExpr, IsExpr, IndexExpr, FieldExpr, ListExpr, RepeatExpr, RecordExpr, QuantExpr, Exprs, NoExprs, MoreExprs, Fields, NoFields, MoreFields}
use Rattle.wy_check_laws.specs.wy_term.Term as term
use Rattle.wy_check_laws.specs.wy_term.Term.{Term, Of, no_parts, part, null_kind, bool_kind, int_kind, array_kind, record_kind}
use Rattle.wy_check_laws.specs.wy_term.Data as shapes
use Rattle.wy_check_laws.specs.wy_term.Meaning.{Names, sense, senses_of, all_hold}
use Rattle.wy_check_laws.specs.wy_term.Sorts.{int_sort, val_sort, formula_sort}
use Rattle.wy_sound_terms.proofs.wy_term_subst_proofs.sorted_lemmas.SortedLemmas.{folding_kept}
use Rattle.wy_sound_terms.specs.wy_term_subst.grounded.Readings.{with_members}
use Rattle.wy_sound_terms.specs.wy_sem.Expressions.{node}
use Rattle.wy_sound_terms.specs.wy_vc_spec.Making.{parts_of, int_name, len, number_of, get, field, all_of, of_kind, at_most, bound}
use Rattle.wy_sound_terms.specs.wy_vc_spec.Variables.{Vars, slot_at, put, put_if}
use Rattle.wy_sound_terms.specs.wy_vc_spec.Values.{Naming, Setting, k_word, word_at, or_null, is_int, names_of, holds, fields_hold, value, values, field_values, field_names, clause_formula, clause_formulas}
use Rattle.wy_sound_terms.proofs.formed_lemmas.MakingLemmas.{IsOf, AllOf, none, more, parts_sorted, kind_sorted, at_most_sorted, len_sorted, number_sorted, bound_sorted, get_sorted, field_sorted, int_name_sorted, all_sorted}
use Rattle.wy_sound_terms.proofs.formed_lemmas.ValueLemmas.{SaysFormulas, holds_sorted}
use Rattle.wy_vc_laws.specs.grounded.Uses.{NamesAll, AllNamesAll, NamesBare, TestsAll, AllTestAll, FieldsTestAll, ClausesTestAll}
use Rattle.wy_vc_laws.proofs.grounded_lemmas.SizeLemmas.{size, element_size, field_size, no_array, no_record}
use Rattle.wy_vc_laws.proofs.grounded_lemmas.SteadyLemmas.{Two, Fits, IsSteady, AllSteady, none', more', number_steady, int_name_steady, num_steady, len_steady, null_steady, truth_steady, int_steady, value_steady, get_steady, field_steady, all_steady, any_steady, falsehood_steady, denied_steady, at_most_steady, kind_steady, formula_steady, bound_steady, negated_steady, denial_steady, length_steady, element_steady, repeated_steady, list_steady, record_steady, operated_steady, quantified_steady}

pub data IsSteadyIf (r : Two) : Option Term → Type 0 where
  nothing : IsSteadyIf r None
  something : {t : Term} → IsSteady r val_sort t → IsSteadyIf r (Some t)

pub data AreSteady (r : Two) : Vars → Type 0 where
  no_vars : AreSteady r []
  next : {v : Option Term} {vs : Vars} → IsSteadyIf r v → AreSteady r vs → AreSteady r (v ∷ vs)

-- what is said of these names and of such terms stays
pub record SaysSteadily (r : Two) (named : Naming) (P : ℕ → Type 0) (Asked : Term → Type 0) : Type 0 where
  pub says : (number : ℕ) (n : ℕ) {v : Term} → P number → IsSteady r val_sort v → Asked v → IsSteady r formula_sort (named number v n).term

-- the Val terms of which something is said: parts of one are such terms again
pub record AreParts (Asked : Term → Type 0) : Type 0 where
  pub element : (n : ℕ) {v : Term} → IsOf val_sort v → Asked v → Asked (get v (int_name k_word n))
  pub part_of : (name : List ℕ) {v : Term} → IsOf val_sort v → Asked v → Asked (field name v)

module _ (r : Two) where
  -- ---- terms that stand for small data

  -- the term stands for a datum of no more than this size
  abbrev pub IsSmall : ℕ → Term → Type 0
  IsSmall i v = (names : Names) → Fits r names → size (sense (with_members names r.first) v).datum ≤ i

  get_is : {v s : Term} → IsOf val_sort v → IsOf int_sort s → (names : Names) → (sense names (get v s)).datum ≡ shapes.element (sense names v).datum (sense names s).number
  get_is {v} {s} h g names = folding_kept (Of term.get (part v (part s no_parts))) names (h.has.1, h.has.0, (g.has.1, g.has.0, tt))

  field_is : (name : List ℕ) {v : Term} → IsOf val_sort v → (names : Names) → (sense names (field name v)).datum ≡ shapes.field_in (sense names v).datum name
  field_is name {v} h names = folding_kept (Of (term.field name) (part v no_parts)) names (h.has.1, h.has.0, tt)

  of_size : (i : ℕ) (d e : Datum) → d ≡ e → size e ≤ i → size d ≤ i
  of_size i d e same le = subst (λ (x : Datum). size x ≤ i) (sym same) le

  get_small : (i : ℕ) {v s : Term} → IsOf val_sort v → IsOf int_sort s → IsSmall (suc i) v → IsSmall i (get v s)
  get_small i {v} {s} h g small names fits =
      let on = with_members names r.first in
      of_size i (sense on (get v s)).datum (shapes.element (sense on v).datum (sense on s).number) (get_is h g on) (element_size (sense on v).datum (sense on s).number i (small names fits))

  field_small : (i : ℕ) (name : List ℕ) {v : Term} → IsOf val_sort v → IsSmall (suc i) v → IsSmall i (field name v)
  field_small i name {v} h small names fits =
      let on = with_members names r.first in
      of_size i (sense on (field name v)).datum (shapes.field_in (sense on v).datum name) (field_is name h on) (field_size (sense on v).datum name i (small names fits))

  one_more : (i : ℕ) (v : Term) → IsSmall i v → IsSmall (suc i) v
  one_more i v small names fits = let le : size (sense (with_members names r.first) v).datum ≤ i = small names fits in omega (arith, le)

  -- ---- types

  pub small_parts : (i : ℕ) → AreParts (IsSmall i)
  small_parts i = record {
    element = λ n {v} h small. get_small i h (int_name_sorted k_word n) (one_more i v small);
    part_of = λ name {v} h small. field_small i name h (one_more i v small);
  }

  pub any_parts : AreParts (λ v. Unit {0})
  any_parts = record { element = λ n h g. tt; part_of = λ name h g. tt }

  int_stays : {v : Term} → IsSteady r val_sort v → IsSteady r formula_sort (is_int v)
  int_stays h =
      all_steady r (more' (kind_steady r int_kind h) (more' (at_most_steady r (number_steady r INT_MIN) (num_steady r h)) (more' (at_most_steady r (num_steady r h) (number_steady r INT_MAX)) none')))

  module _ (named : Naming) (P : ℕ → Type 0) (Asked : Term → Type 0) (says : SaysSteadily r named P Asked) (parts : AreParts Asked) where
    mutual
      pub holds_steady : (t : Ty) (n : ℕ) {v : Term} → NamesAll P t → IsSteady r val_sort v → Asked v → IsSteady r formula_sort (holds named t v n).term
      holds_steady NullTy n f h a = kind_steady r null_kind h
      holds_steady BoolTy n f h a = kind_steady r bool_kind h
      holds_steady IntTy n f h a = int_stays h
      holds_steady AnyTy n f h a = all_steady r none'
      holds_steady VoidTy n f h a = falsehood_steady r
      holds_steady (RecordTy fields) n f h a = all_steady r (more' (kind_steady r (record_kind (names_of fields)) h) (fields_steady fields n f h a))
      holds_steady (ArrayTy item) n f h a =
          all_steady r
          (more' (kind_steady r array_kind h)
          (more' (at_most_steady r (len_steady r h) (number_steady r (pos 9223372036854775807)))
          (more' (bound_steady r true k_word n (number_steady r (pos 0)) (len_steady r h) (holds_steady item (suc n) f (get_steady r h (int_name_steady r k_word n)) (parts.element n h.is a))) none')))
      holds_steady (UnionTy s t) n {v} f h a = any_steady r (more' (holds_steady s n f.0 h a) (more' (holds_steady t (holds named s v n).count f.1 h a) none'))
      holds_steady (InterTy s t) n {v} f h a = all_steady r (more' (holds_steady s n f.0 h a) (more' (holds_steady t (holds named s v n).count f.1 h a) none'))
      holds_steady (NotTy t) n f h a = denied_steady r (holds_steady t n f h a)
      holds_steady (NamedTy number) n f h a = says.says number n f h a
      holds_steady (NormalTy union) n f h a = falsehood_steady r

      pub fields_steady : (fields : FieldTys) (n : ℕ) {v : Term} → AllNamesAll P fields → IsSteady r val_sort v → Asked v → AllSteady r formula_sort (fields_hold named fields v n).terms
      fields_steady NoFieldTys n f h a = none'
      fields_steady (MoreFieldTys name t fields) n {v} f h a =
          more' (holds_steady t n f.0 (field_steady r name h) (parts.part_of name h.is a)) (fields_steady fields (holds named t (field name v) n).count f.1 h a)

  -- ---- types whose names outside of records and arrays are asked of the datum itself

  -- an `and` whose first member is false
  first_false : (f : Term) (fs : List Term) (names : Names) → IsOf formula_sort f → AllOf formula_sort fs → (sense names f).truth ≡ false → (sense names (all_of (f ∷ fs))).truth ≡ false
  first_false f fs names h all e =
      folding_kept (Of term.all_of (parts_of (f ∷ fs))) names (parts_sorted (more h all)) ∙ ap (λ (b : Bool). b && all_hold (senses_of (parts_of fs)) names) e

  kind_is : (kind : term.DataKind) {v : Term} → IsOf val_sort v → (names : Names) → (sense names (of_kind kind v)).truth ≡ shapes.is_of_kind kind (sense names v).datum
  kind_is kind {v} h names = folding_kept (Of (term.of_kind kind) (part v no_parts)) names (h.has.1, h.has.0, tt)

  -- what is of size 0 by the first reading is so by the second
  small_second : (i : ℕ) {v : Term} → IsSteady r val_sort v → IsSmall i v → (names : Names) → Fits r names → size (sense (with_members names r.second) v).datum ≤ i
  small_second i {v} h small names fits = subst (λ (d : Datum). size d ≤ i) (h.same names fits) (small names fits)

  -- nothing of size 0 is of this kind
  abbrev NoSuch : term.DataKind → Type 0
  NoSuch kind = (d : Datum) → size d ≤ 0 → shapes.is_of_kind kind d ≡ false

  kind_fails : (kind : term.DataKind) (fs : List Term) {v : Term} → NoSuch kind → IsSteady r val_sort v → IsSmall 0 v → AllOf formula_sort fs → IsSteady r formula_sort (all_of (of_kind kind v ∷ fs))
  kind_fails kind fs {v} never h small all = record {
    is = all_sorted (more (kind_sorted kind h.is) all);
    same = λ names fits. fails (with_members names r.first) (small names fits) ∙ sym (fails (with_members names r.second) (small_second 0 h small names fits));
  }
    where
      fails : (on : Names) → size (sense on v).datum ≤ 0 → (sense on (all_of (of_kind kind v ∷ fs))).truth ≡ false
      fails on le = first_false (of_kind kind v) fs on (kind_sorted kind h.is) all (kind_is kind h.is on ∙ never (sense on v).datum le)

  fields_formulas : {named : Naming} → SaysFormulas named → (fields : FieldTys) (n : ℕ) {v : Term} → IsOf val_sort v → AllOf formula_sort (fields_hold named fields v n).terms
  fields_formulas says NoFieldTys n h = none
  fields_formulas {named} says (MoreFieldTys f t fields) n {v} h = more (holds_sorted says t n (field_sorted f h)) (fields_formulas says fields (holds named t (field f v) n).count h)

  module _ (named : Naming) (formulas : SaysFormulas named) (P Q : ℕ → Type 0) where
    -- what is said of names of the datum, of no more than this size, and of smaller parts of it
    pub record SaysBySize (j : ℕ) : Type 0 where
      pub whole : SaysSteadily r named P (IsSmall j)
      pub inner : (i : ℕ) → j ≡ suc i → SaysSteadily r named Q (IsSmall i)

    record_by_size : (j : ℕ) (fields : FieldTys) (n : ℕ) {v : Term} → SaysBySize j → AllNamesAll Q fields → IsSteady r val_sort v → IsSmall j v → IsSteady r formula_sort (holds named (RecordTy fields) v n).term
    record_by_size zero fields n {v} says f h small = kind_fails (record_kind (names_of fields)) (fields_hold named fields v n).terms (no_record (names_of fields)) h small (fields_formulas formulas fields n h.is)
    record_by_size (suc i) fields n {v} says f h small = all_steady r (more' (kind_steady r (record_kind (names_of fields)) h) (parts_steady fields n f))
      where
        parts_steady : (tys : FieldTys) (n : ℕ) → AllNamesAll Q tys → AllSteady r formula_sort (fields_hold named tys v n).terms
        parts_steady NoFieldTys n f = none'
        parts_steady (MoreFieldTys name t tys) n f =
            more' (holds_steady named Q (IsSmall i) (says.inner i refl) (small_parts i) t n f.0 (field_steady r name h) (field_small i name h.is small)) (parts_steady tys (holds named t (field name v) n).count f.1)

    array_by_size : (j : ℕ) (item : Ty) (n : ℕ) {v : Term} → SaysBySize j → NamesAll Q item → IsSteady r val_sort v → IsSmall j v → IsSteady r formula_sort (holds named (ArrayTy item) v n).term
    array_by_size zero item n {v} says f h small =
        kind_fails array_kind (at_most (len v) (number_of (pos 9223372036854775807)) ∷ bound true k_word n (number_of (pos 0)) (len v) (holds named item (get v (int_name k_word n)) (suc n)).term ∷ []) no_array h small
        (more (at_most_sorted (len_sorted h.is) (number_sorted (pos 9223372036854775807)))
        (more (bound_sorted true k_word n (number_sorted (pos 0)) (len_sorted h.is) (holds_sorted formulas item (suc n) (get_sorted h.is (int_name_sorted k_word n)))) none))
    array_by_size (suc i) item n {v} says f h small =
        all_steady r
        (more' (kind_steady r array_kind h)
        (more' (at_most_steady r (len_steady r h) (number_steady r (pos 9223372036854775807)))
        (more' (bound_steady r true k_word n (number_steady r (pos 0)) (len_steady r h)
        (holds_steady named Q (IsSmall i) (says.inner i refl) (small_parts i) item (suc n) f (get_steady r h (int_name_steady r k_word n)) (get_small i h.is (int_name_sorted k_word n) small))) none')))

    pub holds_by_size : (t : Ty) (j n : ℕ) {v : Term} → SaysBySize j → NamesBare P Q t → IsSteady r val_sort v → IsSmall j v → IsSteady r formula_sort (holds named t v n).term
    holds_by_size NullTy j n says f h small = kind_steady r null_kind h
    holds_by_size BoolTy j n says f h small = kind_steady r bool_kind h
    holds_by_size IntTy j n says f h small = int_stays h
    holds_by_size AnyTy j n says f h small = all_steady r none'
    holds_by_size VoidTy j n says f h small = falsehood_steady r
    holds_by_size (RecordTy fields) j n says f h small = record_by_size j fields n says f h small
    holds_by_size (ArrayTy item) j n says f h small = array_by_size j item n says f h small
    holds_by_size (UnionTy s t) j n {v} says f h small = any_steady r (more' (holds_by_size s j n says f.0 h small) (more' (holds_by_size t j (holds named s v n).count says f.1 h small) none'))
    holds_by_size (InterTy s t) j n {v} says f h small = all_steady r (more' (holds_by_size s j n says f.0 h small) (more' (holds_by_size t j (holds named s v n).count says f.1 h small) none'))
    holds_by_size (NotTy t) j n says f h small = denied_steady r (holds_by_size t j n says f h small)
    holds_by_size (NamedTy number) j n says f h small = says.whole.says number n f h small
    holds_by_size (NormalTy union) j n says f h small = falsehood_steady r

  -- ---- variables

  put_steady : {vs : Vars} {t : Term} (x : ℕ) → AreSteady r vs → IsSteady r val_sort t → AreSteady r (put vs x t)
  put_steady zero no_vars h = next (something h) no_vars
  put_steady (suc x) no_vars h = next nothing (put_steady x no_vars h)
  put_steady zero (next g vs) h = next (something h) vs
  put_steady (suc x) (next g vs) h = next g (put_steady x vs h)

  pub put_if_steady : {vs : Vars} {t : Term} (x : Option ℕ) → AreSteady r vs → IsSteady r val_sort t → AreSteady r (put_if vs x t)
  put_if_steady None vs h = vs
  put_if_steady (Some x) vs h = put_steady x vs h

  slot_steady : {vs : Vars} → AreSteady r vs → (x : ℕ) → IsSteadyIf r (slot_at vs x)
  slot_steady no_vars x = nothing
  slot_steady (next g vs) zero = g
  slot_steady (next g vs) (suc x) = slot_steady vs x

  or_null_steady : {o : Option Term} → IsSteadyIf r o → IsSteady r val_sort (or_null o)
  or_null_steady nothing = null_steady r
  or_null_steady (something h) = h

  -- ---- expressions

  module _ {N : Type 0} (s : Setting N) (named : Naming) (P : ℕ → Type 0) (says : SaysSteadily r named P (λ v. Unit {0})) (words : List (List ℕ)) where
    mutual
      term_steady : (e : Expr N) (n : ℕ) {vars : Vars} → TestsAll P e → AreSteady r vars → IsSteady r val_sort (value s named words e vars n).term
      term_steady (NullExpr k) n f d = null_steady r
      term_steady (BoolExpr k b) n f d = truth_steady r b
      term_steady (IntExpr k z) n f d = int_steady r (number_steady r z)
      term_steady (VarExpr k x) n f d = or_null_steady (slot_steady d x)
      term_steady (CallExpr k routine args) n f d = null_steady r
      term_steady (NegExpr k a) n f d = negated_steady r (term_steady a n f d)
      term_steady (NotExpr k a) n f d = denial_steady r (term_steady a n f d)
      term_steady (LenExpr k a) n f d = length_steady r (term_steady a n f d)
      term_steady (BinaryExpr k o a b) n {vars} f d =
          operated_steady r o (s.is_number (node a) && s.is_number (node b)) (term_steady a n f.0 d) (term_steady b (value s named words a vars n).count f.1 d)
      term_steady (IsExpr k a t) n {vars} f d =
          value_steady r (holds_steady named P (λ v. Unit {0}) says any_parts t (value s named words a vars n).count f.1 (term_steady a n f.0 d) tt)
      term_steady (IndexExpr k a b) n {vars} f d = element_steady r (term_steady a n f.0 d) (term_steady b (value s named words a vars n).count f.1 d)
      term_steady (FieldExpr k a name) n f d = field_steady r name (term_steady a n f d)
      term_steady (ListExpr k items) n f d = list_steady r (terms_steady items n f d)
      term_steady (RepeatExpr k a b) n {vars} f d = repeated_steady r (term_steady a n f.0 d) (term_steady b (value s named words a vars n).count f.1 d)
      term_steady (RecordExpr k fields) n f d = record_steady r (field_names fields) (field_terms_steady fields n f d)
      term_steady (QuantExpr k all x a b body) n {vars} f d =
          let m = (value s named words b vars (value s named words a vars n).count).count in
          quantified_steady r all (word_at words x) m (term_steady a n f.0 d) (term_steady b (value s named words a vars n).count f.1 d) (term_steady body (suc m) f.2 (put_steady x d (int_steady r (int_name_steady r (word_at words x) m))))

      terms_steady : (es : Exprs N) (n : ℕ) {vars : Vars} → AllTestAll P es → AreSteady r vars → AllSteady r val_sort (values s named words es vars n).terms
      terms_steady NoExprs n f d = none'
      terms_steady (MoreExprs e es) n {vars} f d = more' (term_steady e n f.0 d) (terms_steady es (value s named words e vars n).count f.1 d)

      field_terms_steady : (fs : Fields N) (n : ℕ) {vars : Vars} → FieldsTestAll P fs → AreSteady r vars → AllSteady r val_sort (field_values s named words fs vars n).terms
      field_terms_steady NoFields n f d = none'
      field_terms_steady (MoreFields name e fs) n {vars} f d = more' (term_steady e n f.0 d) (field_terms_steady fs (value s named words e vars n).count f.1 d)

    pub clauses_steady : (es : List (Expr N)) (n : ℕ) {vars : Vars} → ClausesTestAll P es → AreSteady r vars → AllSteady r formula_sort (clause_formulas s named words es vars n).terms
    clauses_steady [] n f d = none'
    clauses_steady (e ∷ es) n {vars} f d = more' (formula_steady r (term_steady e n f.0 d)) (clauses_steady es (clause_formula s named words e vars n).count f.1 d)
