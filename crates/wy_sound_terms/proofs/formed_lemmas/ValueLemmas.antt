-- The terms of expressions are Val terms, and what says that a datum is in a type is a formula.
use Rattle.std.proofs.Common.{ℕ, zero, suc, List, [], ◌∷◌, length, true, ◌&&◌, Option, Some, None, pos}
use Rattle.wy_vc_spec.specs.wy_core.Types.{Ty, NullTy, BoolTy, IntTy, AnyTy, VoidTy, RecordTy, ArrayTy, UnionTy, InterTy, NotTy, NamedTy, NormalTy, FieldTys, NoFieldTys, MoreFieldTys}
use Rattle.wy_vc_spec.specs.wy_core.CoreTree.{Expr, NullExpr, BoolExpr, IntExpr, VarExpr, CallExpr, NegExpr, NotExpr, LenExpr, BinaryExpr, IsExpr, IndexExpr, FieldExpr, ListExpr, RepeatExpr, RecordExpr, QuantExpr, Exprs, NoExprs, MoreExprs, Fields, NoFields, MoreFields, Alias}
use Rattle.wy_lemmas.proofs.Choices.{pick}
use Rattle.wy_term_subst.specs.wy_value.declared.bounds.TheConstants.{INT_MIN, INT_MAX}
use Rattle.wy_term_subst.specs.wy_term.Term.{Term, null_kind, bool_kind, int_kind, array_kind, record_kind}
use Rattle.wy_term_subst.specs.wy_term.Sorts.{val_sort, formula_sort}
use Rattle.wy_vc_spec.specs.wy_sem.Expressions.{node}
use Rattle.wy_vc_spec.specs.wy_sem.TypeTests.{alias_at}
use Rattle.wy_vc_spec.specs.Named.{is_written}
use Rattle.wy_vc_spec.specs.Making.{field}
use Rattle.wy_vc_spec.specs.Variables.{Vars, slot_at, put, put_if}
use Rattle.wy_vc_spec.specs.Values.{Naming, Setting, k_word, x_word, word_at, word_if, or_null, variable, is_int, names_of, holds, fields_hold, value, values, field_values, field_names, clause_formula, clause_formulas, defined, named_to, named_in, Valued, test_formula}
use Rattle.wy_sound_terms.proofs.formed_lemmas.MakingLemmas.{IsOf, AllOf, none, more, number_sorted, int_name_sorted, num_sorted, len_sorted, val_name_sorted, null_sorted, truth_sorted, int_sorted, value_sorted, get_sorted, field_sorted, all_sorted, any_sorted, falsehood_sorted, denied_sorted, at_most_sorted, kind_sorted, in_type_sorted, formula_sorted, bound_sorted, negated_sorted, denial_sorted, length_sorted, element_sorted, repeated_sorted, list_sorted, record_sorted, operated_sorted, quantified_sorted}

-- ---- variables

-- a Val term, if there is one
pub data IsDatum : Option Term → Type 0 where
  no_datum : IsDatum None
  datum : {t : Term} → IsOf val_sort t → IsDatum (Some t)

-- each variable that has a term has a Val term
pub data AreData : Vars → Type 0 where
  no_data : AreData []
  next : {v : Option Term} {vs : Vars} → IsDatum v → AreData vs → AreData (v ∷ vs)

pub put_data : {vs : Vars} {t : Term} (x : ℕ) → AreData vs → IsOf val_sort t → AreData (put vs x t)
put_data zero no_data h = next (datum h) no_data
put_data (suc x) no_data h = next no_datum (put_data x no_data h)
put_data zero (next g data') h = next (datum h) data'
put_data (suc x) (next g data') h = next g (put_data x data' h)

pub put_if_data : {vs : Vars} {t : Term} (x : Option ℕ) → AreData vs → IsOf val_sort t → AreData (put_if vs x t)
put_if_data None data' h = data'
put_if_data (Some x) data' h = put_data x data' h

pub slot_datum : {vs : Vars} → AreData vs → (x : ℕ) → IsDatum (slot_at vs x)
slot_datum no_data x = no_datum
slot_datum (next g data') zero = g
slot_datum (next g data') (suc x) = slot_datum data' x

or_null_sorted : {o : Option Term} → IsDatum o → IsOf val_sort (or_null o)
or_null_sorted no_datum = null_sorted
or_null_sorted (datum h) = h

pub variable_sorted : {vs : Vars} → AreData vs → (x : ℕ) → IsOf val_sort (variable vs x)
variable_sorted data' x = or_null_sorted (slot_datum data' x)

-- ---- types

-- what is said of a named type is a formula
pub record SaysFormulas (named : Naming) : Type 0 where
  pub says : (number : ℕ) (n : ℕ) {v : Term} → IsOf val_sort v → IsOf formula_sort (named number v n).term

int_formula : {v : Term} → IsOf val_sort v → IsOf formula_sort (is_int v)
int_formula h =
    all_sorted (more (kind_sorted int_kind h) (more (at_most_sorted (number_sorted INT_MIN) (num_sorted h)) (more (at_most_sorted (num_sorted h) (number_sorted INT_MAX)) none)))

mutual
  pub holds_sorted : {named : Naming} → SaysFormulas named → (t : Ty) (n : ℕ) {v : Term} → IsOf val_sort v → IsOf formula_sort (holds named t v n).term
  holds_sorted says NullTy n h = kind_sorted null_kind h
  holds_sorted says BoolTy n h = kind_sorted bool_kind h
  holds_sorted says IntTy n h = int_formula h
  holds_sorted says AnyTy n h = all_sorted none
  holds_sorted says VoidTy n h = falsehood_sorted
  holds_sorted says (RecordTy fields) n h = all_sorted (more (kind_sorted (record_kind (names_of fields)) h) (fields_sorted says fields n h))
  holds_sorted says (ArrayTy item) n h =
      all_sorted
      (more (kind_sorted array_kind h)
      (more (at_most_sorted (len_sorted h) (number_sorted (pos 9223372036854775807)))
      (more (bound_sorted true k_word n (number_sorted (pos 0)) (len_sorted h) (holds_sorted says item (suc n) (get_sorted h (int_name_sorted k_word n)))) none)))
  holds_sorted {named} says (UnionTy s t) n {v} h = any_sorted (more (holds_sorted says s n h) (more (holds_sorted says t (holds named s v n).count h) none))
  holds_sorted {named} says (InterTy s t) n {v} h = all_sorted (more (holds_sorted says s n h) (more (holds_sorted says t (holds named s v n).count h) none))
  holds_sorted says (NotTy t) n h = denied_sorted (holds_sorted says t n h)
  holds_sorted says (NamedTy number) n h = says.says number n h
  holds_sorted says (NormalTy union) n h = falsehood_sorted

  fields_sorted : {named : Naming} → SaysFormulas named → (fields : FieldTys) (n : ℕ) {v : Term} → IsOf val_sort v → AllOf formula_sort (fields_hold named fields v n).terms
  fields_sorted says NoFieldTys n h = none
  fields_sorted {named} says (MoreFieldTys f t fields) n {v} h = more (holds_sorted says t n (field_sorted f h)) (fields_sorted says fields (holds named t (field f v) n).count h)

-- ---- expressions

module _ {N : Type 0} (s : Setting N) (named : Naming) (says : SaysFormulas named) (words : List (List ℕ)) where
  mutual
    pub term_sorted : (e : Expr N) (n : ℕ) {vars : Vars} → AreData vars → IsOf val_sort (value s named words e vars n).term
    term_sorted (NullExpr k) n d = null_sorted
    term_sorted (BoolExpr k b) n d = truth_sorted b
    term_sorted (IntExpr k z) n d = int_sorted (number_sorted z)
    term_sorted (VarExpr k x) n d = variable_sorted d x
    term_sorted (CallExpr k routine args) n d = null_sorted
    term_sorted (NegExpr k a) n d = negated_sorted (term_sorted a n d)
    term_sorted (NotExpr k a) n d = denial_sorted (term_sorted a n d)
    term_sorted (LenExpr k a) n d = length_sorted (term_sorted a n d)
    term_sorted (BinaryExpr k o a b) n {vars} d = operated_sorted o (s.is_number (node a) && s.is_number (node b)) (term_sorted a n d) (term_sorted b (value s named words a vars n).count d)
    term_sorted (IsExpr k a t) n {vars} d = value_sorted (holds_sorted says t (value s named words a vars n).count (term_sorted a n d))
    term_sorted (IndexExpr k a b) n {vars} d = element_sorted (term_sorted a n d) (term_sorted b (value s named words a vars n).count d)
    term_sorted (FieldExpr k a name) n d = field_sorted name (term_sorted a n d)
    term_sorted (ListExpr k items) n d = list_sorted (terms_sorted items n d)
    term_sorted (RepeatExpr k a b) n {vars} d = repeated_sorted (term_sorted a n d) (term_sorted b (value s named words a vars n).count d)
    term_sorted (RecordExpr k fields) n d = record_sorted (field_names fields) (field_terms_sorted fields n d)
    term_sorted (QuantExpr k all x a b body) n {vars} d =
        let m = (value s named words b vars (value s named words a vars n).count).count in
        quantified_sorted all (word_at words x) m (term_sorted a n d) (term_sorted b (value s named words a vars n).count d) (term_sorted body (suc m) (put_data x d (int_sorted (int_name_sorted (word_at words x) m))))

    pub terms_sorted : (es : Exprs N) (n : ℕ) {vars : Vars} → AreData vars → AllOf val_sort (values s named words es vars n).terms
    terms_sorted NoExprs n d = none
    terms_sorted (MoreExprs e es) n {vars} d = more (term_sorted e n d) (terms_sorted es (value s named words e vars n).count d)

    pub field_terms_sorted : (fs : Fields N) (n : ℕ) {vars : Vars} → AreData vars → AllOf val_sort (field_values s named words fs vars n).terms
    field_terms_sorted NoFields n d = none
    field_terms_sorted (MoreFields name e fs) n {vars} d = more (term_sorted e n d) (field_terms_sorted fs (value s named words e vars n).count d)

  pub clause_sorted : (e : Expr N) (n : ℕ) {vars : Vars} → AreData vars → IsOf formula_sort (clause_formula s named words e vars n).term
  clause_sorted e n d = formula_sorted (term_sorted e n d)

  pub clauses_sorted : (es : List (Expr N)) (n : ℕ) {vars : Vars} → AreData vars → AllOf formula_sort (clause_formulas s named words es vars n).terms
  clauses_sorted [] n d = none
  clauses_sorted (e ∷ es) n {vars} d = more (clause_sorted e n d) (clauses_sorted es (clause_formula s named words e vars n).count d)

-- ---- named types

pub defined_sorted : {N : Type 0} (s : Setting N) {named : Naming} → SaysFormulas named → (a : Alias N) (n : ℕ) {v : Term} → IsOf val_sort v → IsOf formula_sort (defined s named a v n).term
defined_sorted s {named} says a n {v} h = all_sorted (more (holds_sorted says a.ty n h) (clauses_sorted s named says a.variables a.clauses (holds named a.ty v n).count (put_if_data a.variable no_data h)))

pub named_to_sorted : {N : Type 0} (s : Setting N) (depth : ℕ) → SaysFormulas (named_to s depth)
named_to_sorted s zero = record { says = λ number n h. in_type_sorted number h }
named_to_sorted s (suc depth) = record {
  says = λ number n h. pick (λ (w : Valued). IsOf formula_sort w.term) (is_written s.types number) (defined_sorted s (named_to_sorted s depth) (alias_at s.types number) n h) (in_type_sorted number h);
}

pub named_sorted : {N : Type 0} (s : Setting N) → SaysFormulas (named_in s)
named_sorted s = named_to_sorted s (length s.types)

pub test_sorted : {N : Type 0} (s : Setting N) (number : ℕ) → IsOf formula_sort (test_formula s number)
test_sorted s number =
    let a = alias_at s.types number in defined_sorted s (named_sorted s) a 1 (val_name_sorted (word_if a.variables a.variable x_word) 0)
