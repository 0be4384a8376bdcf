-- The terms of expressions are folded, and so is what says that a datum is in a type.
use Rattle.std.proofs.Common.{ℕ, zero, suc, List, [], ◌∷◌, length, true, ◌&&◌, Option, Some, None, pos}
use Rattle.wy_sound_terms.specs.wy_core.Types.{Ty, NullTy, BoolTy, IntTy, AnyTy, VoidTy, RecordTy, ArrayTy, UnionTy, InterTy, NotTy, NamedTy, NormalTy, FieldTys, NoFieldTys, MoreFieldTys}
use Rattle.wy_sound_terms.specs.wy_core.CoreTree.{Expr, NullExpr, BoolExpr, IntExpr, VarExpr, CallExpr, NegExpr, NotExpr, LenExpr, BinaryExpr, IsExpr, IndexExpr, FieldExpr, ListExpr, RepeatExpr, RecordExpr, QuantExpr, Exprs, NoExprs, MoreExprs, Fields, NoFields, MoreFields, Alias}
use Rattle.wy_lemmas.proofs.Choices.{pick}
use Rattle.wy_check_laws.specs.wy_value.declared.bounds.TheConstants.{INT_MIN, INT_MAX}
use Rattle.wy_check_laws.specs.wy_term.Term.{Term, null_kind, bool_kind, int_kind, array_kind, record_kind}
use Rattle.wy_sound_terms.specs.wy_sem.Expressions.{node}
use Rattle.wy_sound_terms.specs.wy_sem.TypeTests.{alias_at}
use Rattle.wy_sound_terms.specs.wy_vc_spec.Named.{is_written}
use Rattle.wy_sound_terms.specs.wy_vc_spec.Making.{field}
use Rattle.wy_sound_terms.specs.wy_vc_spec.Variables.{Vars, slot_at, put, put_if}
use Rattle.wy_sound_terms.specs.wy_vc_spec.Values.{Naming, Setting, k_word, x_word, word_at, word_if, or_null, variable, is_int, names_of, holds, fields_hold, value, values, field_values, field_names, clause_formula, clause_formulas, defined, named_to, named_in, Valued, test_formula}
use Rattle.wy_vc_laws.proofs.folded_lemmas.MakingLemmas.{Folds, AllFold, none, more, number_folds, int_name_folds, num_folds, len_folds, val_name_folds, null_folds, truth_folds, int_folds, value_folds, get_folds, field_folds, and_folds, or_folds, falsehood_folds, denied_folds, at_most_folds, kind_folds, in_type_folds, formula_folds, bound_folds, negated_folds, denial_folds, length_folds, element_folds, repeated_folds, list_folds, record_folds, operated_folds, quantified_folds}

-- ---- variables

-- a folded term, if there is one
pub data FoldsIf : Option Term → Type 0 where
  no_term : FoldsIf None
  a_term : {t : Term} → Folds t → FoldsIf (Some t)

-- each variable that has a term has a folded one
pub data VarsFold : Vars → Type 0 where
  no_vars : VarsFold []
  next : {v : Option Term} {vs : Vars} → FoldsIf v → VarsFold vs → VarsFold (v ∷ vs)

pub put_folds : {vs : Vars} {t : Term} (x : ℕ) → VarsFold vs → Folds t → VarsFold (put vs x t)
put_folds zero no_vars h = next (a_term h) no_vars
put_folds (suc x) no_vars h = next no_term (put_folds x no_vars h)
put_folds zero (next g vars') h = next (a_term h) vars'
put_folds (suc x) (next g vars') h = next g (put_folds x vars' h)

pub put_if_folds : {vs : Vars} {t : Term} (x : Option ℕ) → VarsFold vs → Folds t → VarsFold (put_if vs x t)
put_if_folds None vars' h = vars'
put_if_folds (Some x) vars' h = put_folds x vars' h

pub slot_folds : {vs : Vars} → VarsFold vs → (x : ℕ) → FoldsIf (slot_at vs x)
slot_folds no_vars x = no_term
slot_folds (next g vars') zero = g
slot_folds (next g vars') (suc x) = slot_folds vars' x

or_null_folds : {o : Option Term} → FoldsIf o → Folds (or_null o)
or_null_folds no_term = null_folds
or_null_folds (a_term h) = h

pub variable_folds : {vs : Vars} → VarsFold vs → (x : ℕ) → Folds (variable vs x)
variable_folds vars' x = or_null_folds (slot_folds vars' x)

-- ---- types

-- what is said of a named type, of a folded term, is folded
pub record SaysFolded (named : Naming) : Type 0 where
  pub says : (number : ℕ) (n : ℕ) {v : Term} → Folds v → Folds (named number v n).term

int_type_folds : {v : Term} → Folds v → Folds (is_int v)
int_type_folds h =
    and_folds (more (kind_folds int_kind h) (more (at_most_folds (number_folds INT_MIN) (num_folds h)) (more (at_most_folds (num_folds h) (number_folds INT_MAX)) none)))

mutual
  pub holds_folds : {named : Naming} → SaysFolded named → (t : Ty) (n : ℕ) {v : Term} → Folds v → Folds (holds named t v n).term
  holds_folds says NullTy n h = kind_folds null_kind h
  holds_folds says BoolTy n h = kind_folds bool_kind h
  holds_folds says IntTy n h = int_type_folds h
  holds_folds says AnyTy n h = and_folds none
  holds_folds says VoidTy n h = falsehood_folds
  holds_folds says (RecordTy fields) n h = and_folds (more (kind_folds (record_kind (names_of fields)) h) (fields_folds says fields n h))
  holds_folds says (ArrayTy item) n h =
      and_folds
      (more (kind_folds array_kind h)
      (more (at_most_folds (len_folds h) (number_folds (pos 9223372036854775807)))
      (more (bound_folds true k_word n (number_folds (pos 0)) (len_folds h) (holds_folds says item (suc n) (get_folds h (int_name_folds k_word n)))) none)))
  holds_folds {named} says (UnionTy s t) n {v} h = or_folds (more (holds_folds says s n h) (more (holds_folds says t (holds named s v n).count h) none))
  holds_folds {named} says (InterTy s t) n {v} h = and_folds (more (holds_folds says s n h) (more (holds_folds says t (holds named s v n).count h) none))
  holds_folds says (NotTy t) n h = denied_folds (holds_folds says t n h)
  holds_folds says (NamedTy number) n h = says.says number n h
  holds_folds says (NormalTy union) n h = falsehood_folds

  fields_folds : {named : Naming} → SaysFolded named → (fields : FieldTys) (n : ℕ) {v : Term} → Folds v → AllFold (fields_hold named fields v n).terms
  fields_folds says NoFieldTys n h = none
  fields_folds {named} says (MoreFieldTys f t fields) n {v} h = more (holds_folds says t n (field_folds f h)) (fields_folds says fields (holds named t (field f v) n).count h)

-- ---- expressions

module _ {N : Type 0} (s : Setting N) (named : Naming) (says : SaysFolded named) (words : List (List ℕ)) where
  mutual
    pub term_folds : (e : Expr N) (n : ℕ) {vars : Vars} → VarsFold vars → Folds (value s named words e vars n).term
    term_folds (NullExpr k) n d = null_folds
    term_folds (BoolExpr k b) n d = truth_folds b
    term_folds (IntExpr k z) n d = int_folds (number_folds z)
    term_folds (VarExpr k x) n d = variable_folds d x
    term_folds (CallExpr k routine args) n d = null_folds
    term_folds (NegExpr k a) n d = negated_folds (term_folds a n d)
    term_folds (NotExpr k a) n d = denial_folds (term_folds a n d)
    term_folds (LenExpr k a) n d = length_folds (term_folds a n d)
    term_folds (BinaryExpr k o a b) n {vars} d = operated_folds o (s.is_number (node a) && s.is_number (node b)) (term_folds a n d) (term_folds b (value s named words a vars n).count d)
    term_folds (IsExpr k a t) n {vars} d = value_folds (holds_folds says t (value s named words a vars n).count (term_folds a n d))
    term_folds (IndexExpr k a b) n {vars} d = element_folds (term_folds a n d) (term_folds b (value s named words a vars n).count d)
    term_folds (FieldExpr k a name) n d = field_folds name (term_folds a n d)
    term_folds (ListExpr k items) n d = list_folds (terms_folds items n d)
    term_folds (RepeatExpr k a b) n {vars} d = repeated_folds (term_folds a n d) (term_folds b (value s named words a vars n).count d)
    term_folds (RecordExpr k fields) n d = record_folds (field_names fields) (field_terms_folds fields n d)
    term_folds (QuantExpr k all x a b body) n {vars} d =
        let m = (value s named words b vars (value s named words a vars n).count).count in
        quantified_folds all (word_at words x) m (term_folds a n d) (term_folds b (value s named words a vars n).count d) (term_folds body (suc m) (put_folds x d (int_folds (int_name_folds (word_at words x) m))))

    pub terms_folds : (es : Exprs N) (n : ℕ) {vars : Vars} → VarsFold vars → AllFold (values s named words es vars n).terms
    terms_folds NoExprs n d = none
    terms_folds (MoreExprs e es) n {vars} d = more (term_folds e n d) (terms_folds es (value s named words e vars n).count d)

    pub field_terms_folds : (fs : Fields N) (n : ℕ) {vars : Vars} → VarsFold vars → AllFold (field_values s named words fs vars n).terms
    field_terms_folds NoFields n d = none
    field_terms_folds (MoreFields name e fs) n {vars} d = more (term_folds e n d) (field_terms_folds fs (value s named words e vars n).count d)

  pub clause_folds : (e : Expr N) (n : ℕ) {vars : Vars} → VarsFold vars → Folds (clause_formula s named words e vars n).term
  clause_folds e n d = formula_folds (term_folds e n d)

  pub clauses_folds : (es : List (Expr N)) (n : ℕ) {vars : Vars} → VarsFold vars → AllFold (clause_formulas s named words es vars n).terms
  clauses_folds [] n d = none
  clauses_folds (e ∷ es) n {vars} d = more (clause_folds e n d) (clauses_folds es (clause_formula s named words e vars n).count d)

-- ---- named types

pub defined_folds : {N : Type 0} (s : Setting N) {named : Naming} → SaysFolded named → (a : Alias N) (n : ℕ) {v : Term} → Folds v → Folds (defined s named a v n).term
defined_folds s {named} says a n {v} h = and_folds (more (holds_folds says a.ty n h) (clauses_folds s named says a.variables a.clauses (holds named a.ty v n).count (put_if_folds a.variable no_vars h)))

pub named_to_folds : {N : Type 0} (s : Setting N) (depth : ℕ) → SaysFolded (named_to s depth)
named_to_folds s zero = record { says = λ number n h. in_type_folds number h }
named_to_folds s (suc depth) = record {
  says = λ number n h. pick (λ (w : Valued). Folds w.term) (is_written s.types number) (defined_folds s (named_to_folds s depth) (alias_at s.types number) n h) (in_type_folds number h);
}

pub named_folds : {N : Type 0} (s : Setting N) → SaysFolded (named_in s)
named_folds s = named_to_folds s (length s.types)

pub test_folds : {N : Type 0} (s : Setting N) (number : ℕ) → Folds (test_formula s number)
test_folds s number =
    let a = alias_at s.types number in defined_folds s (named_folds s) a 1 (val_name_folds (word_if a.variables a.variable x_word) 0)
