-- The formula that the test of a named type stands for has no other free name than the Val name beside it.
use Rattle.std.proofs.Common.{◌≡◌, ℕ, zero, suc, List, [], ◌∷◌, length, map, true, ◌&&◌, ◌⊎◌, inl, inr, Option, Some, None, pos, refl}
use Rattle.wy_vc_spec.specs.wy_core.Types.{Ty, NullTy, BoolTy, IntTy, AnyTy, VoidTy, RecordTy, ArrayTy, UnionTy, InterTy, NotTy, NamedTy, NormalTy, FieldTys, NoFieldTys, MoreFieldTys}
use Rattle.wy_vc_spec.specs.wy_core.CoreTree.{Expr, NullExpr, BoolExpr, IntExpr, VarExpr, CallExpr, NegExpr, NotExpr, LenExpr, BinaryExpr, IsExpr, IndexExpr, FieldExpr, ListExpr, RepeatExpr, RecordExpr, QuantExpr, Exprs, NoExprs, MoreExprs, Fields, NoFields, MoreFields, Alias}
use Rattle.wy_lemmas.proofs.Choices.{pick}
use Rattle.wy_term_subst.specs.wy_value.declared.bounds.TheConstants.{INT_MIN, INT_MAX}
use Rattle.wy_term_subst.specs.wy_term.Term.{Term, null_kind, bool_kind, int_kind, array_kind, record_kind}
use Rattle.wy_term_subst.specs.wy_term.Scope.{free_names}
use Rattle.wy_term_subst.specs.wy_term.Unfolding.{AreAll, IsClosed, AreClosed}
use Rattle.wy_vc_spec.specs.wy_sem.Expressions.{node}
use Rattle.wy_vc_spec.specs.wy_sem.TypeTests.{alias_at}
use Rattle.wy_vc_spec.specs.Named.{is_written}
use Rattle.wy_vc_spec.specs.Making.{int_name, field}
use Rattle.wy_vc_spec.specs.Variables.{Vars, slot_at, put, put_if}
use Rattle.wy_vc_spec.specs.Values.{Naming, Setting, Valued, k_word, x_word, word_at, word_if, or_null, variable, is_int, names_of, holds, fields_hold, value, values, field_values, field_names, clause_formula, clause_formulas, defined, named_to, named_in, test_name, test_formula}
use Rattle.wy_vc_spec.specs.Limits.{unfolded}
use Rattle.wy_sound_terms.proofs.formed_lemmas.FreeLemmas.{AllAmong, IsWithin, within_more}
use Rattle.wy_sound_terms.proofs.formed_lemmas.WithinLemmas.{EachWithin, none, more, number_within, num_within, len_within, null_within, truth_within, int_within, value_within, get_within, field_within, all_within, any_within, falsehood_within, denied_within, at_most_within, kind_within, in_type_within, formula_within, bound_within, negated_within, denial_within, length_within, element_within, repeated_within, array_within, record_within, operated_within, quantified_within}

-- ---- names that are there

own_number : {ps : List Term} (word : List ℕ) (n : ℕ) → IsWithin (int_name word n ∷ ps) (int_name word n)
own_number word n = record { names = (inl refl, tt) }

-- ---- variables

data IsWithinIf (ps : List Term) : Option Term → Type 0 where
  nothing : IsWithinIf ps None
  something : {t : Term} → IsWithin ps t → IsWithinIf ps (Some t)

-- the terms of variables have no other free names
data AreWithin (ps : List Term) : Vars → Type 0 where
  no_vars : AreWithin ps []
  next : {v : Option Term} {vs : Vars} → IsWithinIf ps v → AreWithin ps vs → AreWithin ps (v ∷ vs)

put_within : {ps : List Term} {vs : Vars} {t : Term} (x : ℕ) → AreWithin ps vs → IsWithin ps t → AreWithin ps (put vs x t)
put_within zero no_vars h = next (something h) no_vars
put_within (suc x) no_vars h = next nothing (put_within x no_vars h)
put_within zero (next g vs) h = next (something h) vs
put_within (suc x) (next g vs) h = next g (put_within x vs h)

put_if_within : {ps : List Term} {vs : Vars} {t : Term} (x : Option ℕ) → AreWithin ps vs → IsWithin ps t → AreWithin ps (put_if vs x t)
put_if_within None vs h = vs
put_if_within (Some x) vs h = put_within x vs h

slot_within : {ps : List Term} {vs : Vars} → AreWithin ps vs → (x : ℕ) → IsWithinIf ps (slot_at vs x)
slot_within no_vars x = nothing
slot_within (next g vs) zero = g
slot_within (next g vs) (suc x) = slot_within vs x

or_null_within : {ps : List Term} {o : Option Term} → IsWithinIf ps o → IsWithin ps (or_null o)
or_null_within nothing = null_within
or_null_within (something h) = h

variable_within : {ps : List Term} {vs : Vars} → AreWithin ps vs → (x : ℕ) → IsWithin ps (variable vs x)
variable_within vs x = or_null_within (slot_within vs x)

if_more : {ps : List Term} {o : Option Term} (k : Term) → IsWithinIf ps o → IsWithinIf (k ∷ ps) o
if_more k nothing = nothing
if_more k (something h) = something (within_more k h)

vars_more : {ps : List Term} {vs : Vars} (k : Term) → AreWithin ps vs → AreWithin (k ∷ ps) vs
vars_more k no_vars = no_vars
vars_more k (next h vs) = next (if_more k h) (vars_more k vs)

-- ---- types

-- what is said of a named type has no other free names than the term of which it is said
record SaysWithin (named : Naming) : Type 0 where
  pub says : (number : ℕ) (n : ℕ) {ps : List Term} {v : Term} → IsWithin ps v → IsWithin ps (named number v n).term

int_within_bounds : {ps : List Term} {v : Term} → IsWithin ps v → IsWithin ps (is_int v)
int_within_bounds h =
    all_within (more (kind_within int_kind h) (more (at_most_within (number_within INT_MIN) (num_within h)) (more (at_most_within (num_within h) (number_within INT_MAX)) none)))

mutual
  holds_within : {named : Naming} → SaysWithin named → (t : Ty) (n : ℕ) {ps : List Term} {v : Term} → IsWithin ps v → IsWithin ps (holds named t v n).term
  holds_within says NullTy n h = kind_within null_kind h
  holds_within says BoolTy n h = kind_within bool_kind h
  holds_within says IntTy n h = int_within_bounds h
  holds_within says AnyTy n h = all_within none
  holds_within says VoidTy n h = falsehood_within
  holds_within says (RecordTy fields) n h = all_within (more (kind_within (record_kind (names_of fields)) h) (fields_within says fields n h))
  holds_within says (ArrayTy item) n h =
      all_within
      (more (kind_within array_kind h)
      (more (at_most_within (len_within h) (number_within (pos 9223372036854775807)))
      (more (bound_within true k_word n (number_within (pos 0)) (len_within h) (holds_within says item (suc n) (get_within (within_more (int_name k_word n) h) (own_number k_word n)))) none)))
  holds_within {named} says (UnionTy s t) n {v = v} h = any_within (more (holds_within says s n h) (more (holds_within says t (holds named s v n).count h) none))
  holds_within {named} says (InterTy s t) n {v = v} h = all_within (more (holds_within says s n h) (more (holds_within says t (holds named s v n).count h) none))
  holds_within says (NotTy t) n h = denied_within (holds_within says t n h)
  holds_within says (NamedTy number) n h = says.says number n h
  holds_within says (NormalTy union) n h = falsehood_within

  fields_within : {named : Naming} → SaysWithin named → (fields : FieldTys) (n : ℕ) {ps : List Term} {v : Term} → IsWithin ps v → EachWithin ps (fields_hold named fields v n).terms
  fields_within says NoFieldTys n h = none
  fields_within {named} says (MoreFieldTys f t fields) n {v = v} h = more (holds_within says t n (field_within f h)) (fields_within says fields (holds named t (field f v) n).count h)

-- ---- expressions

module _ {N : Type 0} (s : Setting N) (named : Naming) (says : SaysWithin named) (words : List (List ℕ)) where
  mutual
    term_within : (e : Expr N) (n : ℕ) {ps : List Term} {vars : Vars} → AreWithin ps vars → IsWithin ps (value s named words e vars n).term
    term_within (NullExpr k) n d = null_within
    term_within (BoolExpr k b) n d = truth_within b
    term_within (IntExpr k z) n d = int_within (number_within z)
    term_within (VarExpr k x) n d = variable_within d x
    term_within (CallExpr k routine args) n d = null_within
    term_within (NegExpr k a) n d = negated_within (term_within a n d)
    term_within (NotExpr k a) n d = denial_within (term_within a n d)
    term_within (LenExpr k a) n d = length_within (term_within a n d)
    term_within (BinaryExpr k o a b) n {vars = vars} d =
        operated_within o (s.is_number (node a) && s.is_number (node b)) (term_within a n d) (term_within b (value s named words a vars n).count d)
    term_within (IsExpr k a t) n {vars = vars} d = value_within (holds_within says t (value s named words a vars n).count (term_within a n d))
    term_within (IndexExpr k a b) n {vars = vars} d = element_within (term_within a n d) (term_within b (value s named words a vars n).count d)
    term_within (FieldExpr k a name) n d = field_within name (term_within a n d)
    term_within (ListExpr k items) n d = array_within (terms_within items n d)
    term_within (RepeatExpr k a b) n {vars = vars} d = repeated_within (term_within a n d) (term_within b (value s named words a vars n).count d)
    term_within (RecordExpr k fields) n d = record_within (field_names fields) (field_terms_within fields n d)
    term_within (QuantExpr k all x a b body) n {vars = vars} d =
        let m = (value s named words b vars (value s named words a vars n).count).count in
        let i = int_name (word_at words x) m in
        quantified_within all (word_at words x) m (term_within a n d) (term_within b (value s named words a vars n).count d) (term_within body (suc m) (put_within x (vars_more i d) (int_within (own_number (word_at words x) m))))

    terms_within : (es : Exprs N) (n : ℕ) {ps : List Term} {vars : Vars} → AreWithin ps vars → EachWithin ps (values s named words es vars n).terms
    terms_within NoExprs n d = none
    terms_within (MoreExprs e es) n {vars = vars} d = more (term_within e n d) (terms_within es (value s named words e vars n).count d)

    field_terms_within : (fs : Fields N) (n : ℕ) {ps : List Term} {vars : Vars} → AreWithin ps vars → EachWithin ps (field_values s named words fs vars n).terms
    field_terms_within NoFields n d = none
    field_terms_within (MoreFields name e fs) n {vars = vars} d = more (term_within e n d) (field_terms_within fs (value s named words e vars n).count d)

  clauses_within : (es : List (Expr N)) (n : ℕ) {ps : List Term} {vars : Vars} → AreWithin ps vars → EachWithin ps (clause_formulas s named words es vars n).terms
  clauses_within [] n d = none
  clauses_within (e ∷ es) n {vars = vars} d = more (formula_within (term_within e n d)) (clauses_within es (clause_formula s named words e vars n).count d)

-- ---- named types

defined_within : {N : Type 0} (s : Setting N) {named : Naming} → SaysWithin named → (a : Alias N) (n : ℕ) {ps : List Term} {v : Term} → IsWithin ps v → IsWithin ps (defined s named a v n).term
defined_within s {named} says a n {v = v} h =
    all_within (more (holds_within says a.ty n h) (clauses_within s named says a.variables a.clauses (holds named a.ty v n).count (put_if_within a.variable no_vars h)))

named_to_within : {N : Type 0} (s : Setting N) (depth : ℕ) → SaysWithin (named_to s depth)
named_to_within s zero = record { says = λ number n h. in_type_within number h }
named_to_within s (suc depth) = record {
  says = λ number n {ps} h. pick (λ (w : Valued). IsWithin ps w.term) (is_written s.types number) (defined_within s (named_to_within s depth) (alias_at s.types number) n h) (in_type_within number h);
}

named_within : {N : Type 0} (s : Setting N) → SaysWithin (named_in s)
named_within s = named_to_within s (length s.types)

test_within : {N : Type 0} (s : Setting N) (number : ℕ) → IsWithin (test_name s number ∷ []) (test_formula s number)
test_within s number = defined_within s (named_within s) (alias_at s.types number) 1 (record { names = (inl refl, tt) })

-- ---- entries

only_this : (x : Term) (ys : List Term) → AllAmong (x ∷ []) ys → AreAll x ys
only_this x [] h = tt
only_this x (y ∷ ys) h = (this h.0, only_this x ys h.1)
  where
    this : (y ≡ x) ⊎ ⊥ → y ≡ x
    this (inl e) = e
    this (inr never) = absurd never

pub test_closed : {N : Type 0} (s : Setting N) (number : ℕ) → IsClosed (unfolded s number)
test_closed s number = record {
  word = word_if (alias_at s.types number).variables (alias_at s.types number).variable x_word;
  number = 0;
  is_name = refl;
  free = only_this (test_name s number) (free_names (test_formula s number)) (test_within s number).names;
}

pub tests_closed : {N : Type 0} (s : Setting N) (ns : List ℕ) → AreClosed (map (unfolded s) ns)
tests_closed s [] = tt
tests_closed s (n ∷ ns) = (test_closed s n, tests_closed s ns)
