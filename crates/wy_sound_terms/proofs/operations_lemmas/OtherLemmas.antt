-- The other operations, their terms and their goals agree.
use Rattle.std.proofs.Common.{◌≡◌, ℕ, List, [], ◌∷◌, ◌++◌, Bool, true, false, not, ◌&&◌, ◌||◌, ℤ, pos, neg_ℤ, int_lt, int_le, Option, refl, sym, ap, ◌∙◌, subst}
use Rattle.wy_lemmas.proofs.Choices.{and_end}
use Rattle.wy_term_subst.specs.wy_value.Datum.{Datum, Null, Truth, Whole, Array, Record, Data, Fields}
use Rattle.wy_term_subst.specs.wy_value.Values as values
use Rattle.wy_vc_spec.specs.wy_core.declared.expressions.Op.TheVariants.{And, Or}
use Rattle.wy_term_subst.specs.wy_term.declared.cond.CondKind.TheVariants.{Index, Length}
use Rattle.wy_term_subst.specs.wy_term.Term as term
use Rattle.wy_term_subst.specs.wy_term.Term.{Term}
use Rattle.wy_term_subst.specs.wy_term.Data as shapes
use Rattle.wy_term_subst.specs.wy_term.Meaning.{Names}
use Rattle.wy_vc_spec.specs.wy_sem.Meter.{Done, Run, check}
use Rattle.wy_vc_spec.specs.wy_sem.Operations.{nat_of, longest, is_index, item_at, find, copies, negated, denied, length_result, operated, item_of, field_of, repeated, needed}
use Rattle.wy_vc_spec.specs.Making.{of_one, of_two, number_of, num, len, int, value_of, get, field, all_of, any_of, denied as denial_of, at_most, less_than, formula}
use Rattle.wy_vc_spec.specs.Operations as op
use Rattle.wy_vc_spec.specs.Values as terms
use Rattle.wy_vc_spec.specs.Walks.{range_goals, index_goals, length_goals}
use Rattle.wy_sound_terms.specs.operations.Kinds.{IsWhole, IsTruth, IsArray, HasField}
use Rattle.wy_sound_terms.specs.operations.Agreement.{datum_of, Follows, EarlyAgree, OthersAgree}
use Rattle.wy_sound_terms.proofs.operations_lemmas.DataLemmas.{length_is, element_is, repeated_is, field_is}
use Rattle.wy_sound_terms.proofs.operations_lemmas.MadeLemmas.{number, datum, holds, all, some, num_means, len_means, neg_means, int_means, value_means, get_means, field_means, repeat_means, denied_means, at_most_means, less_means, formula_means, all_means, some_means}
use Rattle.wy_sound_terms.proofs.operations_lemmas.FollowLemmas.{follows_done, follows_check, follows_checked, follows_same}
use Rattle.wy_sound_terms.proofs.operations_lemmas.OperatorLemmas.{num_is, ranged}

-- ---- early ends

pub and_false : (names : Names) (numbers : Bool) (v w : Term) → datum names v ≡ Truth false → datum names (op.operated And numbers v w) ≡ Truth false
and_false names numbers v w e =
    value_means names (all_of (formula v ∷ formula w ∷ []))
    ∙ ap Truth (all_means names (formula v ∷ formula w ∷ []) ∙ ap (λ (c : Bool). c && (holds names (formula w) && true)) (formula_means names v false e))

pub or_true : (names : Names) (numbers : Bool) (v w : Term) → datum names v ≡ Truth true → datum names (op.operated Or numbers v w) ≡ Truth true
or_true names numbers v w e =
    value_means names (any_of (formula v ∷ formula w ∷ []))
    ∙ ap Truth (some_means names (formula v ∷ formula w ∷ []) ∙ ap (λ (c : Bool). c || (holds names (formula w) || false)) (formula_means names v true e))

early_and : (names : Names) (numbers : Bool) (v w : Term) (at : ℕ) (right : Run Datum) → datum names v ≡ Truth false → Follows names [] (operated And at right (datum names v)) (op.operated And numbers v w)
early_and names numbers v w at right e =
    subst (λ (x : Datum). Follows names [] (operated And at right x) (op.operated And numbers v w)) (sym e)
    (follows_done names (Truth false) (op.operated And numbers v w) (and_false names numbers v w e))

early_or : (names : Names) (numbers : Bool) (v w : Term) (at : ℕ) (right : Run Datum) → datum names v ≡ Truth true → Follows names [] (operated Or at right (datum names v)) (op.operated Or numbers v w)
early_or names numbers v w at right e =
    subst (λ (x : Datum). Follows names [] (operated Or at right x) (op.operated Or numbers v w)) (sym e)
    (follows_done names (Truth true) (op.operated Or numbers v w) (or_true names numbers v w e))

pub early_agree : EarlyAgree
early_agree = record {
  and = λ names numbers v w at right e. early_and names numbers v w at right e;
  or = λ names numbers v w at right e. early_or names numbers v w at right e;
}

-- ---- one operand

pub negation : (names : Names) (v : Term) (at : ℕ) (d : Datum) → datum names v ≡ d → IsWhole d → Follows names (range_goals (op.negated v)) (negated at d) (op.negated v)
negation names v at (Whole x) e k = ranged names at (op.negated v) (neg_ℤ x) (int_means names (of_one term.neg (num v)) ∙ ap Whole (neg_means names (num v) ∙ ap neg_ℤ (num_is names v x e)))
negation names v at Null e k = absurd k
negation names v at (Truth b) e k = absurd k
negation names v at (Array ds) e k = absurd k
negation names v at (Record fs) e k = absurd k

pub denial : (names : Names) (v : Term) (at : ℕ) (d : Datum) → datum names v ≡ d → IsTruth d → Follows names [] (denied at d) (op.with_denial v)
denial names v at (Truth b) e k = follows_done names (Truth (not b)) (op.with_denial v) (value_means names (denial_of (formula v)) ∙ ap Truth (denied_means names (formula v) ∙ ap not (formula_means names v b e)))
denial names v at Null e k = absurd k
denial names v at (Whole z) e k = absurd k
denial names v at (Array ds) e k = absurd k
denial names v at (Record fs) e k = absurd k

pub len_is : (names : Names) (v : Term) (ds : Data) → datum names v ≡ Array ds → number names (len v) ≡ pos (values.length_of ds)
len_is names v ds e = len_means names v ∙ ap shapes.length_in e ∙ ap pos (length_is ds)

pub measured : (names : Names) (v : Term) (at : ℕ) (d : Datum) → datum names v ≡ d → IsArray d → Follows names [] (length_result at d) (op.length v)
measured names v at (Array ds) e k = follows_done names (Whole (pos (values.length_of ds))) (op.length v) (int_means names (len v) ∙ ap Whole (len_is names v ds e))
measured names v at Null e k = absurd k
measured names v at (Truth b) e k = absurd k
measured names v at (Whole z) e k = absurd k
measured names v at (Record fs) e k = absurd k

-- ---- parts

pub index_is : (names : Names) (v i : Term) (ds : Data) (z : ℤ) → datum names v ≡ Array ds → datum names i ≡ Whole z → all names (index_goals v i) ≡ is_index z ds
index_is names v i ds z ev ei =
    let n = num_is names i z ei in
    ap (λ (b : Bool). b && (holds names (less_than (num i) (len v)) && true)) (at_most_means names (number_of (pos 0)) (num i) ∙ ap (λ (x : ℤ). int_le (pos 0) x) n)
    ∙ ap (λ (b : Bool). int_le (pos 0) z && b) (and_end (holds names (less_than (num i) (len v))) ∙ less_means names (num i) (len v) ∙ ap (λ (x : ℤ). int_lt x (number names (len v))) n ∙ ap (λ (x : ℤ). int_lt z x) (len_is names v ds ev))

pub element_means : (names : Names) (v i : Term) (ds : Data) (z : ℤ) → datum names v ≡ Array ds → datum names i ≡ Whole z → is_index z ds ≡ true → datum names (op.element v i) ≡ item_at ds (nat_of z)
element_means names v i ds z ev ei h = get_means names v (num i) ∙ ap (λ (d : Datum). shapes.element d (number names (num i))) ev ∙ ap (shapes.item_at ds) (num_is names i z ei) ∙ element_is ds z h

pub element : (names : Names) (v i : Term) (at : ℕ) (d e : Datum) → datum names v ≡ d → datum names i ≡ e → IsArray d → IsWhole e → Follows names (index_goals v i) (item_of at d e) (op.element v i)
element names v i at (Array ds) (Whole z) ev ei k l = follows_checked names (index_goals v i) (is_index z ds) Index at (item_at ds (nat_of z)) (op.element v i) (index_is names v i ds z ev ei) (λ h. element_means names v i ds z ev ei h)
element names v i at (Array ds) Null ev ei k l = absurd l
element names v i at (Array ds) (Truth b) ev ei k l = absurd l
element names v i at (Array ds) (Array es) ev ei k l = absurd l
element names v i at (Array ds) (Record fs) ev ei k l = absurd l
element names v i at Null e ev ei k l = absurd k
element names v i at (Truth b) e ev ei k l = absurd k
element names v i at (Whole z) e ev ei k l = absurd k
element names v i at (Record fs) e ev ei k l = absurd k

pub field_value : (names : Names) (v : Term) (name : List ℕ) (at : ℕ) (d : Datum) → datum names v ≡ d → HasField name d → Follows names [] (field_of at d name) (field name v)
field_value names v name at (Record fs) e k =
    follows_same names [] (Done k.0) (field_of at (Record fs) name) (field name v) (λ m. ap (λ (o : Option Datum). needed at o Done m) (sym k.1))
    (follows_done names k.0 (field name v) (field_means names name v ∙ ap (λ (d : Datum). shapes.field_in d name) e ∙ field_is fs name k.0 k.1))
field_value names v name at Null e k = absurd k
field_value names v name at (Truth b) e k = absurd k
field_value names v name at (Whole z) e k = absurd k
field_value names v name at (Array ds) e k = absurd k

pub repeat : (names : Names) (v n : Term) (at : ℕ) (d e : Datum) → datum names v ≡ d → datum names n ≡ e → IsWhole e → Follows names (length_goals n) (repeated at d e) (op.repeated v n)
unfolding longest
repeat names v n at d (Whole z) ev en k =
    let is = num_is names n z en in
    let low : all names (at_most (number_of (pos 0)) (num n) ∷ []) ≡ int_le (pos 0) z = and_end (holds names (at_most (number_of (pos 0)) (num n))) ∙ at_most_means names (number_of (pos 0)) (num n) ∙ ap (λ (x : ℤ). int_le (pos 0) x) is in
    let high : all names (at_most (num n) terms.longest ∷ []) ≡ int_le z (pos longest) = and_end (holds names (at_most (num n) terms.longest)) ∙ at_most_means names (num n) terms.longest ∙ ap (λ (x : ℤ). int_le x (pos longest)) is in
    follows_check names (at_most (number_of (pos 0)) (num n) ∷ []) (at_most (num n) terms.longest ∷ []) (int_le (pos 0) z) Length at (check (int_le z (pos longest)) Length at (Done (Array (copies (nat_of z) d)))) (op.repeated v n) low (λ h.
    follows_checked names (at_most (num n) terms.longest ∷ []) (int_le z (pos longest)) Length at (Array (copies (nat_of z) d)) (op.repeated v n) high (λ g.
    repeat_means names v (num n) ∙ ap (λ (x : Datum). shapes.repeated x (number names (num n))) ev ∙ ap (shapes.repeated d) is ∙ repeated_is d z h))
repeat names v n at d Null ev en k = absurd k
repeat names v n at d (Truth b) ev en k = absurd k
repeat names v n at d (Array ds) ev en k = absurd k
repeat names v n at d (Record fs) ev en k = absurd k

pub others_agree : OthersAgree
others_agree = record {
  negation = λ names v at k. negation names v at (datum_of names v) refl k;
  denial = λ names v at k. denial names v at (datum_of names v) refl k;
  length = λ names v at k. measured names v at (datum_of names v) refl k;
  element = λ names v i at k l. element names v i at (datum_of names v) (datum_of names i) refl refl k l;
  field_value = λ names v name at k. field_value names v name at (datum_of names v) refl k;
  repeat = λ names v n at k. repeat names v n at (datum_of names v) (datum_of names n) refl refl k;
}
