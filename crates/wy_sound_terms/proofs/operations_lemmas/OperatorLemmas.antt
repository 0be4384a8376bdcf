-- Each operator, its term and its goals agree.
use Rattle.std.proofs.Common.{◌≡◌, ℕ, List, [], ◌∷◌, ◌++◌, Bool, true, false, not, ◌&&◌, ◌||◌, ℤ, pos, ◌+ℤ◌, ◌-ℤ◌, ◌*ℤ◌, int_lt, int_le, refl, sym, ap, ◌∙◌, subst}
use Rattle.std.specs.Int.{int_div_euclid, int_rem_euclid}
use Rattle.wy_lemmas.proofs.Choices.{and_end, or_none as or_end}
use Rattle.wy_term_subst.specs.wy_value.Datum.{Datum, Truth, Whole}
use Rattle.wy_term_subst.specs.wy_value.Numbers.{is_int}
use Rattle.wy_term_subst.specs.wy_value.declared.bounds.TheConstants.{INT_MIN, INT_MAX}
use Rattle.wy_vc_spec.specs.wy_core.declared.expressions.Op.{Op}
use Rattle.wy_vc_spec.specs.wy_core.declared.expressions.Op.TheVariants.{Add, Sub, Mul, Div, Mod, Equal, Less, LessEqual, Greater, GreaterEqual, And, Or}
use Rattle.wy_term_subst.specs.wy_term.declared.cond.CondKind.TheVariants.{Range, Divisor}
use Rattle.wy_term_subst.specs.wy_term.Term as term
use Rattle.wy_term_subst.specs.wy_term.Term.{Term}
use Rattle.wy_term_subst.specs.wy_term.Data as shapes
use Rattle.wy_term_subst.specs.wy_term.Meaning.{Names}
use Rattle.wy_vc_spec.specs.wy_sem.Meter.{Done, Run, check}
use Rattle.wy_vc_spec.specs.wy_sem.Operations.{same, same_number, in_range, applied}
use Rattle.wy_vc_spec.specs.Making.{of_two, number_of, num, int, value_of, all_of, any_of, denied, at_most, less_than, equal, formula}
use Rattle.wy_vc_spec.specs.Operations as op
use Rattle.wy_vc_spec.specs.Walks.{range_goals, divisor_goals, operator_goals}
use Rattle.wy_sound_terms.specs.operations.Kinds.{AreWhole, Takes}
use Rattle.wy_sound_terms.specs.operations.Agreement.{datum_of, Follows, all_goals, OperatorsAgree}
use Rattle.wy_sound_terms.proofs.operations_lemmas.NumberLemmas.{apart_is, nonzero, quotient_is, remainder_is}
use Rattle.wy_sound_terms.proofs.operations_lemmas.MadeLemmas.{number, datum, holds, all, some, num_means, add_means, sub_means, mul_means, div_means, rem_means, int_means, value_means, at_most_means, less_means, equal_means, formula_means, all_means, some_means}
use Rattle.wy_sound_terms.proofs.operations_lemmas.FollowLemmas.{follows_done, follows_check, follows_checked}

module _ (names : Names) where
  pub num_is : (v : Term) (z : ℤ) → datum names v ≡ Whole z → number names (num v) ≡ z
  num_is v z e = num_means names v ∙ ap shapes.number_in e

  -- the goals on a result are that it is an `int`
  pub range_is : (t : Term) (z : ℤ) → datum names t ≡ Whole z → all names (range_goals t) ≡ is_int z
  range_is t z e =
      ap (λ (b : Bool). b && (holds names (at_most (num t) (number_of INT_MAX)) && true)) (at_most_means names (number_of INT_MIN) (num t) ∙ ap (λ (x : ℤ). int_le INT_MIN x) (num_is t z e))
      ∙ ap (λ (b : Bool). int_le INT_MIN z && b) (and_end (holds names (at_most (num t) (number_of INT_MAX))) ∙ at_most_means names (num t) (number_of INT_MAX) ∙ ap (λ (x : ℤ). int_le x INT_MAX) (num_is t z e))

  pub ranged : (at : ℕ) (t : Term) (z : ℤ) → datum names t ≡ Whole z → Follows names (range_goals t) (in_range at z) t
  ranged at t z e = follows_checked names (range_goals t) (is_int z) Range at (Whole z) t (range_is t z e) (λ h. e)

  -- the goal on a divisor is that it isn't 0
  divisor_is : (w : Term) (y : ℤ) → datum names w ≡ Whole y → all names (divisor_goals w) ≡ not (same_number y (pos 0))
  divisor_is w y e =
      let n = num_is w y e in
      and_end (holds names (any_of (less_than (number_of (pos 0)) (num w) ∷ less_than (num w) (number_of (pos 0)) ∷ [])))
      ∙ some_means names (less_than (number_of (pos 0)) (num w) ∷ less_than (num w) (number_of (pos 0)) ∷ [])
      ∙ ap (λ (b : Bool). b || (holds names (less_than (num w) (number_of (pos 0))) || false)) (less_means names (number_of (pos 0)) (num w) ∙ ap (λ (x : ℤ). int_lt (pos 0) x) n)
      ∙ ap (λ (b : Bool). int_lt (pos 0) y || (b || false)) (less_means names (num w) (number_of (pos 0)) ∙ ap (λ (x : ℤ). int_lt x (pos 0)) n)
      ∙ apart_is y

  -- an Int term made of two operands
  made_of : (symbol : Term → Term → Term) (f : ℤ → ℤ → ℤ) → ((s t : Term) → number names (symbol s t) ≡ f (number names s) (number names t)) → (v w : Term) (x y : ℤ) → datum names v ≡ Whole x → datum names w ≡ Whole y → datum names (int (symbol (num v) (num w))) ≡ Whole (f x y)
  made_of symbol f means v w x y ev ew =
      int_means names (symbol (num v) (num w)) ∙ ap Whole (means (num v) (num w) ∙ ap (λ (z : ℤ). f z (number names (num w))) (num_is v x ev) ∙ ap (f x) (num_is w y ew))

  -- a formula on two operands
  tested : (made : Term → Term → Term) (f : ℤ → ℤ → Bool) → ((s t : Term) → holds names (made s t) ≡ f (number names s) (number names t)) → (v w : Term) (x y : ℤ) → datum names v ≡ Whole x → datum names w ≡ Whole y → datum names (value_of (made (num v) (num w))) ≡ Truth (f x y)
  tested made f means v w x y ev ew =
      value_means names (made (num v) (num w)) ∙ ap Truth (means (num v) (num w) ∙ ap (λ (z : ℤ). f z (number names (num w))) (num_is v x ev) ∙ ap (f x) (num_is w y ew))

  same_as_numbers : (v w : Term) (x y : ℤ) → datum names v ≡ Whole x → datum names w ≡ Whole y → datum names (op.equality true v w) ≡ Truth (same (Whole x) (Whole y))
  same_as_numbers v w x y ev ew =
      let a = at_most (num v) (num w) in let b = at_most (num w) (num v) in
      value_means names (all_of (a ∷ b ∷ []))
      ∙ ap Truth (all_means names (a ∷ b ∷ [])
      ∙ ap (λ (c : Bool). c && (holds names b && true)) (at_most_means names (num v) (num w) ∙ ap (λ (z : ℤ). int_le z (number names (num w))) (num_is v x ev) ∙ ap (int_le x) (num_is w y ew))
      ∙ ap (λ (c : Bool). int_le x y && c) (and_end (holds names b) ∙ at_most_means names (num w) (num v) ∙ ap (λ (z : ℤ). int_le z (number names (num v))) (num_is w y ew) ∙ ap (int_le y) (num_is v x ev)))

  pub operator : (o : Op) (numbers : Bool) (v w : Term) (at : ℕ) (d e : Datum) → datum names v ≡ d → datum names w ≡ e → Takes o numbers d e → Follows names (all_goals (operator_goals o w (op.operated o numbers v w))) (applied o at d e) (op.operated o numbers v w)
  operator Add numbers v w at (Whole x) (Whole y) ev ew k =
      let made = op.operated Add numbers v w in
      follows_check names (range_goals made) [] (is_int (x +ℤ y)) Range at (Done (Whole (x +ℤ y))) made (range_is made (x +ℤ y) (made_of (of_two term.add) ◌+ℤ◌ (add_means names) v w x y ev ew))
      (λ h. follows_done names (Whole (x +ℤ y)) made (made_of (of_two term.add) ◌+ℤ◌ (add_means names) v w x y ev ew))
  operator Sub numbers v w at (Whole x) (Whole y) ev ew k =
      let made = op.operated Sub numbers v w in
      follows_check names (range_goals made) [] (is_int (x -ℤ y)) Range at (Done (Whole (x -ℤ y))) made (range_is made (x -ℤ y) (made_of (of_two term.sub) ◌-ℤ◌ (sub_means names) v w x y ev ew))
      (λ h. follows_done names (Whole (x -ℤ y)) made (made_of (of_two term.sub) ◌-ℤ◌ (sub_means names) v w x y ev ew))
  operator Mul numbers v w at (Whole x) (Whole y) ev ew k =
      let made = op.operated Mul numbers v w in
      follows_check names (range_goals made) [] (is_int (x *ℤ y)) Range at (Done (Whole (x *ℤ y))) made (range_is made (x *ℤ y) (made_of (of_two term.mul) ◌*ℤ◌ (mul_means names) v w x y ev ew))
      (λ h. follows_done names (Whole (x *ℤ y)) made (made_of (of_two term.mul) ◌*ℤ◌ (mul_means names) v w x y ev ew))
  operator Div numbers v w at (Whole x) (Whole y) ev ew k =
      let made = op.operated Div numbers v w in
      follows_check names (divisor_goals w) (range_goals made ++ []) (not (same_number y (pos 0))) Divisor at (in_range at (int_div_euclid x y)) made (divisor_is w y ew) (λ some.
      let is = made_of (of_two term.div) shapes.quotient (div_means names) v w x y ev ew ∙ ap Whole (quotient_is x y (nonzero y some)) in
      follows_check names (range_goals made) [] (is_int (int_div_euclid x y)) Range at (Done (Whole (int_div_euclid x y))) made (range_is made (int_div_euclid x y) is) (λ h. follows_done names (Whole (int_div_euclid x y)) made is))
  operator Mod numbers v w at (Whole x) (Whole y) ev ew k =
      let made = op.operated Mod numbers v w in
      follows_check names (divisor_goals w) [] (not (same_number y (pos 0))) Divisor at (Done (Whole (int_rem_euclid x y))) made (divisor_is w y ew) (λ some.
      follows_done names (Whole (int_rem_euclid x y)) made (made_of (of_two term.rem) shapes.remainder (rem_means names) v w x y ev ew ∙ ap Whole (remainder_is x y (nonzero y some))))
  operator Equal true v w at (Whole x) (Whole y) ev ew k = follows_done names (Truth (same (Whole x) (Whole y))) (op.equality true v w) (same_as_numbers v w x y ev ew)
  operator Equal false v w at d e ev ew k =
      follows_done names (Truth (same d e)) (op.equality false v w)
      (value_means names (equal v w) ∙ ap Truth (equal_means names v w ∙ ap (λ (a : Datum). same a (datum names w)) ev ∙ ap (same d) ew))
  operator Less numbers v w at (Whole x) (Whole y) ev ew k = follows_done names (Truth (int_lt x y)) (op.operated Less numbers v w) (tested less_than int_lt (less_means names) v w x y ev ew)
  operator LessEqual numbers v w at (Whole x) (Whole y) ev ew k = follows_done names (Truth (int_le x y)) (op.operated LessEqual numbers v w) (tested at_most int_le (at_most_means names) v w x y ev ew)
  operator Greater numbers v w at (Whole x) (Whole y) ev ew k = follows_done names (Truth (int_lt y x)) (op.operated Greater numbers v w) (tested less_than int_lt (less_means names) w v y x ew ev)
  operator GreaterEqual numbers v w at (Whole x) (Whole y) ev ew k = follows_done names (Truth (int_le y x)) (op.operated GreaterEqual numbers v w) (tested at_most int_le (at_most_means names) w v y x ew ev)
  operator And numbers v w at d (Truth b) ev ew k =
      follows_done names (Truth b) (op.operated And numbers v w)
      (value_means names (all_of (formula v ∷ formula w ∷ []))
      ∙ ap Truth (all_means names (formula v ∷ formula w ∷ []) ∙ ap (λ (c : Bool). c && (holds names (formula w) && true)) (formula_means names v true (ev ∙ k.0)) ∙ and_end (holds names (formula w)) ∙ formula_means names w b ew))
  operator Or numbers v w at d (Truth b) ev ew k =
      follows_done names (Truth b) (op.operated Or numbers v w)
      (value_means names (any_of (formula v ∷ formula w ∷ []))
      ∙ ap Truth (some_means names (formula v ∷ formula w ∷ []) ∙ ap (λ (c : Bool). c || (holds names (formula w) || false)) (formula_means names v false (ev ∙ k.0)) ∙ or_end (holds names (formula w)) ∙ formula_means names w b ew))
  operator o numbers v w at d e ev ew k = absurd (assumption k)

pub operators_agree : OperatorsAgree
operators_agree names o numbers v w at k = operator names o numbers v w at (datum_of names v) (datum_of names w) refl refl k
