-- What the terms of operations mean is what the operations denote.
use Rattle.std.proofs.Common.{◌≡◌, ℕ, List, [], ◌∷◌, Bool, true, false, not, ◌&&◌, ◌||◌, ℤ, neg_ℤ, ◌+ℤ◌, ◌-ℤ◌, ◌*ℤ◌, int_le, int_lt, refl, ap, ◌∙◌}
use Rattle.wy_lemmas.proofs.Choices.{and_end, or_none as or_end}
use Rattle.wy_lemmas.proofs.Equations.{both_same}
use Rattle.wy_value.specs.Datum.{Truth, Whole}
use Rattle.wy_core.specs.declared.expressions.Op.{Op}
use Rattle.wy_core.specs.declared.expressions.Op.TheVariants.{Add, Sub, Mul, Div, Mod, Equal, Less, LessEqual, Greater, GreaterEqual, And, Or}
use Rattle.wy_term.specs.Term as term
use Rattle.wy_term.specs.Term.{Term}
use Rattle.wy_term.specs.Sorts.{val_sort}
use Rattle.wy_term.specs.Data.{quotient, remainder, number_in, length_in}
use Rattle.wy_term.specs.Meaning.{Names, with_number, distance}
use Rattle.wy_sound_statements.specs.wy_vc_spec.Making.{of_one, of_two, num, len, truth, int, all_of, any_of, denied, at_most, less_than, equal, formula, bound}
use Rattle.wy_sound_statements.specs.wy_vc_spec.Operations as op
use Rattle.wy_vc_laws.proofs.wy_sound_terms_proofs.formed_lemmas.MakingLemmas.{IsOf, num_sorted, formula_sorted}
use Rattle.wy_vc_laws.proofs.wy_sound_terms_proofs.operations_lemmas.MadeLemmas.{number, datum, holds, all, num_means, len_means, add_means, sub_means, mul_means, div_means, rem_means, neg_means, int_means, value_means, at_most_means, denied_means, less_means, equal_means, all_means, some_means}
use Rattle.wy_sound_statements.proofs.wy_sound_walks_proofs.expressions_lemmas.QuantifierLemmas.{range, bound_means}
use Rattle.wy_sound_types.specs.members.Denotations.{is_true, equals, operates, holds_of, holds_between}

module _ (u : Names) where
  pub formula_is : (v : Term) → holds u (formula v) ≡ is_true (datum u v)
  formula_is v = equal_means u v (truth true)

  both_hold : (f g : Term) (a b : Bool) → holds u f ≡ a → holds u g ≡ b → holds u (all_of (f ∷ g ∷ [])) ≡ (a && b)
  both_hold f g a b p q = all_means u (f ∷ g ∷ []) ∙ both_same (λ (x y : Bool). x && y) (holds u f) a (holds u g && true) b p (and_end (holds u g) ∙ q)

  one_holds : (f g : Term) (a b : Bool) → holds u f ≡ a → holds u g ≡ b → holds u (any_of (f ∷ g ∷ [])) ≡ (a || b)
  one_holds f g a b p q = some_means u (f ∷ g ∷ []) ∙ both_same (λ (x y : Bool). x || y) (holds u f) a (holds u g || false) b p (or_end (holds u g) ∙ q)

  le_is : (v w : Term) → holds u (at_most (num v) (num w)) ≡ int_le (number_in (datum u v)) (number_in (datum u w))
  le_is v w = at_most_means u (num v) (num w) ∙ both_same int_le (number u (num v)) (number_in (datum u v)) (number u (num w)) (number_in (datum u w)) (num_means u v) (num_means u w)

  lt_is : (v w : Term) → holds u (less_than (num v) (num w)) ≡ int_lt (number_in (datum u v)) (number_in (datum u w))
  lt_is v w = less_means u (num v) (num w) ∙ both_same int_lt (number u (num v)) (number_in (datum u v)) (number u (num w)) (number_in (datum u w)) (num_means u v) (num_means u w)

  arithmetic : (made : Term) (f : ℤ → ℤ → ℤ) (v w : Term) → number u made ≡ f (number u (num v)) (number u (num w)) → datum u (int made) ≡ Whole (f (number_in (datum u v)) (number_in (datum u w)))
  arithmetic made f v w e =
      int_means u made ∙ ap Whole (e ∙ both_same f (number u (num v)) (number_in (datum u v)) (number u (num w)) (number_in (datum u w)) (num_means u v) (num_means u w))

  equality_is : (numbers : Bool) (v w : Term) → datum u (op.equality numbers v w) ≡ Truth (equals numbers (datum u v) (datum u w))
  equality_is true v w =
      value_means u (all_of (at_most (num v) (num w) ∷ at_most (num w) (num v) ∷ []))
      ∙ ap Truth (both_hold (at_most (num v) (num w)) (at_most (num w) (num v)) (int_le (number_in (datum u v)) (number_in (datum u w))) (int_le (number_in (datum u w)) (number_in (datum u v))) (le_is v w) (le_is w v))
  equality_is false v w = value_means u (equal v w) ∙ ap Truth (equal_means u v w)

  pub operated_means : (o : Op) (numbers : Bool) (v w : Term) → datum u (op.operated o numbers v w) ≡ operates o numbers (datum u v) (datum u w)
  operated_means Add numbers v w = arithmetic (of_two term.add (num v) (num w)) (λ x y. x +ℤ y) v w (add_means u (num v) (num w))
  operated_means Sub numbers v w = arithmetic (of_two term.sub (num v) (num w)) (λ x y. x -ℤ y) v w (sub_means u (num v) (num w))
  operated_means Mul numbers v w = arithmetic (of_two term.mul (num v) (num w)) (λ x y. x *ℤ y) v w (mul_means u (num v) (num w))
  operated_means Div numbers v w = arithmetic (of_two term.div (num v) (num w)) quotient v w (div_means u (num v) (num w))
  operated_means Mod numbers v w = arithmetic (of_two term.rem (num v) (num w)) remainder v w (rem_means u (num v) (num w))
  operated_means Equal numbers v w = equality_is numbers v w
  operated_means Less numbers v w = value_means u (less_than (num v) (num w)) ∙ ap Truth (lt_is v w)
  operated_means LessEqual numbers v w = value_means u (at_most (num v) (num w)) ∙ ap Truth (le_is v w)
  operated_means Greater numbers v w = value_means u (less_than (num w) (num v)) ∙ ap Truth (lt_is w v)
  operated_means GreaterEqual numbers v w = value_means u (at_most (num w) (num v)) ∙ ap Truth (le_is w v)
  operated_means And numbers v w =
      value_means u (all_of (formula v ∷ formula w ∷ []))
      ∙ ap Truth (both_hold (formula v) (formula w) (is_true (datum u v)) (is_true (datum u w)) (formula_is v) (formula_is w))
  operated_means Or numbers v w =
      value_means u (any_of (formula v ∷ formula w ∷ []))
      ∙ ap Truth (one_holds (formula v) (formula w) (is_true (datum u v)) (is_true (datum u w)) (formula_is v) (formula_is w))

  pub negated_means : (v : Term) → datum u (op.negated v) ≡ Whole (neg_ℤ (number_in (datum u v)))
  negated_means v = int_means u (of_one term.neg (num v)) ∙ ap Whole (neg_means u (num v) ∙ ap neg_ℤ (num_means u v))

  pub denial_means : (v : Term) → datum u (op.with_denial v) ≡ Truth (not (is_true (datum u v)))
  denial_means v = value_means u (denied (formula v)) ∙ ap Truth (denied_means u (formula v) ∙ ap not (formula_is v))

  pub length_means : (v : Term) → datum u (op.length v) ≡ Whole (length_in (datum u v))
  length_means v = int_means u (len v) ∙ ap Whole (len_means u v)

  ranges_are : (all : Bool) (z : ℤ) (n : ℕ) (test : ℤ → Bool) → range all z n test ≡ holds_of all z n test
  ranges_are true z n test = refl
  ranges_are false z n test = refl

  pub quantified_means : (all : Bool) (word : List ℕ) (n : ℕ) (v w f : Term) → IsOf val_sort v → IsOf val_sort w → IsOf val_sort f
      → datum u (op.quantified all word n v w f) ≡ Truth (holds_between all (datum u v) (datum u w) (λ i. holds (with_number u word n i) (formula f)))
  quantified_means all word n v w f a b c =
      value_means u (bound all word n (num v) (num w) (formula f))
      ∙ ap Truth (bound_means all word n (num v) (num w) (formula f) u (num_sorted a) (num_sorted b) (formula_sorted c)
      ∙ ranges_are all (number u (num v)) (distance (number u (num w) -ℤ number u (num v))) (λ i. holds (with_number u word n i) (formula f))
      ∙ both_same (λ (x y : ℤ). holds_of all x (distance (y -ℤ x)) (λ i. holds (with_number u word n i) (formula f))) (number u (num v)) (number_in (datum u v)) (number u (num w)) (number_in (datum u w)) (num_means u v) (num_means u w))
