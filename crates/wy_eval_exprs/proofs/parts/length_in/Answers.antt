use Rattle.std.proofs.Common.{◌≡◌, true, refl, sym, ap, ◌∙◌, subst, to_z, of_z, pos}
use Rattle.std.specs.Prelude.{int_lt}
use Rattle.std.specs.Int.{w128}
use lib.IntN.{nat_abs}
use Rattle.std.proofs.lemmas.Int.{to_z-of_z}
use Rattle.wy_eval_exprs.specs.Parts.{is_length}
use Rattle.wy_eval_exprs.proofs.NumberLemmas.{length_is, no_length_over}
use Rattle.wy_eval_exprs.proofs.parts.length_in.Goals as goal

pub returns-then-number-gt-LONGEST : goal.returns-then-number-gt-LONGEST
returns-then-number-gt-LONGEST c =
    let z = c.args.number in
    let ez : to_z w128 (of_z w128 z) ≡ z = to_z-of_z w128 z c.ranges.number in
    record { value = (refl, no_length_over z (ap (λ y. int_lt (pos 9223372036854775807) y) (sym ez) ∙ c.if-number-gt-LONGEST.true)) }

pub returns : goal.returns
returns c =
    let z = c.args.number in
    let ez : to_z w128 (of_z w128 z) ≡ z = to_z-of_z w128 z c.ranges.number in
    record {
      value = subst (λ y. (z ≡ pos (nat_abs y)) × (is_length (pos (nat_abs y)) ≡ true)) (sym ez)
          (length_is z (ap (λ y. int_lt y (pos 0)) (sym ez) ∙ c.if-number-lt0.false) (ap (λ y. int_lt (pos 9223372036854775807) y) (sym ez) ∙ c.if-number-gt-LONGEST.false));
    }
