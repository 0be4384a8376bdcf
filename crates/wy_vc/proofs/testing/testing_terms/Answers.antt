use Rattle.std.proofs.Common.{◌≡◌, ◌++◌, ◌∷◌, ◌+◌, Bool, List, [], length, ap, subst, sym, rules}
use Rattle.wy_vc.specs.Tested.{AreQuiet}
use Rattle.wy_vc.proofs.TestedLemmas.{quiet_more, quiet_none}
use Rattle.wy_vc.proofs.testing.testing_terms.Goals as goal

pub loop-number-init : goal.loop-number-init
loop-number-init c = (ap (λ (l : List Bool). length l) c.new-marks.ensures.items, quiet_none c.args.terms.now c.new-marks.result.items c.new-marks.ensures.items)

pub loop-number-preserved : goal.loop-number-preserved
loop-number-preserved c =
    let pushed : c.push.new.self.items ≡ c.loop-number.marks.items ++ c.in_ok-mark.mark ∷ [] = search rules in
    let count : length c.push.new.self.items ≡ c.loop-number.number + 1 = search rules in (
      count,
      quiet_more c.args.terms.now c.loop-number.marks.items c.push.new.self.items c.in_ok-mark.mark c.loop-number.number c.loop-number.invariant.0 pushed
          (c.in_ok-mark.ensures.none (subst (λ (l : List Bool). AreQuiet c.args.terms.now l) (sym c.as_slice.ensures.value) c.loop-number.invariant.1)) c.loop-number.invariant.1,
    )
