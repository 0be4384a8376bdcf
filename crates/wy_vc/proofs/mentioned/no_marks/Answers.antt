use Rattle.std.proofs.Common.{◌≡◌, ◌++◌, ◌∷◌, [], false, rules}
use Rattle.wy_vc.proofs.MarkLemmas.{none_pushed}
use Rattle.wy_vc.proofs.mentioned.no_marks.Goals as goal

pub loop-number-preserved : goal.loop-number-preserved
loop-number-preserved c =
    let pushed : c.push.new.self.items ≡ c.loop-number.marks.items ++ false ∷ [] = search rules in
    none_pushed c.loop-number.marks.items c.push.new.self.items c.loop-number.number pushed c.loop-number.invariant
