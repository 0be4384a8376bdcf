use Rattle.std.proofs.Common.{◌≡◌, List, [], ◌∷◌, ◌++◌, Option, Some, get_or, nat_eq, rules}
use Rattle.std.specs.HashMap.{get}
use Rattle.wy_term.proofs.CopyingLemmas.{looked_step}
use Rattle.wy_term.proofs.copy.looked_up.Goals as goal

pub loop-k-preserved : goal.loop-k-preserved
loop-k-preserved c =
    let found : get nat_eq c.args.made.now (get_or c.args.parts.now c.loop-k.k 0) ≡ Some c.in-Some.image = search rules in
    let pushed : c.push.new.self.items ≡ c.loop-k.images.items ++ c.in-Some.image ∷ [] = search rules in
    record {
      value = looked_step (get nat_eq c.args.made.now) c.args.parts.now c.loop-k.images.items c.push.new.self.items c.loop-k.k c.in-Some.image c.loop-k-test.true c.loop-k.invariant.value found pushed;
      todo = c.loop-k.invariant.todo;
    }
