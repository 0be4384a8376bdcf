use Rattle.std.proofs.Common.{◌≡◌, ◌∷◌, length, rules}
use Rattle.wy_cong.proofs.FirstLemmas.{below_behind}
use Rattle.wy_cong.proofs.atoms.list_atoms.Goals as goal

pub take-requires-clause-tasks : goal.take-requires-clause-tasks
take-requires-clause-tasks c =
    let is : c.loop-turn.tasks.items ≡ c.in-Some.g ∷ c.pop_front.new.self.items = search rules in
    below_behind (length c.args.terms.now) c.in-Some.g c.loop-turn.tasks.items c.pop_front.new.self.items is c.loop-turn.invariant.tasks
