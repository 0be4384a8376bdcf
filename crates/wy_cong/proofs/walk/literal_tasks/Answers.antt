use Rattle.std.proofs.Common.{◌≡◌, ◌≤◌, ◌++◌, ◌∷◌, [], length, rules, true}
use Rattle.wy_cong.proofs.StandingLemmas.{all_literals, more_literals}
use Rattle.wy_cong.proofs.walk.literal_tasks.Goals as goal
use Rattle.wy_cong.specs.declared.task.Task.TheVariants.{Visit}

pub loop-i-preserved : goal.loop-i-preserved
loop-i-preserved c =
    let put : c.push_back.new.self.items ≡ c.loop-i.tasks.items ++ Visit c.nth_literal-a.result.0 true ∷ [] = search rules in
    more_literals c.loop-i.tasks.items c.push_back.new.self.items c.args.branch.now.literals.keys c.loop-i.i c.nth_literal-a.result _ c.nth_literal-a.ensures.value c.loop-i.invariant put

pub returns : goal.returns
returns c =
    let le : length c.args.branch.now.literals.keys ≤ c.loop-i.i = search rules in
    record { value = all_literals c.loop-i.tasks.items c.args.branch.now.literals.keys c.loop-i.i _ le c.loop-i.invariant }
