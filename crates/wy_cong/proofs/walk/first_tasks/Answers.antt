use Rattle.std.proofs.Common.{◌≡◌, ◌≤◌, ◌++◌, ◌∷◌, [], length, rules}
use Rattle.wy_cong.proofs.StandingLemmas.{all_pending, more_pending}
use Rattle.wy_cong.proofs.walk.first_tasks.Goals as goal
use Rattle.wy_cong.specs.declared.task.Task.TheVariants.{Visit}

pub loop-i-preserved : goal.loop-i-preserved
loop-i-preserved c =
    let put : c.push_back.new.self.items ≡ c.loop-i.tasks.items ++ Visit c.pending_at-f.result.0 c.pending_at-f.result.1 ∷ [] = search rules in
    more_pending c.loop-i.tasks.items c.push_back.new.self.items c.args.branch.now.pending.keys c.loop-i.i c.pending_at-f.result _ c.pending_at-f.ensures c.loop-i.invariant put

pub returns : goal.returns
returns c =
    let le : length c.args.branch.now.pending.keys ≤ c.loop-i.i = search rules in
    record { value = all_pending c.loop-i.tasks.items c.args.branch.now.pending.keys c.loop-i.i _ le c.loop-i.invariant }
