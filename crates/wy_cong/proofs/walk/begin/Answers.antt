use Rattle.std.proofs.Common.{◌≡◌, true, nat_eq, rules}
use Rattle.std.specs.HashSet.{contains}
use Rattle.wy_cong.proofs.BegunLemmas.{begins_one}
use Rattle.wy_cong.proofs.walk.begin.Goals as goal

pub returns-then-outside-clause-begun : goal.returns-then-outside-clause-begun
returns-then-outside-clause-begun c =
    let up : c.args.outside ≡ true = search rules in
    begins_one (contains nat_eq c.args.begun.now) (contains nat_eq c.insert.new.self) c.args.outside c.args.k up c.in_ok-insert.ensures.updates.0
