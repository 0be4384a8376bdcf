use Rattle.std.proofs.Common.{◌≡◌, inl, true, nat_eq, rules}
use Rattle.std.specs.HashSet.{contains}
use Rattle.wy_cong.proofs.BegunLemmas.{begins_one}
use Rattle.wy_cong.proofs.walk.begin_held.Goals as goal

pub returns-then-not-holds : goal.returns-then-not-holds
returns-then-not-holds c = λ q e. inl e

pub returns : goal.returns
returns c =
    let up : c.args.holds ≡ true = search rules in
    begins_one (contains nat_eq c.args.begun.now) (contains nat_eq c.insert.new.self) c.args.holds c.args.k up c.in_ok-insert.ensures.updates.0
