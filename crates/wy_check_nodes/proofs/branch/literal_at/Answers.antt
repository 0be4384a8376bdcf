use Rattle.std.proofs.Common.{◌≡◌, ◌-◌, length, rules}
use Rattle.std.specs.Prelude.{slice_get}
use Rattle.wy_check_nodes.proofs.BranchLemmas.{over_some}
use Rattle.wy_check_nodes.proofs.branch.literal_at.Goals as goal

pub returns-clause-within : goal.returns-clause-within
returns-clause-within c =
    let e : c.copied.result ≡ slice_get c.args.branch.now.literals.keys (c.args.i - 1) = search rules in
    over_some (length c.args.terms.now) c.args.branch.now.literals.keys (c.args.i - 1) c.copied.result c.requires.literals e
