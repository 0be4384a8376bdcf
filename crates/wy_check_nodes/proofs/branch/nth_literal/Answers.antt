use Rattle.std.proofs.Common.{◌≡◌, Some, length, rules}
use Rattle.std.specs.Prelude.{slice_get}
use Rattle.wy_check_nodes.proofs.BranchLemmas.{over_get}
use Rattle.wy_check_nodes.proofs.branch.nth_literal.Goals as goal

pub returns-in-Some-clause-within : goal.returns-in-Some-clause-within
returns-in-Some-clause-within c =
    let e : slice_get c.args.branch.now.literals.keys c.args.i ≡ Some c.in-Some.l.now = search rules in
    over_get (length c.args.terms.now) c.args.branch.now.literals.keys c.args.i c.in-Some.l.now c.requires.branch.literals e
