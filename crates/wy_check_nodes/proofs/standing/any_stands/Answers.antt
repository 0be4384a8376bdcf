use Rattle.std.proofs.Common.{◌≡◌, ◌<◌, length, get_or, false, rules}
use Rattle.wy_check_spec.specs.wy_term.Nodes.{tree_at}
use Rattle.wy_check_spec.specs.judge.Judgement.{judged}
use Rattle.wy_check_nodes.specs.Judged.{fails}
use Rattle.wy_check_nodes.specs.Seen.{seen_branch}
use Rattle.wy_check_nodes.proofs.StandingLemmas.{stands_here}
use Rattle.wy_check_nodes.proofs.standing.any_stands.Goals as goal

pub returns-then-stands : goal.returns-then-stands
returns-then-stands c =
    let at = tree_at c.args.terms.now in
    let ls = (seen_branch at c.args.branch.now).literals in
    let lt : c.loop-i.i < length c.args.members.now = search rules in
    let un : fails (judged ls (at (get_or c.args.members.now c.loop-i.i 0))) c.args.holds ≡ false = search rules in
    λ up. stands_here at ls c.args.holds c.args.members.now c.loop-i.i lt un
