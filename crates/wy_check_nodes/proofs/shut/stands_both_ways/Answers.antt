use Rattle.std.proofs.Common.{◌≡◌, rules, true, false}
use Rattle.wy_check_spec.specs.wy_term.Nodes.{tree_at}
use Rattle.wy_check_nodes.specs.Seen.{seen_branch}
use Rattle.wy_check_nodes.proofs.ShutLemmas.{holds_too, both_now, both_later, denied_both}
use Rattle.wy_check_nodes.proofs.shut.stands_both_ways.Goals as goal

pub loop-i-init : goal.loop-i-init
loop-i-init c = denied_both (seen_branch (tree_at c.args.terms.now) c.args.branch.now).literals

pub returns-then-holds_too : goal.returns-then-holds_too
returns-then-holds_too c =
    let at = tree_at c.args.terms.now in
    let all = (seen_branch at c.args.branch.now).literals in
    let up : holds_too all at c.nth_literal-atom.result ≡ true = search rules in
    both_now all at c.args.branch.now.literals.keys c.loop-i.i c.nth_literal-atom.result _ c.nth_literal-atom.ensures.value c.loop-i.invariant up

pub loop-i-preserved : goal.loop-i-preserved
loop-i-preserved c =
    let at = tree_at c.args.terms.now in
    let all = (seen_branch at c.args.branch.now).literals in
    let un : holds_too all at c.nth_literal-atom.result ≡ false = search rules in
    both_later all at c.args.branch.now.literals.keys c.loop-i.i c.nth_literal-atom.result _ c.nth_literal-atom.ensures.value c.loop-i.invariant un
