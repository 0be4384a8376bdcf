use Rattle.std.proofs.Common.{◌≡◌, ◌∙◌, ◌<◌, ◌≤◌, false, true, length, rules, sym}
use Rattle.wy_cong.proofs.StandingLemmas.{bound_here, bound_later, bound_never}
use Rattle.wy_cong.proofs.caught.is_caught.Goals as goal
use Rattle.wy_term.specs.Nodes.{tree_at}
use Rattle.wy_term.specs.Scope.{free_names}

pub returns-then-branch : goal.returns-then-branch
returns-then-branch c =
    let at = tree_at c.args.terms.now in
    let lt : c.loop-i.i < length c.args.around.now = search rules in
    let up : c.in_ok-binds_one.field-0 ≡ true = search rules in
    record { value = bound_here at c.args.around.now c.loop-i.i c.quantifier_at-q.result (free_names (at c.args.t)) _ lt c.quantifier_at-q.ensures c.loop-i.invariant (sym c.in_ok-binds_one.ensures.value ∙ up) }

pub loop-i-preserved : goal.loop-i-preserved
loop-i-preserved c =
    let at = tree_at c.args.terms.now in
    let lt : c.loop-i.i < length c.args.around.now = search rules in
    let un : c.in_ok-binds_one.field-0 ≡ false = search rules in
    bound_later at c.args.around.now c.loop-i.i c.quantifier_at-q.result (free_names (at c.args.t)) _ lt c.quantifier_at-q.ensures c.loop-i.invariant (sym c.in_ok-binds_one.ensures.value ∙ un)

pub returns : goal.returns
returns c =
    let at = tree_at c.args.terms.now in
    let le : length c.args.around.now ≤ c.loop-i.i = search rules in
    record { value = bound_never at c.args.around.now c.loop-i.i (free_names (at c.args.t)) _ le c.loop-i.invariant }
