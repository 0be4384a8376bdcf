use Rattle.std.proofs.Common.{◌++◌, List, sym, ap, ◌∙◌}
use Rattle.std.specs.Prelude.{option_map}
use Rattle.wy_term.specs.Nodes.{tree_at}
use Rattle.wy_vc_laws.specs.wy_check_spec.judge.Node.{Node}
use Rattle.wy_check_splits.specs.wy_check_nodes.Seen.{seen_branch}
use Rattle.wy_check_splits.specs.wy_check_nodes.Trail.{second_nodes}
use Rattle.wy_check_splits.proofs.wy_check_nodes_proofs.SumsBranchLemmas.{node_stays}
use Rattle.wy_check.specs.Led.{led}
use Rattle.wy_check.proofs.TrailLemmas.{seconds_stay, trail_stays}
use Rattle.wy_check.proofs.turning.turned.Goals as goal

pub returns-in-Ok-clause-value : goal.returns-in-Ok-clause-value
returns-in-Ok-clause-value c =
    let old = c.args.terms.now in
    let new = c.outcome_of.new.terms in
    let b = c.args.trail.branch in
    let ws = c.args.trail.waiting.items in
    let stays = c.in_ok-outcome.ensures.stays in
    let is = c.requires.trail in
    let below = led (tree_at new) (seen_branch (tree_at old) b) c.in-Some.outcome in
    let same = node_stays old new b stays is.branch in
    let seconds = seconds_stay old new b _ _ ws stays is.branch.literals is.branch.pending is.waiting in (
      below,
      sym c.in_ok-outcome.ensures.value ∙ ap (option_map (led (tree_at new) (seen_branch (tree_at old) b))) c.in-Some.is,
      c.in-Ok.ensures.nodes ∙ (ap (λ (node : Node). led (tree_at new) node c.in-Some.outcome ++ second_nodes (tree_at new) b ws) same ∙ ap (λ (ns : List Node). below ++ ns) seconds),
    )

pub taken-requires-clause-trail : goal.taken-requires-clause-trail
taken-requires-clause-trail c = trail_stays c.args.terms.now c.outcome_of.new.terms c.args.trail c.in_ok-outcome.ensures.stays c.requires.trail
