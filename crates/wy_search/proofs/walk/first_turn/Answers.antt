use Rattle.std.proofs.Common.{◌≡◌, ◌∷◌, [], ap, map, arith}
use Rattle.wy_search_bounds.proofs.KnownLemmas.{on_ok_anyway}
use Rattle.wy_term.specs.Nodes.{tree_at}
use Rattle.wy_term.specs.Condition.{condition_of}
use Rattle.wy_check_nodes.specs.Seen.{seen_branch}
use Rattle.wy_search_facts.specs.wy_search_spec.Tree as tree
use Rattle.wy_search_facts.specs.Seen.{seen_spot}
use Rattle.wy_search.specs.Turns.{begun}
use Rattle.wy_search.proofs.WalkLemmas.{leads_by, turn_follows, turn_spent}
use Rattle.wy_search.proofs.walk.first_turn.Goals as goal

pub returns-then-budget-eq0-clause-value : goal.returns-then-budget-eq0-clause-value
returns-then-budget-eq0-clause-value c =
    let none : 0 ≡ c.args.budget = omega (arith, c.if-budget-eq0.true) in
    turn_spent (condition_of c.args.terms.now c.args.cond.now).types c.args.budget 0 (begun (seen_branch (tree_at c.args.terms.now) c.args.branch.now)) [] none

pub returns-clause-value : goal.returns-clause-value
returns-clause-value c =
    let now = c.what_follows_first.new.terms in
    let types = (condition_of c.args.terms.now c.args.cond.now).types in
    let p = begun (seen_branch (tree_at c.args.terms.now) c.args.branch.now) in
    let left = map (seen_spot (tree_at now)) c.new.result.items in
    leads_by c.behind.result (tree_at now) (tree.follows (tree.next types p) 0 p left) (tree.one_turn types c.args.budget 0 (p ∷ []))
    (turn_follows types c.args.budget 0 p [] left (λ e. c.if-budget-eq0.false (omega (arith, e))) (ap (map (seen_spot (tree_at now))) c.new.ensures.items))
    (c.behind.ensures.value p (tree.next types p) c.in_ok-next.ensures.value)

pub returns-clause-known : goal.returns-clause-known
returns-clause-known c = on_ok_anyway _ c.behind.result c.in_ok-next.ensures.known
