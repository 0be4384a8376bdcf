use Rattle.wy_term.specs.Nodes.{tree_at}
use Rattle.wy_search_facts.specs.Seen.{seen_spot}
use Rattle.wy_search.proofs.TurnLemmas.{both_sides}
use Rattle.wy_search.proofs.turning.split.Goals as goal

pub with_atom-requires-clause-spot : goal.with_atom-requires-clause-spot
with_atom-requires-clause-spot c = c.in_ok-copy.ensures.spot c.args.terms.now c.requires.spot

pub returns-clause-value : goal.returns-clause-value
returns-clause-value c =
    let at = tree_at c.args.terms.now in
    both_sides (seen_spot at c.args.spot) (seen_spot at c.in_ok-copy.copy) (seen_spot at c.in_ok-left.left) (seen_spot at c.in_ok-right.right) (at c.args.atom) (c.in_ok-copy.ensures.seen at) c.in_ok-left.ensures.value c.in_ok-right.ensures.value
