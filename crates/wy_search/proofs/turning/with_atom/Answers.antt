use Rattle.std.proofs.Common.{map, ap}
use Rattle.wy_term.specs.Nodes.{tree_at}
use Rattle.wy_search_facts.specs.wy_check_spec.judge.Node.{Node}
use Rattle.wy_check_nodes.specs.Seen.{seen_branch}
use Rattle.wy_search.proofs.SpotLemmas.{made_spot}
use Rattle.wy_search.proofs.turning.with_atom.Goals as goal

pub returns-clause-value : goal.returns-clause-value
returns-clause-value c =
    let at = tree_at c.args.terms.now in
    ap (λ (n : Node). made_spot n (seen_branch at c.args.spot.had).literals (map at c.args.spot.names.items) c.args.spot.rounds) c.in_ok-add.ensures.value
