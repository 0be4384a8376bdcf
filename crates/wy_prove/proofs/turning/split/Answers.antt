use Rattle.std.proofs.Common.{◌∙◌, true, ap}
use Rattle.wy_term.specs.Nodes.{tree_at}
use Rattle.wy_prove_leaves.specs.wy_search_spec.Expansion.{Spot}
use Rattle.wy_prove_rounds.specs.wy_search.Turns.{with_side}
use Rattle.wy_prove.proofs.turning.split.Goals as goal

pub with_atom-requires-clause-spot : goal.with_atom-requires-clause-spot
with_atom-requires-clause-spot c = c.in_ok-copy.ensures.spot c.args.terms.now c.requires.spot

pub returns-clause-value : goal.returns-clause-value
returns-clause-value c = λ free atom.
    let at = tree_at c.args.terms.now in
    (free, atom, c.in_ok-left.ensures.value ∙ ap (λ (q : Spot). with_side q (at c.args.atom) true) (c.in_ok-copy.ensures.seen at), c.in_ok-right.ensures.value)
