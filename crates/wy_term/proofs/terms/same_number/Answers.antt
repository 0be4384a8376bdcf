use Rattle.wy_term.proofs.NodesLemmas.{same_is_number}
use Rattle.wy_term.proofs.terms.same_number.Goals as goal

pub returns : goal.returns
returns c = same_is_number _ c.requires.nodes c.args.s c.args.t c.requires.first c.requires.second
