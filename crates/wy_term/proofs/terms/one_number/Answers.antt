use Rattle.std.proofs.Common.{ap}
use Rattle.wy_term.specs.Nodes.{tree_at}
use Rattle.wy_term.proofs.NodesLemmas.{one_number}
use Rattle.wy_term.proofs.terms.one_number.Goals as goal

pub returns : goal.returns
returns c = λ s t in_s in_t. (λ e. ap (tree_at _) e, λ e. one_number _ c.requires s t in_s in_t e)
