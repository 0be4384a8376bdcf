-- What elimination refutes is closed by chains, cuts and a sum.
use Rattle.wy_search_laws.proofs.chains_lemmas.ClashLemmas.{literals_sorted, trees_close}
use Rattle.wy_search_bounds.specs.wy_check_spec.valid.Trees.{Tree, Closes}
use Rattle.wy_search_laws.specs.chains.Chains.{HasSteps}
use Rattle.wy_search_laws.specs.sums.Refuted.{RefutedClose}
use Rattle.wy_search_laws.proofs.sums_lemmas.ReplacedLemmas.{refuted_closable}

pub refuted_nodes_close : RefutedClose
refuted_nodes_close types base node literals pending e more = refuted_closable types (HasSteps types) (trees_close types) base (record { literals = literals_sorted base.literals literals; pending = pending }) e node more
