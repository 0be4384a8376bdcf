-- Where the node behind a round of the search can be closed, so can the one before it.
use Rattle.std.proofs.Common.{List}
use Rattle.wy_search_bounds.specs.wy_term.Condition.{Entry}
use Rattle.wy_search_bounds.specs.wy_search_spec.Expansion.{Spot, with_witnesses, index_terms, with_instances, with_facts, expanded}
use Rattle.wy_search_bounds.proofs.wy_check_laws_proofs.sound_lemmas.NodeLemmas.{IsSortedNode}
use Rattle.wy_search_laws.proofs.closing_lemmas.Closing.{IsFoldedNode, LeadsOn}
use Rattle.wy_search_laws.proofs.rounds_lemmas.RoundLemmas.{Grows, grows_on, facts_grow, instances_grow, witnesses_grow}
use Rattle.wy_search_laws.proofs.rounds_lemmas.ProductLemmas.{products_grow}

pub expanded_grows : (types : List Entry) (p : Spot) → LeadsOn types → IsSortedNode p.node → IsFoldedNode p.node → Grows types p.node (expanded types p).node
expanded_grows types p leads_on h g =
    let q = with_witnesses p p.node.literals in
    let one = witnesses_grow types leads_on p h g in
    let two = instances_grow types leads_on q one.sorted one.folded in
    let three = facts_grow types leads_on (with_instances q.node q.node.literals (index_terms q)) two.sorted two.folded in
    let four = products_grow types leads_on (with_facts types (with_instances q.node q.node.literals (index_terms q))) three.sorted three.folded in
    grows_on types p.node q.node (expanded types p).node one
    (grows_on types q.node (with_instances q.node q.node.literals (index_terms q)) (expanded types p).node two
    (grows_on types (with_instances q.node q.node.literals (index_terms q)) (with_facts types (with_instances q.node q.node.literals (index_terms q))) (expanded types p).node three four))
