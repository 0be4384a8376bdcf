-- A round keeps formulas sorted, and so each search ends.
use Rattle.std.proofs.Common.{List}
use Rattle.wy_search_bounds.specs.wy_term.Condition.{Entry}
use Rattle.wy_search_bounds.specs.wy_term.Unfolding.{AreClosed}
use Rattle.wy_search_bounds.specs.wy_search_spec.Expansion.{Spot, expanded, index_terms, with_facts, with_instances, with_products, with_witnesses}
use Rattle.wy_search_bounds.specs.wy_search_spec.Tree.{first_spot}
use Rattle.wy_search_bounds.specs.wy_check_laws.sound.Sortedness.{AreSortedEntries}
use Rattle.wy_search_bounds.proofs.wy_check_laws_proofs.sound_lemmas.NodeLemmas.{IsSortedNode, first_sorted}
use Rattle.wy_search_laws.proofs.sound_lemmas.StandingLemmas.{indices_sorted}
use Rattle.wy_search_laws.proofs.sound_lemmas.FollowingLemmas.{facts_follow, follows_self, instances}
use Rattle.wy_search_laws.proofs.sound_lemmas.ProductsLemmas.{products_follow}
use Rattle.wy_search_laws.proofs.sound_lemmas.WitnessLemmas.{witnesses_refine}
use Rattle.wy_search_laws.specs.ends.Ends.{EverySearchEnds}
use Rattle.wy_search_laws.proofs.ends_lemmas.EndLemmas.{ended, finishes_all}

module _ (types : List Entry) (are_closed : AreClosed types) (entries : AreSortedEntries types) where
  round_sorted : (q : Spot) → IsSortedNode q.node → IsSortedNode (with_products (with_facts types (with_instances q.node q.node.literals (index_terms q))))
  round_sorted q h =
      let one = instances types q.node q.node q.node.literals (index_terms q) (λ names real told. told.literals) h.literals (indices_sorted q.node _ h) (follows_self types q.node h) in
      let two = facts_follow types (with_instances q.node q.node.literals (index_terms q)) are_closed entries one.sorted in
      let three = products_follow types (with_facts types (with_instances q.node q.node.literals (index_terms q))) two.sorted in
      three.sorted

  pub expanded_sorted : (p : Spot) → IsSortedNode p.node → IsSortedNode (expanded types p).node
  expanded_sorted p h =
      let one = witnesses_refine types p are_closed entries h in
      round_sorted (with_witnesses p p.node.literals) one.sorted

pub every_ends : EverySearchEnds
every_ends c budget sorted are_closed =
    let e = ended c.types budget 0 (first_spot c) (finishes_all c.types budget (expanded_sorted c.types are_closed sorted.types) (first_spot c) (first_sorted c sorted)) in
    (e.verdict, (e.turns, e.is))
