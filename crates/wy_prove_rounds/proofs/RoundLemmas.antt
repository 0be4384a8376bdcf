-- Items of a round: a draft beside the node before one is beside the node behind it.
use Rattle.std.proofs.Common.{◌≡◌, List, [], sym, subst}
use Rattle.wy_term.specs.Term.{Term}
use Rattle.wy_term.specs.Condition.{Entry}
use Rattle.wy_prove_drafts.specs.wy_check_spec.judge.Node.{Node}
use Rattle.wy_prove_drafts.specs.wy_search_spec.Expansion.{Spot, with_witnesses, with_instances, with_facts, with_products}
use Rattle.wy_search.specs.Turns.{begun, index_terms_in}
use Rattle.wy_search.proofs.SpotLemmas.{made_spot}
use Rattle.wy_prove_drafts.proofs.wy_check_laws_proofs.sound_lemmas.StepLemmas.{step_leads}
use Rattle.wy_prove_drafts.proofs.wy_search_laws_proofs.closing_lemmas.AtLeastLemmas.{at_least_self}
use Rattle.wy_prove_drafts.specs.wy_search_laws.closing.AtLeast.{IsNear}
use Rattle.wy_prove_drafts.proofs.wy_search_laws_proofs.closing_lemmas.Closing.{LeadsOn}
use Rattle.wy_prove_drafts.specs.wy_search_laws.rounds.Leaves.{IsSortedThroughout, IsFoldedThroughout}
use Rattle.wy_prove_drafts.proofs.wy_search_laws_proofs.rounds_lemmas.RoundLemmas.{Grows, facts_grow, instances_grow, witnesses_grow}
use Rattle.wy_prove_drafts.proofs.wy_search_laws_proofs.rounds_lemmas.ProductLemmas.{products_grow}
use Rattle.wy_prove_drafts.specs.Progress.{Progress}
use Rattle.wy_prove_drafts.proofs.ProgressLemmas.{goes_on}
use Rattle.wy_prove_rounds.specs.Rounds.{IsBeside}
use Rattle.wy_prove_rounds.specs.Moving.{IsAlong, Follows, Moves, Reaches}
use Rattle.wy_prove_rounds.proofs.NodeLemmas.{sorted_node, node_sorted, folded_node, node_folded}

pub beside_along : (types : List Entry) (p : Spot) (d : Progress) → IsBeside types p d → IsAlong types p.node p.node d
beside_along types p d h = record { entries = h.entries; closed = h.closed; keeps = at_least_self p.node; near = h.near; sorted = h.draft }

leads : (types : List Entry) (p : Spot) (d : Progress) → IsBeside types p d → LeadsOn types
leads types p d h = λ node s below sorted step e. (step_leads types node s below h.closed h.entries sorted step e).sorted

reaches_by : (types : List Entry) (base : Node) (q : Spot) (old new : Progress) → Grows types base q.node → Follows types base q.node old new → Reaches types q old new
reaches_by types base q old new grows follows = record {
  goes = follows.goes;
  beside = record {
    entries = follows.along.entries;
    closed = follows.along.closed;
    sorted = node_sorted q.node grows.sorted;
    folded = node_folded q.node grows.folded;
    draft = follows.along.sorted;
    near = follows.along.near;
  };
}

pub witnesses_reach : (types : List Entry) (p : Spot) (old new : Progress) → IsBeside types p old → Follows types p.node (with_witnesses p p.node.literals).node old new → Reaches types (with_witnesses p p.node.literals) old new
witnesses_reach types p old new h follows =
    reaches_by types p.node (with_witnesses p p.node.literals) old new (witnesses_grow types (leads types p old h) p (sorted_node p.node h.sorted) (folded_node p.node h.folded)) follows

pub instances_reach : (types : List Entry) (node made : Node) (names : List Term) (old new : Progress) → made ≡ with_instances node node.literals (index_terms_in node names) → IsBeside types (begun node) old → Moves types node (λ n. with_instances n node.literals (index_terms_in node names)) old new → Reaches types (begun made) old new
instances_reach types node made names old new is h moves =
    subst (λ (n : Node). Reaches types (begun n) old new) (sym is)
    (reaches_by types node (begun (with_instances node node.literals (index_terms_in node names))) old new
    (instances_grow types (leads types (begun node) old h) (made_spot node [] names 0) (sorted_node node h.sorted) (folded_node node h.folded)) (moves.each node (beside_along types (begun node) old h)))

pub facts_reach : (types : List Entry) (node made : Node) (old new : Progress) → made ≡ with_facts types node → IsBeside types (begun node) old → Follows types node (with_facts types node) old new → Reaches types (begun made) old new
facts_reach types node made old new is h follows =
    subst (λ (n : Node). Reaches types (begun n) old new) (sym is)
    (reaches_by types node (begun (with_facts types node)) old new (facts_grow types (leads types (begun node) old h) node (sorted_node node h.sorted) (folded_node node h.folded)) follows)

pub products_reach : (types : List Entry) (node made : Node) (old new : Progress) → made ≡ with_products node → IsBeside types (begun node) old → Follows types node (with_products node) old new → Reaches types (begun made) old new
products_reach types node made old new is h follows =
    subst (λ (n : Node). Reaches types (begun n) old new) (sym is)
    (reaches_by types node (begun (with_products node)) old new (products_grow types (leads types (begun node) old h) node (sorted_node node h.sorted) (folded_node node h.folded)) follows)

-- one item behind another
pub reaches_on : (types : List Entry) (p q : Spot) (old now new : Progress) → Reaches types p old now → Reaches types q now new → Reaches types q old new
reaches_on types p q old now new h g = record { goes = goes_on types old now new h.goes g.goes; beside = g.beside }

-- only the node counts
pub beside_at : (types : List Entry) (p q : Spot) (d : Progress) → p.node ≡ q.node → IsBeside types p d → IsBeside types q d
beside_at types p q d same h = record {
  entries = h.entries;
  closed = h.closed;
  sorted = subst IsSortedThroughout same h.sorted;
  folded = subst IsFoldedThroughout same h.folded;
  draft = h.draft;
  near = subst (λ (n : Node). IsNear n d.node) same h.near;
}
