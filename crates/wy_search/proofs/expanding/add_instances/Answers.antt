use Rattle.std.proofs.Common.{◌≡◌, ◌∙◌, List, length, map, sym, ap, subst}
use Rattle.std.specs.Prelude.{OnOk}
use Rattle.wy_term.specs.Term.{Term}
use Rattle.wy_term.specs.Nodes.{tree_at}
use Rattle.wy_facts.specs.Seen.{AreBelow}
use Rattle.wy_check_nodes.specs.Seen.{seen_branch}
use Rattle.wy_search_facts.specs.wy_search_spec.Expansion.{with_instances}
use Rattle.wy_search.specs.Turns.{index_terms_in}
use Rattle.wy_search.proofs.expanding.add_instances.Goals as goal

pub with_instances-requires-clause-terms : goal.with_instances-requires-clause-terms
with_instances-requires-clause-terms c = subst (AreBelow (length c.args.terms.now)) (sym c.deref.ensures.value) c.in_ok-indices.ensures.below

pub returns-clause-value : goal.returns-clause-value
returns-clause-value c =
    let at = tree_at c.args.terms.now in
    let node = seen_branch at c.args.branch.now in
    let indices : map at c.deref.result.now ≡ index_terms_in node (map at c.args.names.now) = ap (map at) c.deref.ensures.value ∙ c.in_ok-indices.ensures.value in
    subst (λ (ts : List Term). OnOk c.with_instances.result (seen_branch (tree_at c.with_instances.new.terms) c.with_instances.new.branch ≡ with_instances node node.literals ts)) indices c.with_instances.ensures.value
