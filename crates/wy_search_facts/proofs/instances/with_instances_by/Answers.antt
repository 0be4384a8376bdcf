use Rattle.std.proofs.Common.{◌≡◌, ◌∙◌, ℕ, Option, List, map, ap, sym, subst, length}
use Rattle.std.specs.Prelude.{option_map, IfSome}
use Rattle.wy_lemmas.proofs.Options.{on_ok}
use Rattle.wy_search_facts.proofs.instances.with_instances_by.Goals as goal
use Rattle.wy_check_nodes.specs.Seen.{seen_branch}
use Rattle.wy_check_splits.specs.Seen.{seen_range}
use Rattle.wy_cong.specs.wy_search_spec.Expansion.{with_instances_by}
use Rattle.wy_term.specs.Nodes.{tree_at}
use Rattle.wy_term.specs.Term.{Term}
use Rattle.wy_cong.specs.wy_check_spec.valid.Ranges.{Range}

pub returns-in-Some-clause-value : goal.returns-in-Some-clause-value
returns-in-Some-clause-value c =
    let at = tree_at c.args.terms.now in
    on_ok c.with_instances_of.result _ _ (λ is. is ∙ ap (λ (o : Option Range). with_instances_by (seen_branch at c.args.branch.now) c.args.holds o (map at c.args.all.now)) (sym (ap (option_map (seen_range at)) c.in-Some.is) ∙ c.in_ok-r.ensures.value)) c.with_instances_of.ensures.value

pub returns-in-None-clause-value : goal.returns-in-None-clause-value
returns-in-None-clause-value c =
    let at = tree_at c.args.terms.now in
    ap (λ (o : Option Range). with_instances_by (seen_branch at c.args.branch.now) c.args.holds o (map at c.args.all.now)) (sym (ap (option_map (seen_range at)) c.in-None.is) ∙ c.in_ok-r.ensures.value)
