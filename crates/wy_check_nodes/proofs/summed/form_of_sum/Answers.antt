use Rattle.std.proofs.Common.{◌≡◌, map, length, Some, None, sym, ap, ◌∙◌}
use Rattle.std.specs.Prelude.{option_map}
use Rattle.wy_check_spec.specs.wy_term.Nodes.{tree_at}
use Rattle.wy_check_nodes.specs.Seen.{seen_branch}
use Rattle.wy_check_spec.specs.wy_lin.Linear.{nothing}
use Rattle.wy_check_spec.specs.wy_lin.Seen.{seen_form}
use Rattle.wy_check_nodes.specs.Gathered.{gathered}
use Rattle.wy_check_nodes.proofs.FormLemmas.{seen_length}
use Rattle.wy_check_nodes.proofs.GatheredLemmas.{gathered_length, none_gathered}
use Rattle.wy_check_nodes.proofs.summed.form_of_sum.Goals as goal

pub sum_of-requires-clause-many : goal.sum_of-requires-clause-many
sum_of-requires-clause-many c =
    let ls = (seen_branch (tree_at c.args.terms.now) c.args.branch.now).literals in
    let at = tree_at c.gathered.new.terms in
    let made : Some (map (seen_form at) c.in-Some.forms.items) ≡ gathered ls c.args.pairs.now = sym (ap (option_map (λ fs. map (seen_form at) fs.items)) c.in-Some.is) ∙ c.in_ok-forms.ensures.value in
    ap length c.deref.ensures.value ∙ (sym (seen_length at c.in-Some.forms.items) ∙ gathered_length ls c.args.pairs.now (map (seen_form at) c.in-Some.forms.items) made)

pub returns-in-None-clause-value : goal.returns-in-None-clause-value
returns-in-None-clause-value c =
    let ls = (seen_branch (tree_at c.args.terms.now) c.args.branch.now).literals in
    let at = tree_at c.gathered.new.terms in
    let none : gathered ls c.args.pairs.now ≡ None = sym c.in_ok-forms.ensures.value ∙ ap (option_map (λ fs. map (seen_form at) fs.items)) c.in-None.is in
    sym (none_gathered ls c.args.pairs.now nothing none)
