use Rattle.std.proofs.Common.{◌≡◌, ◌∙◌, true, false, sym, rules}
use Rattle.wy_term.specs.Nodes.{tree_at}
use Rattle.wy_check_nodes.specs.Seen.{seen_branch}
use Rattle.wy_search_bounds.specs.wy_cong.Seen.{terms_of}
use Rattle.wy_search_bounds.specs.Seen.{seen_ending}
use Rattle.wy_search.proofs.TurnLemmas.{clash_closes, clashes_so, ends_by, ends_so, shut_closes}
use Rattle.wy_search.proofs.turning.ending_of.Goals as goal

pub returns-then-branch-clause-value : goal.returns-then-branch-clause-value
returns-then-branch-clause-value c =
    let up : c.in_ok-is_shut.field-0 ≡ true = search rules in
    shut_closes (seen_branch (tree_at c.args.terms.now) c.args.branch.now) (sym c.in_ok-is_shut.ensures ∙ up)

pub returns-then-branch-2-clause-value : goal.returns-then-branch-2-clause-value
returns-then-branch-2-clause-value c =
    let at = tree_at c.args.terms.now in
    let node = seen_branch at c.args.branch.now in
    let un : c.in_ok-is_shut.field-0 ≡ false = search rules in
    let up : c.in_ok-classes_clash.field-0 ≡ true = search rules in
    clash_closes node (sym c.in_ok-is_shut.ensures ∙ un)
    (sym (clashes_so node (terms_of at c.in_ok-here.here) c.deref.result.now c.in_ok-classes_clash.field-0 c.in_ok-here.ensures.value (c.deref.ensures.value ∙ c.in_ok-labels.ensures) c.in_ok-classes_clash.ensures) ∙ up)

pub returns-clause-value : goal.returns-clause-value
returns-clause-value c =
    let at = tree_at c.args.terms.now in
    let node = seen_branch at c.args.branch.now in
    let un : c.in_ok-is_shut.field-0 ≡ false = search rules in
    let apart : c.in_ok-classes_clash.field-0 ≡ false = search rules in
    ends_by node c.in_ok-end.end c.unless_refuted.result (sym c.in_ok-is_shut.ensures ∙ un)
    (sym (clashes_so node (terms_of at c.in_ok-here.here) c.deref.result.now c.in_ok-classes_clash.field-0 c.in_ok-here.ensures.value (c.deref.ensures.value ∙ c.in_ok-labels.ensures) c.in_ok-classes_clash.ensures) ∙ apart)
    (ends_so node (terms_of at c.in_ok-here.here) c.deref-2.result.now (seen_ending c.in_ok-end.end) c.in_ok-here.ensures.value (c.deref-2.ensures.value ∙ c.in_ok-labels.ensures) c.in_ok-end.ensures.value)
    c.unless_refuted.ensures
