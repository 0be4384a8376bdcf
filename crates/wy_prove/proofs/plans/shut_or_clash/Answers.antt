use Rattle.std.proofs.Common.{◌≡◌, true, false, subst, rules}
use Rattle.wy_term.specs.Nodes.{tree_at}
use Rattle.wy_cert.specs.Steps.{shut}
use Rattle.wy_prove_rounds.specs.wy_prove_drafts.Draft.{seen_draft}
use Rattle.wy_prove.specs.Plans.{GoesOrEnds}
use Rattle.wy_prove.proofs.LeafLemmas.{behind_ok, closes_so}
use Rattle.wy_prove.proofs.plans.shut_or_clash.Goals as goal

pub returns-then-branch-clause-value : goal.returns-then-branch-clause-value
returns-then-branch-clause-value c = λ types.
    let at = tree_at c.args.terms.now in
    let a = seen_draft at c.args.draft.now in
    let b = seen_draft at c.close_by_shut.new.draft in
    let up : c.in_ok-close_by_shut.field-0 ≡ true = search rules in
    subst (GoesOrEnds types a b) up (closes_so types shut a b c.in_ok-close_by_shut.field-0 tt (c.in_ok-close_by_shut.ensures.value types))

pub returns-clause-value : goal.returns-clause-value
returns-clause-value c = λ types.
    let at = tree_at c.args.terms.now in
    let a = seen_draft at c.args.draft.now in
    let b = seen_draft at c.close_by_shut.new.draft in
    let un : c.in_ok-close_by_shut.field-0 ≡ false = search rules in
    behind_ok c.clash.result types a b (seen_draft at c.clash.new.draft) (subst (GoesOrEnds types a b) un (closes_so types shut a b c.in_ok-close_by_shut.field-0 tt (c.in_ok-close_by_shut.ensures.value types))) (c.clash.ensures.value types)
