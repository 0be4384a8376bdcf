use Rattle.std.proofs.Common.{◌≡◌, false, true, refl, subst, rules}
use Rattle.std.proofs.lemmas.Result.{IfOk-weaker}
use Rattle.wy_term.specs.Nodes.{tree_at}
use Rattle.wy_cert.specs.Steps.{shut}
use Rattle.wy_prove_drafts.specs.Draft.{seen_draft}
use Rattle.wy_prove_drafts.specs.Progress.{Closes}
use Rattle.wy_prove_leaves.specs.linked.Ended.{NoneClashes}
use Rattle.wy_prove_leaves.proofs.linked_lemmas.EndedLemmas.{all_tried, ended, ends_from, not_ended, not_shut}
use Rattle.wy_prove_leaves.proofs.linked.clashing.close_at_once.Goals as goal

pub returns-then-branch-clause-value : goal.returns-then-branch-clause-value
returns-then-branch-clause-value c = λ types.
    let at = tree_at c.args.terms.now in
    let first = seen_draft at c.args.draft.now in
    let up : c.in_ok-close_by_shut.field-0 ≡ true = search rules in
    ends_from types shut first first (seen_draft at c.close_by_shut.new.draft) c.in_ok-close_by_shut.field-0 tt refl up (c.in_ok-close_by_shut.ensures.value types)

pub returns-then-branch-2-clause-value : goal.returns-then-branch-2-clause-value
returns-then-branch-2-clause-value c = λ types.
    let at = tree_at c.args.terms.now in
    let first = seen_draft at c.args.draft.now in
    let next = seen_draft at c.close_by_shut.new.draft in
    let un : c.in_ok-close_by_shut.field-0 ≡ false = search rules in
    let shutting : Closes types shut first next false = subst (Closes types shut first next) un (c.in_ok-close_by_shut.ensures.value types) in
    let up : c.in_ok-close_by_one.field-0 ≡ true = search rules in
    ended (λ node. NoneClashes node.literals) types first next (seen_draft at c.close_by_one.new.draft) c.in_ok-close_by_one.field-0 shutting.1 up (c.in_ok-close_by_one.ensures.value types)

pub returns-clause-value : goal.returns-clause-value
returns-clause-value c = λ types.
    let at = tree_at c.args.terms.now in
    let first = seen_draft at c.args.draft.now in
    let next = seen_draft at c.close_by_shut.new.draft in
    let last = seen_draft at c.close_by_one.new.draft in
    let unshut : c.in_ok-close_by_shut.field-0 ≡ false = search rules in
    let shutting : Closes types shut first next false = subst (Closes types shut first next) unshut (c.in_ok-close_by_shut.ensures.value types) in
    let un : c.in_ok-close_by_one.field-0 ≡ false = search rules in
    let alone = not_ended (λ node. NoneClashes node.literals) types first next last c.in_ok-close_by_one.field-0 shutting.1 un (c.in_ok-close_by_one.ensures.value types) in
    IfOk-weaker c.close_by_two.result _ _
    (λ ends h. all_tried types first last (seen_draft at c.close_by_two.new.draft) ends alone.0 (not_shut types first next shutting) alone.1 h)
    (c.close_by_two.ensures.value types)
