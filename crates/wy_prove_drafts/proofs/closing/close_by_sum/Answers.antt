use Rattle.std.proofs.Common.{◌≡◌, true, false, rules}
use Rattle.wy_prove_drafts.proofs.DraftLemmas.{draft_stays}
use Rattle.wy_prove_drafts.proofs.ClosingLemmas.{sum_closes, sum_fails}
use Rattle.wy_prove_drafts.proofs.closing.close_by_sum.Goals as goal

pub returns-then-not-branch-clause-value : goal.returns-then-not-branch-clause-value
returns-then-not-branch-clause-value c = λ types.
    let down : c.in_ok-is_refuting.field-0 ≡ false = search rules in
    sum_fails types c.args.terms.now c.is_refuting.new.terms c.args.draft.now c.deref.result.now c.args.pairs.items c.in_ok-is_refuting.field-0 c.in_ok-is_refuting.ensures.stays c.requires.draft c.deref.ensures.value c.in_ok-is_refuting.ensures.value down

pub returns-then-not-branch-clause-draft : goal.returns-then-not-branch-clause-draft
returns-then-not-branch-clause-draft c = draft_stays c.args.terms.now c.is_refuting.new.terms c.args.draft.now c.in_ok-is_refuting.ensures.stays c.requires.draft

pub put-requires-clause-draft : goal.put-requires-clause-draft
put-requires-clause-draft c = draft_stays c.args.terms.now c.is_refuting.new.terms c.args.draft.now c.in_ok-is_refuting.ensures.stays c.requires.draft

pub returns-clause-value : goal.returns-clause-value
returns-clause-value c = λ types.
    let up : c.in_ok-is_refuting.field-0 ≡ true = search rules in
    sum_closes types c.args.terms.now c.is_refuting.new.terms c.args.draft.now c.deref.result.now c.args.pairs.items c.in_ok-is_refuting.field-0 c.in_ok-is_refuting.ensures.stays c.requires.draft c.deref.ensures.value c.in_ok-is_refuting.ensures.value c.put.new.draft up c.in_ok-put.ensures.value
