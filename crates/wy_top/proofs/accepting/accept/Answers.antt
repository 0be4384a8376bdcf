use Rattle.std.proofs.Common.{◌≡◌, ◌∙◌, ◌++◌, ℕ, List, length, map, true, false, rules, subst}
use Rattle.wy_top_probe.specs.wy_top_answers.Answers.{IsRefusal}
use Rattle.wy_top_probe.proofs.wy_top_answers_proofs.StepLemmas.{memory_gives}
use Rattle.wy_top.specs.Owed.{told_by}
use Rattle.wy_top.specs.Refusals.{invalid_lines, refusal_lines}
use Rattle.wy_batch.specs.Seen.{known}
use Rattle.wy_top.specs.Acceptance.{accepts, are_closed}
use Rattle.wy_top.specs.Kept.{judged_program}
use Rattle.wy_top.specs.Programs.{conditions_of}
use Rattle.wy_top.proofs.AcceptLemmas.{accepted_gives, unproved_gives}
use Rattle.wy_top.proofs.ShownLemmas.{closed_is_true}
use Rattle.wy_top.proofs.accepting.accept.Goals as goal

pub returns-in-Err-clause-gives : goal.returns-in-Err-clause-gives
returns-in-Err-clause-gives c = λ s p certs sorted h.
    memory_gives s (accepts c.args.name.now c.args.cert.now c.args.bytes.now p certs c.args.budget) c.no_memory.result c.no_memory.ensures.value

pub returns-then-not-are_closed-clause-gives : goal.returns-then-not-are_closed-clause-gives
returns-then-not-are_closed-clause-gives c = λ s p certs sorted h.
    let vs = c.args.judged.verdicts.items in
    let some : are_closed (map known vs) ≡ false = search rules in
    let lines : c.in-Ok.lines.items ≡ invalid_lines c.args.cert.now (map known vs) = search rules in
    unproved_gives s c.args.name.now c.args.cert.now c.args.bytes.now p certs c.args.budget c.unproved.result vs h.known some
    (subst (λ (l : List ℕ). IsRefusal 1 (l ++ refusal_lines c.args.name.now c.args.bytes.now c.args.budget (told_by p.core p.flow) (map known vs)) c.unproved.result) lines (c.unproved.ensures.value p certs h))

pub returns-clause-gives : goal.returns-clause-gives
returns-clause-gives c = λ s p certs sorted h.
    let vs = c.args.judged.verdicts.items in
    let closed : are_closed (map known vs) ≡ true = search rules in
    let lines : c.in-Ok.lines.items ≡ invalid_lines c.args.cert.now (map known vs) = search rules in
    rw c.new.ensures.value
    (accepted_gives s c.args.name.now c.args.cert.now c.args.bytes.now p certs c.args.budget (record { program = judged_program c.args.judged; lines = c.in-Ok.lines.items }) vs sorted h.formed h.known closed h.program lines)

pub returns-clause-whole : goal.returns-clause-whole
returns-clause-whole c = λ certs sorted h source.
    let vs = c.args.judged.verdicts.items in
    let count : c.len-count.result ≡ length c.args.judged.conds.list.items = search rules in
    let closed : are_closed (map known vs) ≡ true = search rules in
    record { count = count ∙ h.count; source = source; holds = closed_is_true certs c.args.budget 1 (conditions_of (judged_program c.args.judged)) (map known vs) sorted h.formed h.known closed }
