use Rattle.std.proofs.Common.{◌≡◌, ◌∙◌, ℕ, length, map, rules, subst, arith}
use Rattle.wy_batch.specs.Seen.{known}
use Rattle.wy_cert.specs.Steps.{certificates_of}
use Rattle.wy_top.specs.Acceptance.{are_closed}
use Rattle.wy_top.specs.Again.{renewal_answer}
use Rattle.wy_top.proofs.RepeatLemmas.{kept_few, kept_so_many, seen_of}
use Rattle.wy_top.proofs.repeating.made.Goals as goal

pub overflow_cast-len : goal.overflow_cast-len
overflow_cast-len c =
    let few = kept_few c.args.kept c.args.budget c.args.judged c.requires.each c.requires.taken in
    let whole : c.len.result ≡ length c.args.kept.list.items = search rules in
    omega (arith, few, whole)

pub returns-clause-value : goal.returns-clause-value
returns-clause-value c = λ p es h.
    let ks = map known c.args.judged.verdicts.items in
    let certs = certificates_of c.args.kept in
    let whole : c.len.result ≡ length c.args.kept.list.items = search rules in
    let many = whole ∙ kept_so_many c.args.kept c.args.budget c.args.judged c.requires.taken in
    record { verdicts = ks; seen = seen_of p es certs c.args.budget c.args.judged h; answer = subst (λ (n : ℕ). c.in_ok-answer.answer ≡ renewal_answer c.args.name.now c.args.bytes.now p c.args.budget n ks (are_closed ks)) many (c.in_ok-answer.ensures.value p es certs h) }
