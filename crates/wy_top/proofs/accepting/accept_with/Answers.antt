use Rattle.std.proofs.Common.{◌≡◌, ◌∙◌, ℕ, length, Ok, Err, rules, subst}
use Rattle.wy_top.proofs.LengthLemmas.{same_count}
use Rattle.wy_cert.specs.Steps.{certificates_of}
use Rattle.wy_top_probe.specs.wy_top_answers.Steps.{came, Gives}
use Rattle.wy_top_probe.proofs.wy_top_answers_proofs.StepLemmas.{goes, ends_there}
use Rattle.wy_top_probe.specs.wy_top_answers.supplied.Certificates.{certificates}
use Rattle.wy_top.specs.Acceptance.{accepts}
use Rattle.wy_top.specs.Kept.{acceptance_in, program_in}
use Rattle.wy_top.specs.Programs.{count_of}
use Rattle.wy_top.proofs.accepting.accept_with.Goals as goal

pub returns-in-Ok-clause-gives : goal.returns-in-Ok-clause-gives
returns-in-Ok-clause-gives g c = λ s during.
    let p = program_in c.args.owed in
    let long : c.len-count.result ≡ length c.args.owed.conds.list.items = search rules in
    let count : c.len-count.result ≡ count_of p = long ∙ same_count c.args.owed.conds.terms c.args.owed.conds.list.items _ c.requires.kept.conditions in
    goes s (certificates s c.args.cert.now (count_of p)) (λ certs. accepts c.args.name.now c.args.cert.now c.args.bytes.now p certs c.args.budget)
    (certificates_of c.in-Ok.certs) (came acceptance_in c.accept_on.result)
    (subst (λ (n : ℕ). Gives s (certificates s c.args.cert.now n) (Ok (certificates_of c.in-Ok.certs))) count (c.in-Ok.ensures.gives s during)) (c.accept_on.ensures.gives s)

pub returns-in-Err-clause-gives : goal.returns-in-Err-clause-gives
returns-in-Err-clause-gives g c = λ s during.
    let p = program_in c.args.owed in
    let long : c.len-count.result ≡ length c.args.owed.conds.list.items = search rules in
    let count : c.len-count.result ≡ count_of p = long ∙ same_count c.args.owed.conds.terms c.args.owed.conds.list.items _ c.requires.kept.conditions in
    ends_there s (certificates s c.args.cert.now (count_of p)) (λ certs. accepts c.args.name.now c.args.cert.now c.args.bytes.now p certs c.args.budget) c.in-Err.answer
    (subst (λ (n : ℕ). Gives s (certificates s c.args.cert.now n) (Err c.in-Err.answer)) count (c.in-Err.ensures.gives s during))
