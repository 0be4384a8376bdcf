use Rattle.std.proofs.Common.{◌≡◌, [], rules, subst}
use Rattle.wy_cert.specs.Steps.{certificates_of, Certificates}
use Rattle.wy_top_probe.proofs.wy_top_answers_proofs.StepLemmas.{memory_gives}
use Rattle.wy_top.specs.Kept.{program_in, HasVerdicts}
use Rattle.wy_top.specs.Proofs.{judges}
use Rattle.wy_top.proofs.proving.prove_on.Goals as goal

pub returns-in-Ok-clause-gives : goal.returns-in-Ok-clause-gives
returns-in-Ok-clause-gives g c = λ s.
    let none : certificates_of (record { list = c.new.result }) ≡ [] = search rules in
    let judged = subst (λ (certs : Certificates). HasVerdicts (program_in c.args.owed) certs c.args.budget c.in-Ok.judged) none c.in-Ok.ensures.verdicts in
    c.made.ensures.gives s (program_in c.args.owed) judged

pub returns-in-Ok-clause-file : goal.returns-in-Ok-clause-file
returns-in-Ok-clause-file g c =
    let none : certificates_of (record { list = c.new.result }) ≡ [] = search rules in
    let judged = subst (λ (certs : Certificates). HasVerdicts (program_in c.args.owed) certs c.args.budget c.in-Ok.judged) none c.in-Ok.ensures.verdicts in
    c.made.ensures.file (program_in c.args.owed) judged

pub returns-clause-gives : goal.returns-clause-gives
returns-clause-gives g c = λ s. memory_gives s (judges c.args.name.now c.args.bytes.now (program_in c.args.owed) c.args.budget) c.in-Err.answer c.in-Err.ensures.memory
