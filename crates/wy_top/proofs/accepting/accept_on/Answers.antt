use Rattle.std.proofs.Common.{sym, subst}
use Rattle.wy_cert.specs.Steps.{certificates_of}
use Rattle.wy_top_probe.proofs.wy_top_answers_proofs.StepLemmas.{memory_gives}
use Rattle.wy_top.specs.Acceptance.{accepts}
use Rattle.wy_top.specs.Kept.{HasVerdicts, IsOfSource, program_in}
use Rattle.wy_top.specs.Programs.{Program}
use Rattle.wy_top.proofs.accepting.accept_on.Goals as goal

pub returns-in-Ok-clause-gives : goal.returns-in-Ok-clause-gives
returns-in-Ok-clause-gives g c = λ s. c.accept.ensures.gives s (program_in c.args.owed) (certificates_of c.args.certs.now) c.requires.sorted c.in-Ok.ensures.verdicts

pub returns-in-Err-clause-gives : goal.returns-in-Err-clause-gives
returns-in-Err-clause-gives g c = λ s.
    memory_gives s (accepts c.args.name.now c.args.cert.now c.args.bytes.now (program_in c.args.owed) (certificates_of c.args.certs.now) c.args.budget) c.in-Err.answer c.in-Err.ensures.memory

pub returns-in-Ok-clause-whole : goal.returns-in-Ok-clause-whole
returns-in-Ok-clause-whole g c =
    let certs = certificates_of c.args.certs.now in
    let h = c.in-Ok.ensures.verdicts in
    c.accept.ensures.whole certs c.requires.sorted (subst (λ (p : Program). HasVerdicts p certs c.args.budget c.in-Ok.judged) (sym h.program) h) (subst IsOfSource (sym h.program) c.requires.kept.source)
