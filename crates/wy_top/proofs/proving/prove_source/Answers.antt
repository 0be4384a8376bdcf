use Rattle.std.proofs.lemmas.Result.{IfOk-weaker}
use Rattle.wy_top_probe.specs.wy_top_answers.Steps.{came}
use Rattle.wy_top_probe.proofs.wy_top_answers_proofs.StepLemmas.{goes, ends_there}
use Rattle.wy_top.specs.Kept.{answer_in, program_in}
use Rattle.wy_top.specs.Programs.{owes}
use Rattle.wy_top.specs.Proofs.{IsProofFile, ProvesBytes, judges}
use Rattle.wy_top.specs.declared.proving.Proof.{Proof}
use Rattle.wy_top.proofs.proving.prove_source.Goals as goal

pub returns-in-Ok-clause-gives : goal.returns-in-Ok-clause-gives
returns-in-Ok-clause-gives g c = λ s.
    goes s (owes c.args.name.now c.args.bytes.now) (λ p. judges c.args.name.now c.args.bytes.now p c.args.budget) (program_in c.in-Ok.owed) (came answer_in c.prove_on.result)
    (c.in-Ok.ensures.gives s) (c.prove_on.ensures.gives s)

pub returns-in-Err-clause-gives : goal.returns-in-Err-clause-gives
returns-in-Err-clause-gives g c = λ s.
    ends_there s (owes c.args.name.now c.args.bytes.now) (λ p. judges c.args.name.now c.args.bytes.now p c.args.budget) c.in-Err.answer (c.in-Err.ensures.gives s)

pub returns-in-Ok-clause-file : goal.returns-in-Ok-clause-file
returns-in-Ok-clause-file g c =
    let p = program_in c.in-Ok.owed in
    IfOk-weaker c.prove_on.result (λ (f : Proof). IsProofFile p c.args.budget f.saved) (λ (f : Proof). ProvesBytes c.args.bytes.now c.args.budget f.saved)
    (λ f h. record { program = p; owes = c.in-Ok.ensures.owes; file = h }) c.prove_on.ensures.file
