use Rattle.std.proofs.Common.{◌≡◌, length, map, refl, subst, sym, ap, ◌∙◌}
use Rattle.wy_cache.specs.Kept.{AreKept}
use Rattle.wy_cert.specs.Steps.{certificates_of}
use Rattle.wy_term.specs.Condition.{Condition, condition_of}
use Rattle.wy_top_probe.proofs.wy_top_answers_proofs.StepLemmas.{memory_gives}
use Rattle.wy_top.specs.Again.{renews}
use Rattle.wy_top.specs.Kept.{entries_in, program_in}
use Rattle.wy_top.specs.Programs.{conditions_of}
use Rattle.wy_top.proofs.RepeatLemmas.{all_written, kept_still, renewal_gives}
use Rattle.wy_top.proofs.repeating.renew_on.Goals as goal

pub judge_kept-requires-clause-owed : goal.judge_kept-requires-clause-owed
judge_kept-requires-clause-owed g c = λ lifetimes within.
    kept_still c.args.owed.typed c.args.owed.conds c.kept.new.conds c.requires.kept c.in-Ok.ensures.list c.in-Ok.ensures.length c.in-Ok.ensures.kept

pub made-requires-clause-written : goal.made-requires-clause-written
made-requires-clause-written g c = all_written c.in-Ok.kept.list.items c.in-Ok.ensures.names c.in-Ok.ensures.writable

pub made-requires-clause-taken : goal.made-requires-clause-taken
made-requires-clause-taken g c =
    let es = entries_in c.args.cache.now in
    let are = subst (λ (cs : _). AreKept es 1 cs (certificates_of c.in-Ok.kept)) c.requires.kept.conditions c.in-Ok.ensures.value.holds in
    record { entries = es; program = program_in c.args.owed; taken = c.in-Ok-judge_kept.ensures.taken es are }

pub returns-in-Ok-made-clause-gives : goal.returns-in-Ok-made-clause-gives
returns-in-Ok-made-clause-gives g c = λ s.
    let p = program_in c.args.owed in
    let es = entries_in c.args.cache.now in
    let are = subst (λ (cs : _). AreKept es 1 cs (certificates_of c.in-Ok.kept)) c.requires.kept.conditions c.in-Ok.ensures.value.holds in
    renewal_gives s c.args.name.now c.args.bytes.now p c.args.budget es c.in-Ok-made.proof.answer (c.in-Ok-made.ensures.value p es (c.in-Ok-judge_kept.ensures.taken es are))

pub returns-in-Ok-made-clause-file : goal.returns-in-Ok-made-clause-file
returns-in-Ok-made-clause-file g c =
    let es = entries_in c.args.cache.now in
    let are = subst (λ (cs : _). AreKept es 1 cs (certificates_of c.in-Ok.kept)) c.requires.kept.conditions c.in-Ok.ensures.value.holds in
    c.in-Ok-made.ensures.file (program_in c.args.owed) es (c.in-Ok-judge_kept.ensures.taken es are)

pub returns-in-Err-clause-gives : goal.returns-in-Err-clause-gives
returns-in-Err-clause-gives g c = λ s.
    memory_gives s (renews c.args.name.now c.args.bytes.now (program_in c.args.owed) c.args.budget (entries_in c.args.cache.now)) c.no_memory.result c.no_memory.ensures.value

pub returns-in-Err-made-clause-gives : goal.returns-in-Err-made-clause-gives
returns-in-Err-made-clause-gives g c = λ s.
    memory_gives s (renews c.args.name.now c.args.bytes.now (program_in c.args.owed) c.args.budget (entries_in c.args.cache.now)) c.no_memory-in-Err-made.result c.no_memory-in-Err-made.ensures.value

pub returns-in-Err-judge_kept-clause-gives : goal.returns-in-Err-judge_kept-clause-gives
returns-in-Err-judge_kept-clause-gives g c = λ s.
    memory_gives s (renews c.args.name.now c.args.bytes.now (program_in c.args.owed) c.args.budget (entries_in c.args.cache.now)) c.in-Err-judge_kept.answer c.in-Err-judge_kept.ensures.memory
