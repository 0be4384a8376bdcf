use Rattle.wy_mach_run.specs.wy_flow_spec.typing.TypedPrograms.{core_of}
use Rattle.wy_probe.specs.Trials.{seen_end}
use Rattle.wy_link_load.proofs.wy_top_answers_proofs.AnswerLemmas.{memory_answers}
use Rattle.wy_top_probe.specs.Probing.{probes}
use Rattle.wy_top_probe.proofs.ProbeLemmas.{found_answers}
use Rattle.wy_top_probe.proofs.probing.probed.Goals as goal

pub returns-in-Ok : goal.returns-in-Ok
returns-in-Ok c = record {
  answers = λ s. found_answers s c.args.bytes.now (core_of c.args.typed.now) c.args.tuples c.args.ticks c.args.entry (seen_end c.in-Ok.end) c.found_answer.result c.in-Ok.ensures.finds c.found_answer.ensures.value;
}

pub returns-then-tuples-gt-MOST_TUPLES : goal.returns-then-tuples-gt-MOST_TUPLES
returns-then-tuples-gt-MOST_TUPLES c = record {
  answers = λ s. memory_answers s (probes c.args.bytes.now (core_of c.args.typed.now) c.args.tuples c.args.ticks c.args.entry) c.no_memory.result c.no_memory.ensures.value;
}

pub returns-in-Err : goal.returns-in-Err
returns-in-Err c = record {
  answers = λ s. memory_answers s (probes c.args.bytes.now (core_of c.args.typed.now) c.args.tuples c.args.ticks c.args.entry) c.no_memory-in-Err.result c.no_memory-in-Err.ensures.value;
}
