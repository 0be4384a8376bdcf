use Rattle.wy_mach_run.specs.wy_flow_spec.typing.TypedPrograms.{core_of, flow_of}
use Rattle.wy_link_load.proofs.wy_top_answers_proofs.AnswerLemmas.{ends_answers, then_answers}
use Rattle.wy_top_probe.specs.Probing.{Checked, checked, enters, probes, reads, then_probes}
use Rattle.wy_top_probe.proofs.probing.probe_source.Goals as goal

pub returns-in-Ok-entry_in : goal.returns-in-Ok-entry_in
returns-in-Ok-entry_in c = record {
  answers = λ s.
      let bytes = c.args.bytes.now in
      let name = c.args.name.now in
      let core = core_of c.in-Ok.typed in
      then_answers s (reads c.args.source.now bytes) (then_probes name c.args.tuples c.args.ticks bytes) (checked core (flow_of c.in-Ok.typed)) c.probed.result (c.in-Ok.ensures.gives s)
      (then_answers s (enters core name) (probes bytes core c.args.tuples c.args.ticks) c.in-Ok-entry_in.entry c.probed.result (c.in-Ok-entry_in.ensures.gives s) (c.probed.ensures.answers s));
}

pub returns : goal.returns
returns c = record {
  answers = λ s.
      let bytes = c.args.bytes.now in
      let name = c.args.name.now in
      let core = core_of c.in-Ok.typed in
      then_answers s (reads c.args.source.now bytes) (then_probes name c.args.tuples c.args.ticks bytes) (checked core (flow_of c.in-Ok.typed)) c.in-Err-entry_in.answer (c.in-Ok.ensures.gives s)
      (ends_answers s (enters core name) (probes bytes core c.args.tuples c.args.ticks) c.in-Err-entry_in.answer (c.in-Err-entry_in.ensures.gives s));
}

pub returns-in-Err : goal.returns-in-Err
returns-in-Err c = record {
  answers = λ s. ends_answers s (reads c.args.source.now c.args.bytes.now) (then_probes c.args.name.now c.args.tuples c.args.ticks c.args.bytes.now) c.in-Err.answer (c.in-Err.ensures.gives s);
}
