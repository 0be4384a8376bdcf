use Rattle.std.proofs.Common.{ap₂}
use Rattle.wy_mach_run.specs.wy_flow_spec.typing.TypedPrograms.{core_of, flow_of}
use Rattle.wy_link_load.proofs.wy_top_answers_proofs.CallLemmas.{called_fault, called_value}
use Rattle.wy_top_source.specs.Sources.{IsProgram}
use Rattle.wy_top_source.specs.declared.texts.kind.Kind.TheVariants.{Listing}
use Rattle.wy_top_probe.specs.Probing.{checked}
use Rattle.wy_top_probe.specs.Texts.{is_faulted, source_faults}
use Rattle.wy_top_probe.proofs.probing.typed_in.Goals as goal

pub returns-in-Ok : goal.returns-in-Ok
returns-in-Ok c =
    let bytes = c.args.bytes.now in
    let t = c.in-Ok.typed in
    record {
      gives = λ s. called_value s (λ m p. IsProgram bytes p.core p.flow) (source_faults c.args.name.now bytes) (is_faulted Listing bytes) (checked (core_of t) (flow_of t)) c.in-Ok.ensures.program
          (λ p h. let e = c.in-Ok.ensures.complete p.core p.flow h in ap₂ checked e.0 e.1) c.in-Ok.ensures.exact;
    }

pub returns-in-Err : goal.returns-in-Err
returns-in-Err c =
    let bytes = c.args.bytes.now in
    record {
      gives = λ s. called_fault s (λ m p. IsProgram bytes p.core p.flow) (source_faults c.args.name.now bytes) (is_faulted Listing bytes) c.in-Err.fault c.fault_answer.result c.in-Err.ensures.refused
          (λ p h. c.in-Err.ensures.complete p.core p.flow h) c.in-Err.ensures.exact c.fault_answer.ensures.value;
    }
