use Rattle.std.proofs.Common.{map}
use Rattle.wy_cert.specs.Steps.{steps_of}
use Rattle.wy_term.specs.Condition.{condition_of}
use Rattle.wy_flow_spec.specs.typing.TypedPrograms.{core_of, flow_of}
use Rattle.wy_sound.proofs.acceptance_lemmas.AcceptLemmas.{are_true}
use Rattle.wy_sound.proofs.acceptance.accept.Goals as goal

pub invariant_of-result : goal.invariant_of-result
invariant_of-result c = record {
  assigned = c.requires.assigned;
  holds = are_true (core_of c.args.typed) (flow_of c.args.typed) (map (condition_of c.args.conds.now.terms) c.args.conds.now.list.items) (map steps_of c.args.certs.now) c.requires.list c.requires.proved;
}
