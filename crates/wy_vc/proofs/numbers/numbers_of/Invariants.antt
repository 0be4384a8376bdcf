use Rattle.std.proofs.Common.{◌≡◌, map, take}
use Rattle.wy_vc_spec.specs.Named.{is_number_type}
use Rattle.wy_flow_spec.specs.typing.TypedPrograms.{flow_of}
use Rattle.wy_vc.proofs.numbers.numbers_of.Given as goal

-- the marks so far
abbrev pub invariant-loop-node : goal.invariant-loop-node
invariant-loop-node l = l.marks.items ≡ map is_number_type (take l.node (flow_of l.typed))
