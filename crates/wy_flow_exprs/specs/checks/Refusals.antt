-- Answers of questions as answers of a node.
use Rattle.std.specs.Prelude.{ℕ, Bool, true, false, Result, Ok, Err}
use Rattle.wy_canon.specs.declared.fault.TypeFault.{TypeFault}
use Rattle.wy_canon.specs.declared.fault.TypeFault.TheVariants as refusal
use Rattle.wy_flow_spec.specs.declared.typing.fault.FlowFault.{FlowFault}
use Rattle.wy_flow_spec.specs.declared.typing.fault.FlowFault.TheVariants.{TypeWide, NoMemory}

-- the fault of a node that asks a question without an answer
abbrev pub asked_at : ℕ → TypeFault → FlowFault
asked_at at refusal.TypeWide = TypeWide at
asked_at at refusal.NoMemory = NoMemory

-- the answer of a check
abbrev pub verdict : Bool → FlowFault → Result (Unit {0}) FlowFault
verdict true fault = Ok tt
verdict false fault = Err fault
