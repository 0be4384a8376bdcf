-- What the code knows at a point of a body, as the definition has it.
use Rattle.std.specs.Prelude.{List, map}
use Rattle.wy_core.specs.Types as ty
use Rattle.wy_flow_spec.specs.environment.Seen.{seen_environment, seen_slots}
use Rattle.wy_flow_spec.specs.environment.Variables as variables
use Rattle.wy_flow_spec.specs.declared.environment.environment.Environment.{Environment}
use Rattle.wy_flow_spec.specs.typing.States as typing
use Rattle.wy_flow_spec.specs.typing.Loops.{Begun}
use Rattle.wy_flow.specs.declared.state.State.{State}

abbrev pub seen_environments : List Environment → List variables.Environment
seen_environments envs = map seen_environment envs

-- the state, with the types of the expressions so far
abbrev pub seen_state : List ty.Ty → State → typing.State
seen_state flow s = record { env = seen_environment s.env; declared = seen_slots s.declared; breaks = seen_environments s.breaks; flow = flow }

-- where a block begins, and the types where it doesn't
abbrev pub seen_branches : List ty.Ty → State × Environment → Begun
seen_branches flow b = record { inside = seen_state flow b.0; outside = seen_environment b.1 }
