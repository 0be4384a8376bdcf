-- The small answer of an instruction, as what a turn answers.
use Rattle.std.specs.Prelude.{Result, Ok, Err}
use Rattle.wy_items.specs.declared.memory.NoMemory as want
use Rattle.wy_mach.specs.declared.machine.Turn.{Turn}
use Rattle.wy_mach.specs.declared.machine.Turn.TheVariants as turn
use Rattle.wy_mach.specs.declared.machine.Pace.{Pace}
use Rattle.wy_mach.specs.declared.machine.Pace.TheVariants as pace

-- what a turn answers to it
abbrev pub turn_of : Pace → Result Turn want.NoMemory
turn_of pace.Went = Ok turn.Went
turn_of pace.OutFault = Ok turn.OutFault
turn_of pace.Stuck = Ok turn.Stuck
turn_of pace.NoMemory = Err (record {})
