-- What the code's results say in the words of the semantics.
use Rattle.std.specs.Prelude.{◌≡◌, ◌≢◌, Result, Ok, Err}
use Rattle.wy_sem.specs.Meter as sem
use Rattle.wy_sem.specs.Meter.{Outcome, Done, Fault, More, Spent}
use Rattle.wy_eval_exprs.specs.declared.meter.Meter.{Meter}
use Rattle.wy_eval_exprs.specs.declared.stop.Stop.{Stop}
use Rattle.wy_eval_exprs.specs.declared.stop.Stop.TheVariants as stop

-- what the meter says
abbrev pub meter_of : Meter → sem.Meter
meter_of m = record { ticks = m.ticks; turns = m.turns; output = m.output.items }

-- the outcome that an evaluation without an answer stands for; want of memory stands for none, and has to have one
abbrev pub stopped : {X : Type 0} → Stop → sem.Meter → Outcome X
stopped (stop.Fault kind at) m = Fault kind at m
stopped stop.More m = More m
stopped stop.Spent m = Spent
stopped stop.NoMemory m = Spent

-- the outcome is the one that the answer stands for, with this meter, unless memory ran out
abbrev pub Gives : {X Y : Type 0} → (Y → X) → Outcome X → Result Y Stop → sem.Meter → Type 0
Gives view wanted (Ok y) m = wanted ≡ Done (view y) m
Gives view wanted (Err e) m = e ≢ stop.NoMemory → wanted ≡ stopped e m

abbrev pub itself : {X : Type 0} → X → X
itself x = x
