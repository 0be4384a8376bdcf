-- What a step of the walk leads to: a value, or the fault that ends the walk. A step is stated as what it may lead to, since it asks questions about sets.
use Rattle.std.specs.Prelude.{◌≡◌, ◌≢◌, Result, Ok, Err}
use Rattle.wy_flow_spec.specs.declared.typing.fault.FlowFault.{FlowFault}
use Rattle.wy_flow_spec.specs.declared.typing.fault.FlowFault.TheVariants.{NoMemory}

-- a value, or the first fault
pub data Outcome (X : Type 0) : Type 0 where
  Gives : (x : X) → Outcome X
  Fails : (fault : FlowFault) → Outcome X

-- a step that asks nothing
abbrev pub Give : {X : Type 0} → X → Outcome X → Type 0
Give x o = o ≡ Gives x

-- a step and, where it gives a value, the next one; a fault of the first ends both
pub data Then {X Y : Type 0} (m : Outcome X → Type 0) (f : X → Outcome Y → Type 0) : Outcome Y → Type 0 where
  gave : (x : X) (o : Outcome Y) → m (Gives x) → f x o → Then m f o
  stopped : (e : FlowFault) → m (Fails e) → Then m f (Fails e)

-- what a call answers is what the step leads to, where `view` says what its value stands for; want of memory may come in place of each answer
abbrev pub Meets : {X Y : Type 0} → (Outcome Y → Type 0) → (X → Y) → Result X FlowFault → Type 0
Meets m view (Ok x) = m (Gives (view x))
Meets m view (Err e) = e ≢ NoMemory → m (Fails e)
