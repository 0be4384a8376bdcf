-- What registers that hold places show: the registers of the step on values.
use Rattle.std.specs.Prelude.{◌≡◌, ℕ, List, [], ◌∷◌, ◌++◌, false, Option, Some, None, ⊤}
use Rattle.wy_value.specs.Datum.{Datum}
use Rattle.wy_heap.specs.declared.part.Part.{Part}
use Rattle.wy_heap.specs.declared.part.Part.TheVariants.{Null}
use Rattle.wy_heap.specs.declared.part.Kind as kind
use Rattle.wy_heap.specs.declared.part.Kind.TheVariants as is
use Rattle.wy_heap.specs.declared.heap.Heap.{Heap}
use Rattle.wy_heap.specs.Nodes.{Map}
use Rattle.wy_heap.specs.Meaning.{Means}
use Rattle.wy_heap.specs.Standing.{Stands, Acts}
use Rattle.wy_value.specs.Numbers.{is_int}
use Rattle.wy_code.specs.declared.instructions.Scalar.{Scalar}
use Rattle.wy_code.specs.declared.instructions.Scalar.TheVariants as scalar
use Rattle.wy_sem.specs.Expressions.{Store}
use Rattle.wy_code_spec.specs.step.Step.{Effect, GoesOn, GoesTo, Calls, Returns, Fails}
use Rattle.wy_mach.specs.declared.stop.Stop.{Stop}
use Rattle.wy_mach.specs.declared.stop.Stop.TheVariants.{Stuck, NoMemory}

-- the place stands for what the register holds; where that is empty the place is null
abbrev pub ShowsSlot : Map → Option Datum → Part → Type 0
ShowsSlot m None p = p ≡ Null
ShowsSlot m (Some d) p = Means m d p

-- the places stand for what the registers hold, each for the one with its number
abbrev pub Shows : Map → Store → List Part → Type 0
Shows m [] ps = ps ≡ []
Shows m (o ∷ s) [] = ⊥
Shows m (o ∷ s) (p ∷ ps) = ShowsSlot m o p × Shows m s ps

-- an instruction with this effect went on, to these registers, and is to print these bytes; where it has no step, nothing is said
abbrev pub Leaves : Map → List Part → List ℕ → Effect → Type 0
Leaves m ps bytes (GoesOn s printed) = Shows m s ps × (bytes ≡ printed)
Leaves m ps bytes (GoesTo at) = ⊥
Leaves m ps bytes (Calls d f vs s) = ⊥
Leaves m ps bytes (Returns v) = ⊥
Leaves m ps bytes Fails = ⊤

-- whatever the registers show, the instruction went on
abbrev pub WentOn : Map → Map → List Part → List Part → (Store → Effect) → Type 0
WentOn m n before after effect = (s : Store) → Shows m s before → Leaves n after [] (effect s)

-- whatever the registers show, the instruction has no step
abbrev pub HasNone : Map → List Part → (Store → Effect) → Type 0
HasNone m before effect = (s : Store) → Shows m s before → effect s ≡ Fails

-- why an instruction didn't go on: it has no step, or there was no memory
abbrev pub IsStop : Map → List Part → (Store → Effect) → Stop → Type 0
IsStop m before effect Stuck = HasNone m before effect
IsStop m before effect NoMemory = ⊤

-- the heap's callers hold the places after in place of those before, and what the others hold stands for what it stood for
abbrev pub Turns : Heap → Heap → List Part → List Part → Type 0
Turns old new before after = (others : List Part) → Stands old (before ++ others) → Acts old new after others

-- the places before are held
abbrev pub AreRegisters : Heap → List Part → Type 0
AreRegisters h ps = (others : List Part) × Stands h (ps ++ others)

-- the place is held beside the registers
abbrev pub IsBeside : Heap → Part → List Part → Type 0
IsBeside h p ps = (others : List Part) × Stands h (p ∷ (ps ++ others))

-- the place came into the registers: these are held now, and they and what others hold stand for what they stood for
abbrev pub Puts : Heap → Heap → List Part → Part → List Part → Type 0
Puts old new before p after = (others : List Part) → Stands old (p ∷ (before ++ others)) → Acts old new [] (after ++ others)

-- the constant is a number that is no `int`
abbrev pub IsNoInt : Scalar → Type 0
IsNoInt scalar.Null = ⊥
IsNoInt (scalar.Bool b) = ⊥
IsNoInt (scalar.Int z) = is_int z ≡ false

-- the kind of a constant
abbrev pub scalar_kind : Scalar → kind.Kind
scalar_kind scalar.Null = is.Null
scalar_kind (scalar.Bool b) = is.Bool b
scalar_kind (scalar.Int z) = is.Int z
