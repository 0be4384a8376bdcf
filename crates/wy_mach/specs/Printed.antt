-- What a sink took of an instruction that prints.
use Rattle.std.specs.Prelude.{◌≡◌, ℕ, List, Option, None, ⊤}
use Rattle.wy_heap.specs.declared.part.Part.{Part}
use Rattle.wy_heap.specs.declared.heap.Heap.{Heap}
use Rattle.wy_heap.specs.Nodes.{Map, map_of}
use Rattle.wy_heap.specs.Meaning.{Means}
use Rattle.wy_value.specs.Datum.{Datum}
use Rattle.wy_port.specs.Count.{Rose}
use Rattle.wy_port.specs.Taken.{TookFront, with_taken}
use Rattle.wy_sem.specs.Expressions.{Store}
use Rattle.wy_code_spec.specs.step.Step.{Effect, GoesOn, GoesTo, Calls, Returns, Fails}
use Rattle.wy_mach.specs.Showing.{Shows, HasNone}
use Rattle.wy_mach.specs.Texts.{text_in, IsText}
use Rattle.wy_mach.specs.declared.printing.PrintStop.{PrintStop}
use Rattle.wy_mach.specs.declared.printing.PrintStop.TheVariants.{Stuck, OutFault}

-- an instruction with this effect leaves the registers as they are, and the sink took all that it prints; where it has no step, nothing is said
abbrev pub TookAll : Store → Option (List ℕ) → Option (List ℕ) → Effect → Type 0
TookAll s before after (GoesOn t printed) = (t ≡ s) × (after ≡ with_taken before printed)
TookAll s before after (GoesTo at) = ⊥
TookAll s before after (Calls d f vs t) = ⊥
TookAll s before after (Returns v) = ⊥
TookAll s before after Fails = ⊤

-- the sink took a front of what it prints
abbrev pub TookSome : Option (List ℕ) → Option (List ℕ) → Effect → Type 0
TookSome before after (GoesOn t printed) = TookFront before after printed
TookSome before after (GoesTo at) = ⊥
TookSome before after (Calls d f vs t) = ⊥
TookSome before after (Returns v) = ⊥
TookSome before after Fails = ⊤

-- whatever the registers show, the instruction printed
abbrev pub Prints : Map → List Part → Option (List ℕ) → Option (List ℕ) → (Store → Effect) → Type 0
Prints m ps before after effect = (s : Store) → Shows m s ps → TookAll s before after (effect s)

-- whatever the registers show, the sink took a front of what the instruction prints
abbrev pub PrintsSome : Map → List Part → Option (List ℕ) → Option (List ℕ) → (Store → Effect) → Type 0
PrintsSome m ps before after effect = (s : Store) → Shows m s ps → TookSome before after (effect s)

-- why an instruction didn't print, by what the sink had taken and how often it had failed, before and after
abbrev pub IsPrintStop : Map → List Part → Option (List ℕ) → Option (List ℕ) → ℕ → ℕ → (Store → Effect) → PrintStop → Type 0
IsPrintStop m ps before after failed fails effect Stuck = HasNone m ps effect × (after ≡ before)
IsPrintStop m ps before after failed fails effect OutFault = PrintsSome m ps before after effect × Rose failed fails

-- why a text didn't go to the sink: the place stands for none, or the sink failed
abbrev pub IsTextStop : Heap → Part → Option (List ℕ) → Option (List ℕ) → ℕ → ℕ → PrintStop → Type 0
IsTextStop h p before after failed fails Stuck = ((d : Datum) → Means (map_of h) d p → text_in d ≡ None) × (after ≡ before)
IsTextStop h p before after failed fails OutFault = ((bytes : List ℕ) → IsText h p bytes → TookFront before after bytes) × Rose failed fails
