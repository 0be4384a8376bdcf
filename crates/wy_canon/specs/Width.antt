-- When a question is refused as wide.
use Rattle.std.specs.Prelude.{◌≡◌, Bool, true, false, Ok, Err}
use Rattle.std.specs.declared.result.Result.{Result}
use Rattle.wy_canon.specs.declared.fault.TypeFault.{TypeFault}
use Rattle.wy_canon.specs.declared.fault.TypeFault.TheVariants.{TypeWide, NoMemory}

-- an answer exactly where the question is narrow, want of memory aside
abbrev pub Exactly : {X : Type 0} → Result X TypeFault → Bool → Type 0
Exactly (Ok x) narrow = narrow ≡ true
Exactly (Err TypeWide) narrow = narrow ≡ false
Exactly (Err NoMemory) narrow = Unit {0}
