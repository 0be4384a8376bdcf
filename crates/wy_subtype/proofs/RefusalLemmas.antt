-- A refusal that is handed on.
use Rattle.std.proofs.Common.{◌≡◌, Bool, false}
use Rattle.std.specs.Prelude.{Err}
use Rattle.std.specs.declared.result.Result.{Result}
use Rattle.wy_canon.specs.declared.fault.TypeFault.{TypeFault}
use Rattle.wy_canon.specs.declared.fault.TypeFault.TheVariants.{TypeWide, NoMemory}
use Rattle.wy_canon.specs.Width.{Exactly}
use Rattle.wy_subtype.specs.Known.{WideOnly}

pub wide_map : (X Y : Type 0) (e : TypeFault) (W V : Type 0) → (W → V) → (let r : Result X TypeFault = Err e in WideOnly r W) → (let r : Result Y TypeFault = Err e in WideOnly r V)
wide_map X Y TypeWide W V f h = f h
wide_map X Y NoMemory W V f h = tt

pub exactly_map : (X Y : Type 0) (e : TypeFault) (b : Bool) (V : Type 0) → (b ≡ false → V) → (let r : Result X TypeFault = Err e in Exactly r b) → (let r : Result Y TypeFault = Err e in WideOnly r V)
exactly_map X Y TypeWide b V f h = f h
exactly_map X Y NoMemory b V f h = tt
