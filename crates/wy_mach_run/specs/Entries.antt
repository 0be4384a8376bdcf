-- Which function or method does a name name?
use Rattle.std.specs.Prelude.{◌≡◌, ◌≢◌, ◌<◌, ℕ, List, length, Some, is_some, slice_get, ⊤}
use Rattle.wy_core.specs.CoreTree.{Core, Routine, routines_of}
use Rattle.wy_mach_run.specs.declared.entry.Entry.{Entry}
use Rattle.wy_mach_run.specs.declared.fault.StartFault.{StartFault}
use Rattle.wy_mach_run.specs.declared.fault.StartFault.TheVariants.{NoEntry, Argument, OtherCount, OtherType, RequiresFails, TurnsSpent, NoMemory}

-- the routine with this number is the first of this name
pub record IsFirst (routines : List (Routine ℕ)) (name : List ℕ) (number : ℕ) (r : Routine ℕ) : Type 0 where
  pub there : slice_get routines number ≡ Some r
  pub name_is : r.name ≡ name
  pub first : (k : ℕ) (other : Routine ℕ) → k < number → slice_get routines k ≡ Some other → other.name ≢ name

-- no routine has this name
abbrev pub HasNone : List (Routine ℕ) → List ℕ → Type 0
HasNone routines name = (k : ℕ) (other : Routine ℕ) → slice_get routines k ≡ Some other → other.name ≢ name

-- the function or method of this name is this one, with this number
abbrev pub IsEntry : Core ℕ → List ℕ → ℕ → Routine ℕ → Type 0
IsEntry core name number r = IsFirst (routines_of core) name number r

-- the program declares no function or method of this name
abbrev pub HasNoEntry : Core ℕ → List ℕ → Type 0
HasNoEntry core name = HasNone (routines_of core) name

-- ---- what is found

-- the entry is the first of this name
pub record HasEntry (routines : List (Routine ℕ)) (name : List ℕ) (e : Entry) : Type 0 where
  pub routine : Routine ℕ
  pub is : IsFirst routines name e.number routine
  pub count : e.count ≡ length routine.params
  pub has_result : e.has_result ≡ is_some routine.result

-- there is none; want of memory is free
abbrev pub LacksEntry : List (Routine ℕ) → List ℕ → StartFault → Type 0
LacksEntry routines name NoEntry = HasNone routines name
LacksEntry routines name (Argument fault) = ⊥
LacksEntry routines name (OtherCount count) = ⊥
LacksEntry routines name (OtherType number) = ⊥
LacksEntry routines name (RequiresFails number) = ⊥
LacksEntry routines name TurnsSpent = ⊥
LacksEntry routines name NoMemory = ⊤
