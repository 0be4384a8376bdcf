-- Which conjuncts are of numbers alone.
use Rattle.std.specs.Prelude.{Bool, true, false}
use Rattle.wy_core.specs.Types.{Atom, NullAtom, BoolAtom, IntAtom, ArrayAtom, RecordAtom, AnyRecordAtom}

abbrev pub is_whole : Atom → Bool
is_whole NullAtom = false
is_whole BoolAtom = false
is_whole IntAtom = true
is_whole (ArrayAtom part) = false
is_whole (RecordAtom parts) = false
is_whole AnyRecordAtom = false
