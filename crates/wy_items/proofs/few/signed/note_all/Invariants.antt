use Rattle.std.proofs.Common.{take}
use Rattle.std.specs.HashSet.{contains}
use Rattle.wy_items.specs.few.Signed.{same_key, NotesAll}
use Rattle.wy_items.proofs.few.signed.note_all.Given as goal

-- those that are passed are noted
abbrev pub invariant-loop-key : goal.invariant-loop-key
invariant-loop-key l = NotesAll (contains same_key l.fn.table) (contains same_key l.table) (take l.key-index l.keys)
