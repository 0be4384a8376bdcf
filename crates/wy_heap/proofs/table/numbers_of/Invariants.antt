use Rattle.std.proofs.Common.{take}
use Rattle.wy_value.specs.Shapes.{IsShapes}
use Rattle.wy_value.specs.Seen.{seen_fields}
use Rattle.wy_value.specs.Values.{names_of}
use Rattle.wy_heap.specs.Extending.{Extends, AreNamed}
use Rattle.wy_heap.proofs.table.numbers_of.Given as goal

abbrev pub invariant-loop-field : goal.invariant-loop-field
invariant-loop-field l = record {
  table : IsShapes l.table;
  extends : Extends l.fn.table l.table;
  named : AreNamed l.table l.list.items (names_of (seen_fields (take l.field-index l.fields)));
}
