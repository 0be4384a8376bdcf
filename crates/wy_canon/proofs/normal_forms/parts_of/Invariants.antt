use Rattle.std.proofs.Common.{◌≡◌, ◌++◌, drop}
use Rattle.wy_types.specs.Conjuncts as conjuncts
use Rattle.wy_canon.proofs.normal_forms.parts_of.Given as goal

abbrev pub invariant-loop-field : goal.invariant-loop-field
invariant-loop-field l = (l.made ++ conjuncts.parts_of l.table l.depth l.up (drop l.field-index l.fields)) ≡ conjuncts.parts_of l.table l.depth l.up l.fields
