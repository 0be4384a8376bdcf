use Rattle.std.proofs.Common.{◌≡◌, ◌++◌, drop, map}
use Rattle.wy_code_spec.specs.tables.Tables as spec
use Rattle.wy_code_spec.proofs.tables.tables.numbers_of.Given as goal

abbrev pub invariant-loop-field : goal.invariant-loop-field
invariant-loop-field g l = l.list ++ spec.numbers_of l.table.names (map (λ f. f.0) (drop l.field-index l.fields)) ≡ spec.numbers_of l.table.names (map (λ f. f.0) l.fields)
