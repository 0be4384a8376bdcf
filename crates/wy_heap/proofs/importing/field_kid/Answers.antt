use Rattle.std.proofs.Common.{ℕ, List, sym, ap, ◌∙◌, arith}
use Rattle.wy_value.specs.declared.value.Value.{Value}
use Rattle.wy_value.specs.Seen.{seen}
use Rattle.wy_heap.proofs.ImportLemmas.{seen_field}
use Rattle.wy_heap.proofs.importing.field_kid.Goals as goal

pub returns-then-place-fields : goal.returns-then-place-fields
returns-then-place-fields c = (
  omega arith,
  c.if-place-fields.true,
  seen_field c.args.fields.now c.args.place c.index-fields-place.result c.if-place-fields.true (sym c.index-fields-place.is) ∙ ap (λ (f : List ℕ × Value). seen f.1) c.index-fields-place.is,
)
