use Rattle.std.proofs.Common.{sym, arith}
use Rattle.wy_heap.proofs.ImportLemmas.{seen_item}
use Rattle.wy_heap.proofs.importing.item_kid.Goals as goal

pub returns-then-place-items : goal.returns-then-place-items
returns-then-place-items c = (
  omega arith,
  c.if-place-items.true,
  seen_item c.args.items.now c.args.place c.index-items-place.result c.if-place-items.true (sym c.index-items-place.is),
)
