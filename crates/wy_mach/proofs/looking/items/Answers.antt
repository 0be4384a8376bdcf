use Rattle.std.proofs.Common.{◌≡◌, rules}
use Rattle.wy_heap.specs.declared.part.Kind.TheVariants.{Array}
use Rattle.wy_heap.proofs.RowLemmas.{array_there}
use Rattle.wy_mach.proofs.looking.items.Goals as goal

pub len-requires-clause-array : goal.len-requires-clause-array
len-requires-clause-array c =
    let array : c.kind.result ≡ Array = search rules in
    array_there c.args.heap.now c.args.place.now c.requires.0 c.kind.result c.requires.1 c.kind.ensures.value array
