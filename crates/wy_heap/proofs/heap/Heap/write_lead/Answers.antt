use Rattle.std.proofs.Common.{arith}
use Rattle.std.proofs.lemmas.Option.{slice_get_within}
use Rattle.wy_heap.proofs.SlotLemmas.{shape_known}
use Rattle.wy_heap.proofs.ShowLemmas.{fields_long}
use Rattle.wy_heap.proofs.CompareLemmas.{numbers_in}
use Rattle.wy_heap.proofs.heap.Heap.write_lead.Goals as goal

pub fields_of-requires : goal.fields_of-requires
fields_of-requires c =
    let h = c.args.self.now in
    let known = shape_known h c.args.key c.index.result.now c.in-Record.shape c.requires.meant.0 c.index.ensures c.in-Record.is c.requires.meant.1 in
    slice_get_within h.shapes.lists c.in-Record.shape known.0 known.1

pub write_name-requires-clause-within : goal.write_name-requires-clause-within
write_name-requires-clause-within c =
    omega (arith, c.requires.within, fields_long c.args.self.now c.args.key c.index.result.now c.in-Record.shape c.fields_of.result.now c.index.ensures c.in-Record.is c.fields_of.ensures c.requires.meant)

pub write_name-requires-clause-named : goal.write_name-requires-clause-named
write_name-requires-clause-named c =
    let h = c.args.self.now in
    numbers_in h.shapes c.in-Record.shape c.fields_of.result.now c.requires.table c.fields_of.ensures c.args.place
    (omega (arith, c.requires.within, fields_long h c.args.key c.index.result.now c.in-Record.shape c.fields_of.result.now c.index.ensures c.in-Record.is c.fields_of.ensures c.requires.meant))
