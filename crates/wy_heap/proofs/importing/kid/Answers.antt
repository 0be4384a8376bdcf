use Rattle.std.proofs.Common.{length}
use Rattle.wy_value.specs.Seen.{seen_items, seen_fields}
use Rattle.wy_heap.specs.Meaning.{data_in}
use Rattle.wy_heap.proofs.ImportLemmas.{kid_of, kid_array, kid_record, length-seen_items, length-seen_fields}
use Rattle.wy_heap.proofs.importing.kid.Goals as goal

pub returns-in-Array : goal.returns-in-Array
returns-in-Array c =
    let slice = c.as_slice.result.now in
    kid_of c.args.value.now (seen_items slice) (length slice) c.args.place _ c.item_kid.result
    (kid_array c.args.value.now slice c.in-Array.items c.in-Array.is c.as_slice.ensures) (length-seen_items slice) c.item_kid.ensures

pub returns-in-Record : goal.returns-in-Record
returns-in-Record c =
    let slice = c.as_slice-in-Record.result.now in
    kid_of c.args.value.now (data_in (seen_fields slice)) (length slice) c.args.place _ c.field_kid.result
    (kid_record c.args.value.now slice c.in-Record.fields c.in-Record.is c.as_slice-in-Record.ensures) (length-seen_fields slice) c.field_kid.ensures
