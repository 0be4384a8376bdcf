use Rattle.std.proofs.Common.{◌∙◌}
use Rattle.wy_value.proofs.ShownLemmas.{on_ok, array_written, record_written}
use Rattle.wy_value.proofs.printer.+show.Goals as goal

pub write_value-returns-in_ok-write_items-in-Array : goal.write_value-returns-in_ok-write_items-in-Array
write_value-returns-in_ok-write_items-in-Array t c =
    on_ok c.write_bytes-in-Array-2.result
    (λ p. p ∙ array_written c.args.value.now c.args.text.now.items c.write_bytes-in-Array.new.text.items c.write_items.new.text.items c.as_slice.result.now c.in-Array.items
    c.in-Array.is c.in_ok-write_bytes-in-Array.ensures c.as_slice.ensures c.in_ok-write_items-in-Array.ensures)
    c.write_bytes-in-Array-2.ensures

pub write_value-returns-in_ok-write_fields-in-Record : goal.write_value-returns-in_ok-write_fields-in-Record
write_value-returns-in_ok-write_fields-in-Record t c =
    on_ok c.write_bytes-in-Record-2.result
    (λ p. p ∙ record_written c.args.value.now c.args.text.now.items c.write_bytes-in-Record.new.text.items c.write_fields.new.text.items c.as_slice-in-Record.result.now c.in-Record.fields
    c.in-Record.is c.in_ok-write_bytes-in-Record.ensures c.as_slice-in-Record.ensures c.in_ok-write_fields-in-Record.ensures)
    c.write_bytes-in-Record-2.ensures
