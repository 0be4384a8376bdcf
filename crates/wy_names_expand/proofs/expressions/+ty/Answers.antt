use Rattle.wy_names_expand.proofs.SeenLemmas.{record_ty_size}
use Rattle.wy_names_expand.proofs.expressions.+ty.Goals as goal

pub in_ty-returns-in-Record : goal.in_ty-returns-in-Record
in_ty-returns-in-Record t c =
    let size = record_ty_size c.args.spot c.args.ty.now c.args.measure c.in-Record.fields c.as_slice.result.now c.in-Record.is c.as_slice.ensures in
    record { value = cc size }
