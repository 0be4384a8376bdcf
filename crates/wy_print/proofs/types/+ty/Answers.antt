use Rattle.std.proofs.Common.{◌∙◌, ap, sym, rules}
use Rattle.wy_ast.specs.declared.types.TyKind as kind
use Rattle.wy_print.proofs.WritingLemmas.{two, three}
use Rattle.wy_print.proofs.TypeLemmas.{record_text, array_text, union_text, inter_text, not_text}
use Rattle.wy_print.proofs.types.+ty.Goals as goal

pub write_ty-returns-in_ok-write_bytes-in-Record-2 :
    goal.write_ty-returns-in_ok-write_bytes-in-Record-2
write_ty-returns-in_ok-write_bytes-in-Record-2 t c =
    three _ _ _ _ _ _ _ _ c.in_ok-write_bytes-in-Record.ensures c.in_ok-write_fields-in-Record.ensures c.in_ok-write_bytes-in-Record-2.ensures
    (record_text c.args.ty.now c.as_slice.result.now (c.in-Record.is ∙ ap kind.Record (sym c.as_slice.ensures)))

pub write_ty-returns-in_ok-write_bytes-in-Array : goal.write_ty-returns-in_ok-write_bytes-in-Array
write_ty-returns-in_ok-write_bytes-in-Array t c =
    two _ _ _ _ _ _ c.in_ok-write_part-in-Array.ensures c.in_ok-write_bytes-in-Array.ensures
    (array_text c.args.ty.now c.get.result.now (c.in-Array.is ∙ ap kind.Array (sym c.get.ensures)))

pub write_ty-returns-in_ok-write_part-in-Union-2 :
    goal.write_ty-returns-in_ok-write_part-in-Union-2
write_ty-returns-in_ok-write_part-in-Union-2 t c =
    three _ _ _ _ _ _ _ _ c.in_ok-write_part-in-Union.ensures c.in_ok-write_bytes-in-Union.ensures c.in_ok-write_part-in-Union-2.ensures
    (union_text c.args.ty.now c.get-in-Union.result.now c.get-in-Union-2.result.now (cc (c.in-Union.is, c.get-in-Union.ensures, c.get-in-Union-2.ensures)))

pub write_ty-returns-in_ok-write_part-in-Inter-2 :
    goal.write_ty-returns-in_ok-write_part-in-Inter-2
write_ty-returns-in_ok-write_part-in-Inter-2 t c =
    three _ _ _ _ _ _ _ _ c.in_ok-write_part-in-Inter.ensures c.in_ok-write_bytes-in-Inter.ensures c.in_ok-write_part-in-Inter-2.ensures
    (inter_text c.args.ty.now c.get-in-Inter.result.now c.get-in-Inter-2.result.now (search rules))

pub write_ty-returns-in_ok-write_part-in-Not : goal.write_ty-returns-in_ok-write_part-in-Not
write_ty-returns-in_ok-write_part-in-Not t c =
    two _ _ _ _ _ _ c.in_ok-write_bytes-in-Not.ensures c.in_ok-write_part-in-Not.ensures
    (not_text c.args.ty.now c.get-in-Not.result.now (c.in-Not.is ∙ ap kind.Not (sym c.get-in-Not.ensures)))
