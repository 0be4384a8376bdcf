use Rattle.std.proofs.Common.{◌≡◌, OnOk, subst}
use Rattle.wy_names_recursion.specs.Uses.{Edges}
use Rattle.wy_names_recursion.proofs.SeenLemmas.{record_ty_uses}
use Rattle.wy_names_recursion.proofs.types.+ty.Goals as goal

pub in_ty-returns-in-Record : goal.in_ty-returns-in-Record
in_ty-returns-in-Record t c =
    let is = record_ty_uses c.args.scope.now c.args.from c.args.way c.guarded.result c.args.ty.now c.args.edges.now c.in-Record.fields c.as_slice.result.now c.in-Record.is c.as_slice.ensures c.guarded.ensures.value in
    record { value = subst (λ (z : Edges). OnOk c.in_fields.result (c.in_fields.new.edges ≡ z)) is c.in_fields.ensures.value }
