use Rattle.std.proofs.Common.{◌≡◌, ◌∙◌, ap, sym, subst, IfOk}
use Rattle.wy_ast.specs.SurfaceTree.{Ty}
use Rattle.wy_ast.specs.declared.types.TyKind as kind
use Rattle.wy_names_recursion.specs.TypeNames as names
use Rattle.wy_names_recursion.proofs.BindSeenLemmas.{seen_record_ty}
use Rattle.wy_names_recursion.proofs.bind_types.+ty.Goals as goal

pub in_ty-returns-in-Record : goal.in_ty-returns-in-Record
in_ty-returns-in-Record t c = record {
  value = subst (λ (x : Ty). IfOk c.in_fields.result (λ f. f ≡ names.in_ty c.args.scope.now x c.args.found))
      (sym (seen_record_ty c.args.ty.now c.as_slice.result.now (c.in-Record.is ∙ ap kind.Record (sym c.as_slice.ensures)))) c.in_fields.ensures.value;
}
