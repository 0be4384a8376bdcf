use Rattle.std.proofs.Common.{◌≡◌, ◌∙◌, IfOk, subst, ap, sym}
use Rattle.wy_core.specs.Types as types
use Rattle.wy_core.specs.declared.types.TyKind as kind
use Rattle.wy_code_spec.specs.tables.Tables as spec
use Rattle.wy_code_spec.proofs.tables_lemmas.NameLemmas.{seen_record_ty, tys_shape}
use Rattle.wy_code_spec.proofs.tables.tables.+types.Goals as goal

pub ty_table-returns-in-Record : goal.ty_table-returns-in-Record
ty_table-returns-in-Record t c = record {
  value = subst (λ (x : types.Ty). IfOk c.record_table.result (λ n. n ≡ spec.ty_table x c.args.table))
      (sym (seen_record_ty c.args.ty.now c.as_slice.result.now (c.in-Record.is ∙ ap kind.Record (sym c.as_slice.ensures)))) c.record_table.ensures.value;
}

pub record_table-returns : goal.record_table-returns
record_table-returns t c = record {
  value = subst (λ (x : spec.Table). IfOk c.with_shape_of.result (λ n. n ≡ x)) (tys_shape c.args.fields.now c.args.table c.in_ok-table.table c.in_ok-table.ensures.value) c.with_shape_of.ensures.value;
}
