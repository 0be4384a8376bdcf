use Rattle.std.proofs.Common.{◌≡◌, ◌∙◌, ap, sym, subst, IfOk}
use Rattle.wy_core.specs.Types as ty
use Rattle.wy_core.specs.declared.types.TyKind as kind
use Rattle.wy_vc_spec.specs.Named as spec
use Rattle.wy_vc_tables.specs.Mentions.{no_nodes}
use Rattle.wy_vc_tables.proofs.SeenLemmas.{seen_record_ty}
use Rattle.wy_vc_tables.proofs.nodes.+ty_nodes.Goals as goal

pub nodes_in_ty-returns-in-Record : goal.nodes_in_ty-returns-in-Record
nodes_in_ty-returns-in-Record t c = record {
  value = subst (λ (x : ty.Ty). IfOk c.nodes_in_record_ty.result (λ n. n ≡ spec.nodes_of_ty no_nodes x))
      (sym (seen_record_ty c.args.ty.now c.as_slice.result.now (c.in-Record.is ∙ ap kind.Record (sym c.as_slice.ensures)))) c.nodes_in_record_ty.ensures.value;
}
