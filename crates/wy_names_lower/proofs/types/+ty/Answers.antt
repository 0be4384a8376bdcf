use Rattle.std.proofs.Common.{◌∙◌, ap}
use Rattle.wy_core.specs.CoreSeen.{seen_ty}
use Rattle.wy_names_lower.proofs.PairLemmas.{ty_fields_turn}
use Rattle.wy_names_lower.proofs.SeenLemmas.{record_ty_value}
use Rattle.wy_names_lower.proofs.types.+ty.Goals as goal

pub in_fields-loop-field-preserved : goal.in_fields-loop-field-preserved
in_fields-loop-field-preserved t c =
    ty_fields_turn c.args.scope.now c.args.fields.now c.loop-field.field-index c.field-item.result c.loop-field.map.entries c.insert.new.self.entries c.in_ok-name.name c.in_ok-held.held _
    c.loop-field-test.true c.field-item.is c.in_ok-name.ensures.value (ap seen_ty c.in_ok-held.ensures ∙ c.in_ok-ty.ensures.value) c.in_ok-insert.ensures.entries c.loop-field.invariant

pub in_ty-returns-in_ok-fields-in-Record-clause-value : goal.in_ty-returns-in_ok-fields-in-Record-clause-value
in_ty-returns-in_ok-fields-in-Record-clause-value t c =
    record_ty_value c.args.scope.now c.args.ty.now c.in-Record.fields c.as_slice.result.now c.in_ok-fields-in-Record.fields _ c.in-Record.is c.as_slice.ensures c.in_ok-fields-in-Record.ensures.value
    c.record_ty.ensures.value
