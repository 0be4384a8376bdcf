use Rattle.std.proofs.Common.{◌≡◌, ◌∙◌, ap, sym, List, ℕ}
use Rattle.wy_core.specs.CoreSeen.{seen_exprs, seen_fields}
use Rattle.wy_core.specs.CoreTree as tree
use Rattle.wy_core.specs.declared.expressions.Expr.{Expr}
use Rattle.wy_core_build.specs.Instances.{instance_of, instance_fields}
use Rattle.wy_core_build.proofs.ListLemmas.{parts_turn, parts_end, fields_turn, fields_end}
use Rattle.wy_core_build.proofs.SeenLemmas.{seen_record}
use Rattle.wy_core_build.proofs.instances.+instance.Goals as goal

pub instance-returns-in_ok-instance_fields-in-Record : goal.instance-returns-in_ok-instance_fields-in-Record
instance-returns-in_ok-instance_fields-in-Record t c = record {
  value = c.record.ensures.value
      ∙ ap (tree.RecordExpr c.args.at)
      (c.in_ok-instance_fields-in-Record.ensures.value
      ∙ ap (λ (l : List (List ℕ × Expr)). instance_fields c.args.at (seen_exprs c.args.args.now) c.args.base (seen_fields l)) c.as_slice-in-Record.ensures)
      ∙ sym (ap (instance_of c.args.at (seen_exprs c.args.args.now) c.args.base) (seen_record c.args.clause.now c.in-Record.fields c.in-Record.is));
}

pub instance_fields-loop-field-preserved : goal.instance_fields-loop-field-preserved
instance_fields-loop-field-preserved t c =
    fields_turn c.args.at (seen_exprs c.args.args.now) c.args.base c.loop-field.made c.push.new.self c.args.fields.now c.loop-field.field-index c.field-item.result c.in_ok-name.name c.in_ok-value.value
    _ c.loop-field-test.true c.field-item.is c.in_ok-name.ensures.value c.in_ok-value.ensures.value c.in_ok-push.ensures.ok c.loop-field.invariant

pub instance_fields-returns : goal.instance_fields-returns
instance_fields-returns t c = record {
  value = fields_end c.args.at (seen_exprs c.args.args.now) c.args.base c.loop-field.made c.args.fields.now c.loop-field.field-index _ c.loop-field-test.false c.loop-field.invariant;
}

pub instances-loop-part-preserved : goal.instances-loop-part-preserved
instances-loop-part-preserved t c =
    parts_turn c.args.at (seen_exprs c.args.args.now) c.args.base c.loop-part.made c.push.new.self c.args.parts.now c.loop-part.part-index c.part-item.result c.in_ok-next.next
    _ c.loop-part-test.true c.part-item.is c.in_ok-next.ensures.value c.in_ok-push.ensures.ok c.loop-part.invariant

pub instances-returns : goal.instances-returns
instances-returns t c = record {
  value = parts_end c.args.at (seen_exprs c.args.args.now) c.args.base c.loop-part.made c.args.parts.now c.loop-part.part-index _ c.loop-part-test.false c.loop-part.invariant;
}
