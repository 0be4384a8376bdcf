use Rattle.std.proofs.Common.{◌≡◌, ◌∙◌, ℕ, List, Result, Ok, Err, IfOk, OnOk, ap, map, refl, subst}
use Rattle.wy_core.specs.CoreSeen.{seen_expr}
use Rattle.wy_core.specs.CoreTree as core
use Rattle.wy_names_lower.specs.Uses.{With, seen_templates}
use Rattle.wy_names_lower.specs.SeenPairs.{seen_head}
use Rattle.wy_names_lower.specs.ExprsLowered.{quantified}
use Rattle.wy_names_lower.proofs.PairLemmas.{fields_turn}
use Rattle.wy_names_lower.proofs.SeenLemmas.{quant_variables, quant_value}
use Rattle.wy_names_lower.proofs.expressions.+expr.Goals as goal

pub in_fields-loop-field-preserved : goal.in_fields-loop-field-preserved
in_fields-loop-field-preserved t c = record {
  scope = c.in_ok-value.ensures.scope ∙ c.loop-field.invariant.scope;
  variables = fields_turn (λ (x : With (List (List ℕ × core.Expr ℕ))). x.0) (seen_templates c.args.templates.now) c.args.scope.now c.loop-field.scope c.args.fields.now c.loop-field.field-index c.field-item.result c.loop-field.variables c.in_expr.new.variables
      c.loop-field.map.entries c.insert.new.self.entries c.in_ok-name.name c.in_ok-held.held _ c.loop-field-test.true c.field-item.is c.loop-field.invariant.scope c.in_ok-value.ensures.variables c.in_ok-name.ensures.value
      (ap seen_expr c.in_ok-held.ensures ∙ c.in_ok-value.ensures.value) c.in_ok-insert.ensures.entries c.loop-field.invariant.variables;
  value = fields_turn (λ (x : With (List (List ℕ × core.Expr ℕ))). x.1) (seen_templates c.args.templates.now) c.args.scope.now c.loop-field.scope c.args.fields.now c.loop-field.field-index c.field-item.result c.loop-field.variables c.in_expr.new.variables
      c.loop-field.map.entries c.insert.new.self.entries c.in_ok-name.name c.in_ok-held.held _ c.loop-field-test.true c.field-item.is c.loop-field.invariant.scope c.in_ok-value.ensures.variables c.in_ok-name.ensures.value
      (ap seen_expr c.in_ok-held.ensures ∙ c.in_ok-value.ensures.value) c.in_ok-insert.ensures.entries c.loop-field.invariant.value;
}

on_ok : {T E P : Type 0} (r : Result T E) → P → OnOk r P
on_ok (Ok x) p = p
on_ok (Err e) p = tt

pub several-returns-in_ok-body-in-Quant-clause-variables : goal.several-returns-in_ok-body-in-Quant-clause-variables
several-returns-in_ok-body-in-Quant-clause-variables t c =
    on_ok c.quantified.result
    (quant_variables (seen_templates c.args.templates.now) c.args.scope.now c.in_ranges.new.scope c.args.variables.now c.in_ranges.new.variables c.in_expr.new.variables c.args.expr.now c.in-Quant.all c.in-Quant.ranges c.as_slice.result.now
    c.in-Quant.body c.get.result.now c.in-Quant.is c.as_slice.ensures c.get.ensures c.in_ok-heads-in-Quant.ensures.scope c.in_ok-heads-in-Quant.ensures.variables c.in_ok-body-in-Quant.ensures.variables)

pub several-returns-in_ok-body-in-Quant-clause-value : goal.several-returns-in_ok-body-in-Quant-clause-value
several-returns-in_ok-body-in-Quant-clause-value t c =
    subst (λ (y : core.Expr ℕ). IfOk c.quantified.result (λ e. seen_expr e ≡ y))
    (quant_value (seen_templates c.args.templates.now) c.args.scope.now c.in_ranges.new.scope c.args.variables.now c.in_ranges.new.variables (map seen_head c.in_ok-heads-in-Quant.heads) (seen_expr c.in_ok-body-in-Quant.body) _ c.args.expr.now
    c.in-Quant.all c.in-Quant.ranges c.as_slice.result.now c.in-Quant.body c.get.result.now c.in-Quant.is c.as_slice.ensures c.get.ensures c.in_ok-heads-in-Quant.ensures.scope c.in_ok-heads-in-Quant.ensures.variables
    c.in_ok-heads-in-Quant.ensures.value c.in_ok-body-in-Quant.ensures.value refl)
    c.quantified.ensures.value
