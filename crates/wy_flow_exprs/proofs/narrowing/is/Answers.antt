use Rattle.std.proofs.Common.{◌∙◌, refl, sym, ap, []}
use Rattle.wy_core.specs.CoreSeen.{seen_ty, seen_expr}
use Rattle.wy_flow_spec.specs.environment.Seen.{seen_changes}
use Rattle.wy_types.specs.Names.{types_of}
use Rattle.wy_flow_exprs.specs.Seen.{seen_flow, seen_found}
use Rattle.wy_flow_exprs.proofs.FoundLemmas.{truth_at}
use Rattle.wy_flow_exprs.proofs.FormLemmas.{no_variable, of_variable}
use Rattle.wy_flow_exprs.proofs.narrowing.is.Goals as goal

pub returns-in-None-clause-value : goal.returns-in-None-clause-value
returns-in-None-clause-value c =
    no_variable (types_of c.args.program.now.names) c.args.at (seen_expr c.args.operand.now) (seen_found (seen_flow c.args.walk.now) c.args.value) (seen_ty c.args.ty.now) (seen_found (seen_flow c.truth.new.walk)) c.truth.result (sym c.in-None.is ∙ c.tested.ensures.value)
    (truth_at (seen_found (seen_flow c.truth.new.walk)) c.truth.result (seen_changes c.new.result) [] (seen_changes c.new-in-None.result) [] (seen_flow c.args.walk.now) (seen_flow c.args.walk.now) (ap seen_changes c.new.ensures) (ap seen_changes c.new-in-None.ensures) refl c.truth.ensures.value)

pub returns-in-Some-clause-value : goal.returns-in-Some-clause-value
returns-in-Some-clause-value c =
    of_variable (types_of c.args.program.now.names) c.args.at c.in-Some.variable (seen_expr c.args.operand.now) (seen_found (seen_flow c.args.walk.now) c.args.value) (seen_ty c.args.ty.now) (seen_found (seen_flow c.is_variable.new.walk)) c.is_variable.result (sym c.in-Some.is ∙ c.tested.ensures.value) c.is_variable.ensures.value
