use Rattle.std.proofs.Common.{◌<◌, ◌≤◌, length, map, ap, ◌∙◌, arith}
use Rattle.wy_core.specs.CoreSeen.{seen_ty}
use Rattle.wy_eval.proofs.VariableLemmas.{type_past, type_set}
use Rattle.wy_eval.proofs.variables.set_type.Goals as goal

pub returns-then-variable-len : goal.returns-then-variable-len
returns-then-variable-len c =
    let over : length c.args.types.now ≤ c.args.variable = omega arith in
    record { value = type_past c.args.types.now c.args.variable c.args.ty over }

pub returns : goal.returns
returns c =
    let within : c.args.variable < length c.args.types.now = omega arith in
    record { value = ap (map seen_ty) c.set.ensures ∙ type_set c.args.types.now c.args.variable c.args.ty within }
