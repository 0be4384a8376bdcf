use Rattle.std.proofs.Common.{◌≡◌, ◌<◌, length, sym, ◌∙◌, arith}
use Rattle.wy_eval_exprs.proofs.LoopLemmas.{names_left}
use Rattle.wy_eval_exprs.proofs.kinds.same_names.Goals as goal

pub returns-then-number-tys-2 : goal.returns-then-number-tys-2
returns-then-number-tys-2 c =
    let i = c.loop-field.field-index in
    let e : c.loop-field.number ≡ i = c.loop-field.invariant.place in
    let within : i < length c.args.tys.now = omega arith in
    record { value = sym (names_left c.args.fields.now c.args.tys.now i c.loop-field-test.false within) ∙ c.loop-field.invariant.left }
