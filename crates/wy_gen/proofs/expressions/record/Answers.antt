use Rattle.std.proofs.Common.{◌≡◌, List, IfOk, subst}
use Rattle.wy_code.specs.declared.pieces.steps.Step.{Step}
use Rattle.wy_gen.proofs.PieceLemmas.{record_same}
use Rattle.wy_gen.proofs.expressions.record.Goals as goal

pub returns-clause-value : goal.returns-clause-value
returns-clause-value c =
    subst (λ (z : List Step). IfOk c.plain.result (λ m. m.steps ≡ z)) (record_same c.args.context.now c.args.fields.now c.args.register c.in_ok-shape.shape c.in_ok-parts.parts c.args.behind.steps c.in_ok-shape.ensures.value c.in_ok-parts.ensures.value)
    c.plain.ensures.value
