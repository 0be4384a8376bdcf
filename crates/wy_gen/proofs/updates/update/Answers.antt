use Rattle.std.proofs.Common.{◌≡◌, ◌∙◌, List, IfOk, map, subst}
use Rattle.wy_core.specs.CoreSeen.{seen_expr, seen_step}
use Rattle.wy_code.specs.declared.pieces.steps.Step.{Step}
use Rattle.wy_gen.proofs.UpdateLemmas.{update_same}
use Rattle.wy_gen.proofs.updates.update.Goals as goal

pub returns-clause-value : goal.returns-clause-value
returns-clause-value c =
    subst (λ (z : List Step). IfOk c.indices.result (λ m. m.steps ≡ z))
    (update_same c.args.context.now c.args.variable (map seen_step c.args.path.now) (seen_expr c.args.value.now) c.args.free c.in_ok-index_count.field-0 c.in_ok-register.register c.in_ok-slots.slots c.args.behind.live c.in_ok-behind.behind.live c.in_ok-behind-2.behind.live
    c.in_ok-behind-3.behind.live c.args.behind.steps c.in_ok-behind.behind.steps c.in_ok-behind-2.behind.steps c.in_ok-behind-3.behind.steps c.in_ok-index_count.ensures.value c.in_ok-register.ensures.value c.in_ok-slots.ensures.value c.in_ok-behind.ensures.live
    c.in_ok-behind.ensures.value c.in_ok-behind-2.ensures.live c.in_ok-behind-2.ensures.value c.in_ok-behind-3.ensures.live c.in_ok-behind-3.ensures.value)
    (c.indices.ensures.value c.args.behind.live (c.as_slice.ensures ∙ c.in_ok-places.ensures.value))
