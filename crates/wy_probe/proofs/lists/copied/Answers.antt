use Rattle.std.proofs.Common.{◌∷◌, [], refl, arith}
use Rattle.std.proofs.Common.{◌++◌, ◌∙◌, ap}
use Rattle.wy_probe.proofs.ListLemmas.{ends, turn}
use Rattle.wy_probe.proofs.lists.copied.Goals as goal

pub loop-value-preserved : goal.loop-value-preserved
loop-value-preserved c =
    let v = c.value-item.result in
    turn (λ ys. ys) c.args.values.now c.loop-value.value-index v c.loop-value.made c.push.new.self c.args.values.now (v ∷ []) c.loop-value-test.true c.value-item.is
    (c.in_ok-push.ensures.ok ∙ ap (λ u. c.loop-value.made ++ u ∷ []) c.in_ok-copy.ensures.value) (λ ys. refl) c.loop-value.invariant

pub returns : goal.returns
returns c = record { value = ends (λ ys. ys) c.args.values.now c.loop-value.value-index c.loop-value.made c.args.values.now (omega arith) refl c.loop-value.invariant }
