use Rattle.std.proofs.Common.{◌∙◌, ◌∷◌, ◌++◌, [], ap, refl}
use Rattle.wy_lemmas.proofs.Equations.{both_same}
use Rattle.wy_probe.proofs.ListLemmas.{ends, turn}
use Rattle.wy_probe.proofs.records.with_rest.Goals as goal

pub loop-part-preserved : goal.loop-part-preserved
loop-part-preserved c =
    let rest = c.args.rest.now in
    let x = c.part-item.result in
    let row = c.loop-part.row in
    turn (λ ys. ys) rest c.loop-part.part-index x row c.push.new.self (c.args.row ++ rest) (x ∷ []) c.loop-part-test.true c.part-item.is
    (c.in_ok-push.ensures.ok ∙ ap (λ f. row ++ f ∷ []) (both_same (λ n v. (n, v)) _ x.0 _ x.1 c.in_ok-name.ensures.value c.in_ok-copy.ensures.value)) (λ ys. refl) c.loop-part.invariant

pub returns : goal.returns
returns c = record { value = ends (λ ys. ys) c.args.rest.now c.loop-part.part-index c.loop-part.row (c.args.row ++ c.args.rest.now) c.loop-part-test.false refl c.loop-part.invariant }
