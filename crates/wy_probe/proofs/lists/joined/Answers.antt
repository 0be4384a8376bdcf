use Rattle.std.proofs.Common.{◌∙◌, ◌∷◌, [], ap, append-nil, refl, sym}
use Rattle.wy_value.specs.Seen.{seen}
use Rattle.wy_probe.specs.Candidates.{beside, joined}
use Rattle.wy_probe.specs.Tables.{data_in}
use Rattle.wy_probe.proofs.ListLemmas.{beside_new, beside_old, ends, mapped, turn}
use Rattle.wy_probe.proofs.lists.joined.Goals as goal
use Rattle.wy_probe.proofs.lists.joined.Goals.{then-not-is_among+in_ok-copy+in_ok-push, else-not-is_among}

pub loop-value-preserved : goal.loop-value-preserved
loop-value-preserved c =
    let ds = data_in c.args.first.now in
    let second = c.args.second.now in
    let x = c.value-item.result in
    let made = c.loop-value.made in
    elim c.if-not-is_among.branch [
      | then-not-is_among+in_ok-copy+in_ok-push w ↦
          turn (λ ys. beside ds (data_in ys)) second c.loop-value.value-index x (data_in made) (data_in c.if-not-is_among.made) (joined ds (data_in second)) (seen x ∷ []) c.loop-value-test.true c.value-item.is
          (ap data_in w.made-is ∙ mapped seen made w.push.new.self w.in_ok-copy.field-0 (seen x) w.in_ok-push.ensures.ok (ap seen w.in_ok-copy.ensures.value))
          (beside_new ds x (sym c.is_among.ensures.value ∙ w.if-not-is_among.true)) c.loop-value.invariant
      | else-not-is_among w ↦
          turn (λ ys. beside ds (data_in ys)) second c.loop-value.value-index x (data_in made) (data_in c.if-not-is_among.made) (joined ds (data_in second)) [] c.loop-value-test.true c.value-item.is
          (ap data_in w.made-is ∙ sym (append-nil (data_in made)))
          (beside_old ds x (sym c.is_among.ensures.value ∙ w.if-not-is_among.false)) c.loop-value.invariant
    ]

pub returns : goal.returns
returns c =
    let ds = data_in c.args.first.now in
    let second = c.args.second.now in
    record { value = ends (λ ys. beside ds (data_in ys)) second c.loop-value.value-index (data_in c.loop-value.made) (joined ds (data_in second)) c.loop-value-test.false refl c.loop-value.invariant }
