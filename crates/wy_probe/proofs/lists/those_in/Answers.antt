use Rattle.std.proofs.Common.{◌∙◌, ◌∷◌, [], ap, append-nil, refl, sym}
use Rattle.wy_core.specs.CoreSeen.{seen_ty}
use Rattle.wy_types.specs.Names.{types_of}
use Rattle.wy_value.specs.Seen.{seen}
use Rattle.wy_probe.specs.Candidates.{those_in}
use Rattle.wy_probe.specs.Tables.{data_in}
use Rattle.wy_probe.proofs.ListLemmas.{ends, mapped, those_left, those_more, turn}
use Rattle.wy_probe.proofs.lists.those_in.Goals as goal
use Rattle.wy_probe.proofs.lists.those_in.Goals.{then-member+in_ok-copy+in_ok-push, else-member}

pub loop-value-preserved : goal.loop-value-preserved
loop-value-preserved c =
    let names = types_of c.args.names.now in
    let t = seen_ty c.args.ty.now in
    let values = c.args.values.now in
    let x = c.value-item.result in
    let made = c.loop-value.made in
    elim c.if-member.branch [
      | then-member+in_ok-copy+in_ok-push w ↦
          turn (λ ys. those_in names t (data_in ys)) values c.loop-value.value-index x (data_in made) (data_in c.if-member.made) (those_in names t (data_in values)) (seen x ∷ []) c.loop-value-test.true c.value-item.is
          (ap data_in w.made-is ∙ mapped seen made w.push.new.self w.in_ok-copy.field-0 (seen x) w.in_ok-push.ensures.ok (ap seen w.in_ok-copy.ensures.value))
          (those_more names t x (sym c.member.ensures.up ∙ w.if-member.true)) c.loop-value.invariant
      | else-member w ↦
          turn (λ ys. those_in names t (data_in ys)) values c.loop-value.value-index x (data_in made) (data_in c.if-member.made) (those_in names t (data_in values)) [] c.loop-value-test.true c.value-item.is
          (ap data_in w.made-is ∙ sym (append-nil (data_in made)))
          (those_left names t x (sym c.member.ensures.up ∙ w.if-member.false)) c.loop-value.invariant
    ]

pub returns : goal.returns
returns c =
    let names = types_of c.args.names.now in
    let t = seen_ty c.args.ty.now in
    let values = c.args.values.now in
    record { value = ends (λ ys. those_in names t (data_in ys)) values c.loop-value.value-index (data_in c.loop-value.made) (those_in names t (data_in values)) c.loop-value-test.false refl c.loop-value.invariant }
