use Rattle.std.proofs.Common.{◌≡◌, List, Bool, true, false, sym, ◌∙◌, ap}
use Rattle.wy_subtype.specs.Marks.{mark_at, part_marks}
use Rattle.wy_subtype.proofs.NarrowLemmas.{reach_narrow}
use Rattle.wy_subtype.proofs.ValueLemmas.{held_sound, value_held}
use Rattle.wy_subtype.proofs.values.has_value.Goals as goal

pub returns-clause-sound : goal.returns-clause-sound
returns-clause-sound c = λ b.
    let r = c.in_ok-reach.field-0 in
    let k = c.in_ok-reach.ensures.known in
    let e : c.as_slice-3.result.now ≡ part_marks c.in_ok-marks.marks r.reach.heads = c.as_slice-3.ensures ∙ c.in_ok-held.ensures.value ∙ ap (λ (x : List Bool). part_marks x c.as_slice-2.result.now) c.as_slice.ensures ∙ ap (part_marks c.in_ok-marks.marks) c.as_slice-2.ensures in
    let m : mark_at (part_marks c.in_ok-marks.marks r.reach.heads) r.number ≡ true = ap (λ (x : List Bool). mark_at x r.number) (sym e) ∙ sym c.mark_at.ensures.value ∙ b in
    held_sound c.args.table.now c.args.depth c.requires.ranked c.args.part.now r.reach c.in_ok-marks.marks k.known c.in_ok-marks.ensures.sound r.number c.args.part.now m k.begins

pub returns-clause-complete : goal.returns-clause-complete
returns-clause-complete c = λ b d h.
    let r = c.in_ok-reach.field-0 in
    let k = c.in_ok-reach.ensures.known in
    let e : c.as_slice-3.result.now ≡ part_marks c.in_ok-marks.marks r.reach.heads = c.as_slice-3.ensures ∙ c.in_ok-held.ensures.value ∙ ap (λ (x : List Bool). part_marks x c.as_slice-2.result.now) c.as_slice.ensures ∙ ap (part_marks c.in_ok-marks.marks) c.as_slice-2.ensures in
    let m : mark_at (part_marks c.in_ok-marks.marks r.reach.heads) r.number ≡ false = ap (λ (x : List Bool). mark_at x r.number) (sym e) ∙ sym c.mark_at.ensures.value ∙ b in
    let v = value_held c.args.table.now c.args.depth c.requires.ranked c.args.part.now r.reach r.number k c.in_ok-marks.marks c.in_ok-marks.ensures.closed d h in
    cc (m, v)

pub returns-clause-narrow : goal.returns-clause-narrow
returns-clause-narrow c = reach_narrow c.args.table.now c.args.depth c.args.part.now c.in_ok-reach.field-0.reach c.in_ok-reach.field-0.number c.in_ok-reach.ensures.known
