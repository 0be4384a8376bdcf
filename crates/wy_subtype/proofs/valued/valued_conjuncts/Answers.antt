use Rattle.std.proofs.Common.{◌≡◌, ◌∙◌, ℕ, List, Bool, Some, sym, ap, subst}
use Rattle.std.specs.Prelude.{slice_get}
use Rattle.wy_canon.specs.wy_types.declared.conjuncts.Conjunct.{Conjunct}
use Rattle.wy_canon.specs.wy_types.Conjuncts.{dnf_part}
use Rattle.wy_subtype.specs.Valued.{AreValued, marked}
use Rattle.wy_subtype.proofs.NarrowLemmas.{reach_narrow}
use Rattle.wy_subtype.proofs.ValuedLemmas.{marked_valued, no_head}
use Rattle.wy_subtype.proofs.valued.valued_conjuncts.Goals as goal

pub returns-in-None-clause-valued : goal.returns-in-None-clause-valued
returns-in-None-clause-valued c =
    let r = c.in_ok-reach.field-0 in
    absurd (no_head c.args.table.now c.args.depth c.args.part.now r.reach r.number c.in_ok-reach.ensures.known c.in-None.ensures.value)

pub returns-in-None-clause-narrow : goal.returns-in-None-clause-narrow
returns-in-None-clause-narrow c = reach_narrow c.args.table.now c.args.depth c.args.part.now c.in_ok-reach.field-0.reach c.in_ok-reach.field-0.number c.in_ok-reach.ensures.known

pub returns-clause-valued : goal.returns-clause-valued
returns-clause-valued c =
    let r = c.in_ok-reach.field-0 in
    let k = c.in_ok-reach.ensures.known in
    let m = c.in_ok-marks.marks in
    let h = c.in-Some.numbers.now in
    let at : slice_get r.reach.heads r.number ≡ Some h = sym c.in-Some.ensures.value in
    let e : c.in_ok-made.made ≡ marked m r.reach.conjuncts h =
    c.in_ok-made.ensures.value ∙ ap (λ (x : List Bool). marked x c.as_slice-2.result.now c.as_slice-3.result.now) c.as_slice.ensures ∙ ap (λ (x : List (Conjunct ℕ)). marked m x c.as_slice-3.result.now) c.as_slice-2.ensures
    ∙ ap (marked m r.reach.conjuncts) c.as_slice-3.ensures
    in
    subst (λ (l : List (Conjunct ℕ)). AreValued c.args.table.now c.args.depth (dnf_part c.args.table.now c.args.depth c.args.part.now) l) (sym e)
    (marked_valued c.args.table.now c.args.depth c.requires.ranked c.args.part.now r.reach r.number k m c.in_ok-marks.ensures.sound c.in_ok-marks.ensures.closed h (dnf_part c.args.table.now c.args.depth c.args.part.now) (k.known.headed r.number c.args.part.now h k.begins at))

pub returns-clause-narrow : goal.returns-clause-narrow
returns-clause-narrow c = reach_narrow c.args.table.now c.args.depth c.args.part.now c.in_ok-reach.field-0.reach c.in_ok-reach.field-0.number c.in_ok-reach.ensures.known
