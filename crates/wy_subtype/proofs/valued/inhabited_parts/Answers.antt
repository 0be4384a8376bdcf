use Rattle.std.proofs.Common.{◌≡◌, ◌∙◌, ℕ, List, Bool, Some, sym, ap, subst}
use Rattle.std.specs.Prelude.{slice_get}
use Rattle.wy_canon.specs.wy_types.declared.conjuncts.Conjunct.{Conjunct}
use Rattle.wy_canon.specs.wy_types.Conjuncts.{dnf_part}
use Rattle.wy_canon.specs.wy_types.declared.conjuncts.Part.{Part}
use Rattle.wy_subtype.specs.Marks.{part_marks}
use Rattle.wy_subtype.specs.Valued.{AreValued, AreInhabited, all_ways, marked, held_all}
use Rattle.wy_subtype.proofs.NarrowLemmas.{reach_narrow}
use Rattle.wy_subtype.proofs.ValuedLemmas.{marked_valued, all_inhabited, no_head}
use Rattle.wy_subtype.proofs.valued.inhabited_parts.Goals as goal

pub returns-in-None-clause-those : goal.returns-in-None-clause-those
returns-in-None-clause-those c =
    let r = c.in_ok-reach.field-0 in
    absurd (no_head c.args.table.now c.args.depth c.args.part.now r.reach r.number c.in_ok-reach.ensures.known c.in-None.ensures.value)

pub returns-in-None-clause-narrow : goal.returns-in-None-clause-narrow
returns-in-None-clause-narrow c = reach_narrow c.args.table.now c.args.depth c.args.part.now c.in_ok-reach.field-0.reach c.in_ok-reach.field-0.number c.in_ok-reach.ensures.known

pub returns-clause-those : goal.returns-clause-those
returns-clause-those c =
    let T = c.args.table.now in
    let D = c.args.depth in
    let r = c.in_ok-reach.field-0 in
    let k = c.in_ok-reach.ensures.known in
    let m = c.in_ok-marks.marks in
    let h = c.in-Some.numbers.now in
    let at : slice_get r.reach.heads r.number ≡ Some h = sym c.in-Some.ensures.value in
    let all = k.known.headed r.number c.args.part.now h k.begins at in
    let held : c.as_slice-7.result.now ≡ part_marks m r.reach.heads =
    c.as_slice-7.ensures ∙ c.in_ok-held.ensures.value ∙ ap (λ (x : List Bool). part_marks x c.as_slice-2.result.now) c.as_slice.ensures ∙ ap (part_marks m) c.as_slice-2.ensures
    in
    let cs : c.in_ok-conjuncts.conjuncts ≡ marked m r.reach.conjuncts h =
    c.in_ok-conjuncts.ensures.value ∙ ap (λ (x : List Bool). marked x c.as_slice-4.result.now c.as_slice-5.result.now) c.as_slice-3.ensures ∙ ap (λ (x : List (Conjunct ℕ)). marked m x c.as_slice-5.result.now) c.as_slice-4.ensures
    ∙ ap (marked m r.reach.conjuncts) c.as_slice-5.ensures
    in
    let ws : c.in_ok-ways.ways ≡ held_all T D m (part_marks m r.reach.heads) r.reach.conjuncts r.reach.asks h =
    c.in_ok-ways.ensures.value ∙ ap (λ (x : List Bool). held_all T D x c.as_slice-7.result.now r.reach.conjuncts r.reach.asks c.as_slice-8.result.now) c.as_slice-6.ensures
    ∙ ap (λ (x : List Bool). held_all T D m x r.reach.conjuncts r.reach.asks c.as_slice-8.result.now) held
    ∙ ap (held_all T D m (part_marks m r.reach.heads) r.reach.conjuncts r.reach.asks) c.as_slice-8.ensures
    in
    record {
      conjuncts = subst (λ (l : List (Conjunct ℕ)). AreValued T D (dnf_part T D c.args.part.now) l) (sym cs)
          (marked_valued T D c.requires.ranked c.args.part.now r.reach r.number k m c.in_ok-marks.ensures.sound c.in_ok-marks.ensures.closed h (dnf_part T D c.args.part.now) all);
      ways = subst (λ (l : List (Conjunct ℕ)). AreInhabited T D (all_ways T D l) c.in_ok-ways.ways) (sym cs)
          (subst (λ (l : List (List (List ℕ × Part ℕ))). AreInhabited T D (all_ways T D (marked m r.reach.conjuncts h)) l) (sym ws)
          (all_inhabited T D c.requires.ranked c.args.part.now r.reach r.number k m c.in_ok-marks.ensures.sound c.in_ok-marks.ensures.closed h (dnf_part T D c.args.part.now) all));
    }

pub returns-clause-narrow : goal.returns-clause-narrow
returns-clause-narrow c = reach_narrow c.args.table.now c.args.depth c.args.part.now c.in_ok-reach.field-0.reach c.in_ok-reach.field-0.number c.in_ok-reach.ensures.known
