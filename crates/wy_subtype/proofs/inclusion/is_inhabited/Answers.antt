use Rattle.std.proofs.Common.{◌≡◌, ◌∙◌, true, List, ℕ, [], subst, ap}
use Rattle.wy_canon.specs.wy_value.Datum.{Datum}
use Rattle.wy_canon.specs.wy_types.declared.conjuncts.Signed.{Signed}
use Rattle.wy_canon.specs.wy_types.Conjuncts.{with_sides}
use Rattle.wy_canon.specs.wy_types.Membership.{member}
use Rattle.wy_canon.specs.wy_types.Shape.{part_in}
use Rattle.wy_canon.specs.wy_types.Asks.{HasValue}
use Rattle.wy_canon.specs.wy_types.Reach.{IsWide}
use Rattle.wy_subtype.proofs.ValueLemmas.{none_inside, some_inside}
use Rattle.wy_subtype.proofs.inclusion.is_inhabited.Goals as goal

pub returns-clause-sound : goal.returns-clause-sound
returns-clause-sound c = λ b.
    let e : c.as_slice.result.now ≡ with_sides c.args.table.now c.args.depth [] true true c.args.term =
    c.as_slice.ensures ∙ c.in_ok-part.ensures.value ∙ ap (λ (p : List (Signed ℕ)). with_sides c.args.table.now c.args.depth p true true c.args.term) c.new.ensures
    in
    some_inside c.args.table.now c.args.depth c.requires.ranked c.args.term (subst (λ (p : List (Signed ℕ)). HasValue c.args.table.now c.args.depth p) e (c.in_ok-found.ensures.sound b))

pub returns-clause-complete : goal.returns-clause-complete
returns-clause-complete c = λ b.
    let e : c.as_slice.result.now ≡ with_sides c.args.table.now c.args.depth [] true true c.args.term =
    c.as_slice.ensures ∙ c.in_ok-part.ensures.value ∙ ap (λ (p : List (Signed ℕ)). with_sides c.args.table.now c.args.depth p true true c.args.term) c.new.ensures
    in
    none_inside c.args.table.now c.args.depth c.requires.ranked c.args.term
    (subst (λ (p : List (Signed ℕ)). (d : Datum) → part_in (member c.args.table.now c.args.depth d) p ≡ true → ⊥) e (c.in_ok-found.ensures.complete b))

pub returns-clause-narrow : goal.returns-clause-narrow
returns-clause-narrow c =
    let e : c.as_slice.result.now ≡ with_sides c.args.table.now c.args.depth [] true true c.args.term =
    c.as_slice.ensures ∙ c.in_ok-part.ensures.value ∙ ap (λ (p : List (Signed ℕ)). with_sides c.args.table.now c.args.depth p true true c.args.term) c.new.ensures
    in
    subst (λ (p : List (Signed ℕ)). IsWide c.args.table.now c.args.depth p → ⊥) e c.in_ok-found.ensures.narrow
