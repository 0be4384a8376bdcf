use Rattle.std.proofs.Common.{◌≡◌, ◌∙◌, true, List, ℕ, subst}
use Rattle.std.proofs.lemmas.Bool.{not-true, not-false}
use Rattle.wy_canon.specs.wy_value.Datum.{Datum}
use Rattle.wy_canon.specs.wy_types.declared.conjuncts.Signed.{Signed}
use Rattle.wy_canon.specs.wy_types.Membership.{member}
use Rattle.wy_canon.specs.wy_types.Shape.{part_in}
use Rattle.wy_canon.specs.wy_types.Asks.{HasValue}
use Rattle.wy_canon.specs.wy_types.Reach.{IsWide, outside}
use Rattle.wy_subtype.proofs.ValueLemmas.{within_is, outside_is}
use Rattle.wy_subtype.proofs.inclusion.is_within.Goals as goal

pub returns-clause-sound : goal.returns-clause-sound
returns-clause-sound c = λ b.
    let e : c.as_slice.result.now ≡ outside c.args.table.now c.args.depth c.args.a c.args.b = c.as_slice.ensures ∙ c.in_ok-part.ensures.value in
    within_is c.args.table.now c.args.depth c.requires.ranked c.args.a c.args.b
    (subst (λ (p : List (Signed ℕ)). (d : Datum) → part_in (member c.args.table.now c.args.depth d) p ≡ true → ⊥) e (c.in_ok-found.ensures.complete (not-true c.in_ok-found.found b)))

pub returns-clause-complete : goal.returns-clause-complete
returns-clause-complete c = λ b.
    let e : c.as_slice.result.now ≡ outside c.args.table.now c.args.depth c.args.a c.args.b = c.as_slice.ensures ∙ c.in_ok-part.ensures.value in
    outside_is c.args.table.now c.args.depth c.requires.ranked c.args.a c.args.b
    (subst (λ (p : List (Signed ℕ)). HasValue c.args.table.now c.args.depth p) e (c.in_ok-found.ensures.sound (not-false c.in_ok-found.found b)))

pub returns-clause-narrow : goal.returns-clause-narrow
returns-clause-narrow c = subst (λ (p : List (Signed ℕ)). IsWide c.args.table.now c.args.depth p → ⊥) (c.as_slice.ensures ∙ c.in_ok-part.ensures.value) c.in_ok-found.ensures.narrow
