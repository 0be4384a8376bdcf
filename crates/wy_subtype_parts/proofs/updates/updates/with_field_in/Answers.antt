use Rattle.std.proofs.Common.{◌≡◌, ◌∙◌, ℕ, List, [], ap, subst}
use Rattle.wy_subtype.specs.wy_core.Types.{NormalTy}
use Rattle.wy_subtype.specs.wy_core.CoreSeen.{seen_ty}
use Rattle.wy_subtype.specs.wy_types.declared.conjuncts.Signed.{Signed}
use Rattle.wy_subtype.specs.wy_types.declared.conjuncts.Part.{Part}
use Rattle.wy_subtype.specs.wy_types.Conjuncts.{dnf_part}
use Rattle.wy_subtype.specs.wy_types.Names.{types_of}
use Rattle.wy_subtype.specs.wy_types.Questions.{first_part}
use Rattle.wy_subtype.specs.wy_types.Reach.{IsWide}
use Rattle.wy_subtype.specs.wy_types.Reading.{ty_at, conjuncts_at}
use Rattle.wy_subtype.specs.Valued.{AreThose}
use Rattle.wy_subtype_parts.specs.updates.Updates.{records_of, second_part}
use Rattle.wy_subtype_parts.proofs.updates_lemmas.UpdateLemmas.{is_with, not_wide}
use Rattle.wy_subtype_parts.proofs.updates.updates.with_field_in.Goals as goal

pub returns-clause-value : goal.returns-clause-value
returns-clause-value c =
    let q = c.ask.new.self in
    let e = c.in_ok-ask.ensures in
    let f = c.args.name.now in
    let part : c.as_slice.result.now ≡ first_part q = c.as_slice.ensures ∙ c.in_ok-part.ensures.value in
    let terms : c.as_slice-2.result.now ≡ second_part q = c.as_slice-2.ensures ∙ c.in_ok-terms.ensures.value in
    let those = subst (λ (p : List (Signed ℕ)). AreThose q.table q.depth (dnf_part q.table q.depth p) c.in_ok-found.found) part c.in_ok-found.ensures.those in
    is_with (types_of c.args.names.now) f (seen_ty c.args.ty.now) (seen_ty c.args.value.now) q e.value c.in_ok-found.found those _
    (c.normal_type.ensures.value ∙ ap NormalTy (c.in_ok-made.ensures.value ∙ ap (conjuncts_at (ty_at q.table q.depth)) (c.as_slice-4.ensures ∙ c.in_ok-all.ensures.value
    ∙ ap (λ (ts : List (Signed ℕ)). records_of f ts [] c.as_slice-3.result.now) terms
    ∙ ap (λ (ws : List (List (List ℕ × Part ℕ))). records_of f (second_part q) [] ws) c.as_slice-3.ensures)))

pub returns-clause-narrow : goal.returns-clause-narrow
returns-clause-narrow c =
    let q = c.ask.new.self in
    let part : c.as_slice.result.now ≡ first_part q = c.as_slice.ensures ∙ c.in_ok-part.ensures.value in
    not_wide (types_of c.args.names.now) (seen_ty c.args.ty.now) (seen_ty c.args.value.now) q c.in_ok-ask.ensures.value
    (subst (λ (p : List (Signed ℕ)). IsWide q.table q.depth p → ⊥) part c.in_ok-found.ensures.narrow)
