use Rattle.std.proofs.Common.{◌≡◌, ◌∙◌, ℕ, List, true, ap, subst}
use Rattle.wy_subtype.specs.wy_core.Types.{NormalTy}
use Rattle.wy_subtype.specs.wy_core.CoreSeen.{seen_ty}
use Rattle.wy_subtype.specs.wy_types.declared.conjuncts.Signed.{Signed}
use Rattle.wy_subtype.specs.wy_types.declared.question.Question.{Question}
use Rattle.wy_subtype.specs.wy_types.Conjuncts.{dnf_part}
use Rattle.wy_subtype.specs.wy_types.Names.{types_of}
use Rattle.wy_subtype.specs.wy_types.Questions.{first_part}
use Rattle.wy_subtype.specs.wy_types.Reach.{IsWide}
use Rattle.wy_subtype.specs.wy_types.Reading.{ty_at, conjuncts_at}
use Rattle.wy_subtype.specs.Valued.{AreValued}
use Rattle.wy_subtype_parts.proofs.UnionLemmas.{is_norm, norm_same}
use Rattle.wy_subtype_parts.proofs.norms.norm_in.Goals as goal

pub returns-clause-value : goal.returns-clause-value
returns-clause-value c =
    let q = c.ask.new.self in
    let e = c.in_ok-ask.ensures in
    let part : c.as_slice.result.now ≡ first_part q = c.as_slice.ensures ∙ c.in_ok-part.ensures.value in
    let valued = subst (λ (p : List (Signed ℕ)). AreValued q.table q.depth (dnf_part q.table q.depth p) c.in_ok-list.list) part c.in_ok-list.ensures.valued in
    is_norm (types_of c.args.names.now) (seen_ty c.args.ty.now) q e.value e.ranked (λ d. e.first d true) e.conjuncts c.in_ok-list.list valued _
    (c.normal_type.ensures.value ∙ ap NormalTy (c.in_ok-made.ensures.value ∙ ap (conjuncts_at (ty_at q.table q.depth)) c.as_slice-2.ensures))

pub returns-clause-same : goal.returns-clause-same
returns-clause-same c =
    let q = c.ask.new.self in
    let e = c.in_ok-ask.ensures in
    let part : c.as_slice.result.now ≡ first_part q = c.as_slice.ensures ∙ c.in_ok-part.ensures.value in
    let valued = subst (λ (p : List (Signed ℕ)). AreValued q.table q.depth (dnf_part q.table q.depth p) c.in_ok-list.list) part c.in_ok-list.ensures.valued in
    norm_same (types_of c.args.names.now) (seen_ty c.args.ty.now) q e.value e.ranked (λ d. e.first d true) e.conjuncts c.in_ok-list.list valued _
    (c.normal_type.ensures.value ∙ ap NormalTy (c.in_ok-made.ensures.value ∙ ap (conjuncts_at (ty_at q.table q.depth)) c.as_slice-2.ensures))

pub returns-clause-narrow : goal.returns-clause-narrow
returns-clause-narrow c =
    let q = c.ask.new.self in
    let part : c.as_slice.result.now ≡ first_part q = c.as_slice.ensures ∙ c.in_ok-part.ensures.value in
    subst (λ (x : Question). IsWide x.table x.depth (first_part x) → ⊥) c.in_ok-ask.ensures.value (subst (λ (p : List (Signed ℕ)). IsWide q.table q.depth p → ⊥) part c.in_ok-list.ensures.narrow)
