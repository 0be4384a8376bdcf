use Rattle.std.proofs.Common.{◌≡◌, ◌∙◌, ℕ, List, [], true, inr, ap, subst}
use Rattle.wy_subtype.specs.wy_core.Types.{NormalTy}
use Rattle.wy_subtype.specs.wy_core.CoreSeen.{seen_ty}
use Rattle.wy_subtype.specs.wy_types.declared.conjuncts.Signed.{Signed}
use Rattle.wy_subtype.specs.wy_types.declared.conjuncts.Conjunct.{Conjunct}
use Rattle.wy_subtype.specs.wy_types.declared.question.Question.{Question}
use Rattle.wy_subtype.specs.wy_types.Conjuncts.{dnf_part}
use Rattle.wy_subtype.specs.wy_types.Names.{types_of}
use Rattle.wy_subtype.specs.wy_types.Questions.{first_part}
use Rattle.wy_subtype.specs.wy_types.Reach.{IsWide}
use Rattle.wy_subtype.specs.wy_types.Reading.{ty_at, conjuncts_at}
use Rattle.wy_subtype.specs.Valued.{AreValued}
use Rattle.wy_subtype_parts.specs.Items.{elements, narrow_elements}
use Rattle.wy_subtype.specs.wy_core.declared.types.Ty as rust
use Rattle.wy_subtype.proofs.RefusalLemmas.{exactly_map}
use Rattle.wy_subtype_parts.specs.Items.{IsWideItems}
use Rattle.wy_subtype_parts.proofs.UnionLemmas.{is_union, union_set, wide_union, narrow_union, narrow_items}
use Rattle.wy_subtype_parts.proofs.array_items.item_union.Goals as goal

pub returns-clause-value : goal.returns-clause-value
returns-clause-value c =
    let q = c.ask.new.self in
    let e = c.in_ok-ask.ensures in
    let part : c.as_slice.result.now ≡ first_part q = c.as_slice.ensures ∙ c.in_ok-part.ensures.value in
    let valued = subst (λ (p : List (Signed ℕ)). AreValued q.table q.depth (dnf_part q.table q.depth p) c.in_ok-list.list) part c.in_ok-list.ensures.valued in
    is_union (types_of c.args.names.now) (seen_ty c.args.ty.now) q e.value e.ranked (λ d. e.first d true) e.conjuncts c.in_ok-list.list valued _
    (c.normal_type.ensures.value ∙ ap NormalTy (c.in_ok-made.ensures.value ∙ ap (conjuncts_at (ty_at q.table q.depth)) (c.as_slice-3.ensures ∙ c.in-Ok.ensures.value ∙ ap (elements q.table q.depth []) c.as_slice-2.ensures)))

pub returns-clause-set : goal.returns-clause-set
returns-clause-set c =
    let q = c.ask.new.self in
    let e = c.in_ok-ask.ensures in
    let part : c.as_slice.result.now ≡ first_part q = c.as_slice.ensures ∙ c.in_ok-part.ensures.value in
    let valued = subst (λ (p : List (Signed ℕ)). AreValued q.table q.depth (dnf_part q.table q.depth p) c.in_ok-list.list) part c.in_ok-list.ensures.valued in
    union_set (types_of c.args.names.now) (seen_ty c.args.ty.now) q e.value e.ranked (λ d. e.first d true) e.conjuncts c.in_ok-list.list valued _
    (c.normal_type.ensures.value ∙ ap NormalTy (c.in_ok-made.ensures.value ∙ ap (conjuncts_at (ty_at q.table q.depth)) (c.as_slice-3.ensures ∙ c.in-Ok.ensures.value ∙ ap (elements q.table q.depth []) c.as_slice-2.ensures)))

pub returns-clause-narrow : goal.returns-clause-narrow
returns-clause-narrow c =
    let q = c.ask.new.self in
    let e = c.in_ok-ask.ensures in
    let part : c.as_slice.result.now ≡ first_part q = c.as_slice.ensures ∙ c.in_ok-part.ensures.value in
    let valued = subst (λ (p : List (Signed ℕ)). AreValued q.table q.depth (dnf_part q.table q.depth p) c.in_ok-list.list) part c.in_ok-list.ensures.valued in
    let about = subst (λ (x : Question). IsWide x.table x.depth (first_part x) → ⊥) e.value (subst (λ (p : List (Signed ℕ)). IsWide q.table q.depth p → ⊥) part c.in_ok-list.ensures.narrow) in
    let list : c.in_ok-list.list ≡ c.as_slice-2.result.now = cc in
    narrow_items (types_of c.args.names.now) (seen_ty c.args.ty.now) about
    (narrow_union (types_of c.args.names.now) (seen_ty c.args.ty.now) q e.value e.ranked (λ d. e.first d true) e.conjuncts c.in_ok-list.list valued (ap (narrow_elements q.table q.depth) list ∙ c.in-Ok.ensures.width))

pub returns-in-Err-clause-wide : goal.returns-in-Err-clause-wide
returns-in-Err-clause-wide c =
    let q = c.ask.new.self in
    let e = c.in_ok-ask.ensures in
    let part : c.as_slice.result.now ≡ first_part q = c.as_slice.ensures ∙ c.in_ok-part.ensures.value in
    let valued = subst (λ (p : List (Signed ℕ)). AreValued q.table q.depth (dnf_part q.table q.depth p) c.in_ok-list.list) part c.in_ok-list.ensures.valued in
    let list : c.in_ok-list.list ≡ c.as_slice-2.result.now = cc in
    exactly_map (List (Conjunct ℕ)) rust.Ty c.in-Err.fault (narrow_elements q.table q.depth c.as_slice-2.result.now) (IsWideItems (types_of c.args.names.now) (seen_ty c.args.ty.now))
    (λ w. inr (wide_union (types_of c.args.names.now) (seen_ty c.args.ty.now) q e.value e.ranked (λ d. e.first d true) e.conjuncts c.in_ok-list.list valued (ap (narrow_elements q.table q.depth) list ∙ w))) c.in-Err.ensures.width
