use Rattle.std.proofs.Common.{◌≡◌, ◌∙◌, ℕ, List, [], true, false, inr, sym, ap, subst}
use Rattle.wy_subtype.specs.wy_core.Types.{NormalTy}
use Rattle.wy_subtype.specs.wy_core.CoreSeen.{seen_ty}
use Rattle.wy_subtype.specs.wy_types.declared.conjuncts.Part.{Part}
use Rattle.wy_subtype.specs.wy_types.declared.conjuncts.Signed.{Signed}
use Rattle.wy_subtype.specs.wy_types.declared.question.Question.{Question}
use Rattle.wy_subtype.specs.wy_types.Conjuncts.{dnf_part}
use Rattle.wy_subtype.specs.wy_types.Names.{types_of}
use Rattle.wy_subtype.specs.wy_types.Questions.{first_part}
use Rattle.wy_subtype.specs.wy_types.Reach.{IsWide}
use Rattle.wy_subtype.specs.wy_types.Reading.{ty_at, conjuncts_at}
use Rattle.wy_subtype.specs.Valued.{AreThose}
use Rattle.wy_subtype_parts.specs.Fields.{all_have, values_at, narrow_values}
use Rattle.wy_subtype.specs.wy_types.declared.conjuncts.Conjunct.{Conjunct}
use Rattle.wy_subtype.specs.wy_core.declared.types.Ty as rust
use Rattle.std.specs.Prelude.{Option}
use Rattle.wy_subtype.proofs.RefusalLemmas.{exactly_map}
use Rattle.wy_subtype_parts.specs.Fields.{IsWideValues}
use Rattle.wy_subtype_parts.proofs.ValueUnionLemmas.{wide_values, value_union, value_set, value_all, value_lacks, no_union, narrow_none, narrow_some, narrow_both}
use Rattle.wy_subtype_parts.proofs.record_fields.value_union.Goals as goal

pub returns-then-not-all_have-clause-lacks : goal.returns-then-not-all_have-clause-lacks
returns-then-not-all_have-clause-lacks c =
    let q = c.ask.new.self in
    let e = c.in_ok-ask.ensures in
    let f = c.args.name.now in
    let found = c.in_ok-found.found in
    let part : c.as_slice.result.now ≡ first_part q = c.as_slice.ensures ∙ c.in_ok-part.ensures.value in
    let those = subst (λ (p : List (Signed ℕ)). AreThose q.table q.depth (dnf_part q.table q.depth p) found) part c.in_ok-found.ensures.those in
    let lacks : all_have f found.conjuncts ≡ false = ap (all_have f) (sym c.as_slice-2.ensures) ∙ sym c.all_have.ensures.value ∙ c.if-not-all_have.true in
    λ _. value_lacks (types_of c.args.names.now) (seen_ty c.args.ty.now) q e.value e.ranked (λ d. e.first d true) e.conjuncts f found those lacks

pub returns-then-not-all_have-clause-missing : goal.returns-then-not-all_have-clause-missing
returns-then-not-all_have-clause-missing c =
    let q = c.ask.new.self in
    let e = c.in_ok-ask.ensures in
    let f = c.args.name.now in
    let found = c.in_ok-found.found in
    let part : c.as_slice.result.now ≡ first_part q = c.as_slice.ensures ∙ c.in_ok-part.ensures.value in
    let those = subst (λ (p : List (Signed ℕ)). AreThose q.table q.depth (dnf_part q.table q.depth p) found) part c.in_ok-found.ensures.those in
    let lacks : all_have f found.conjuncts ≡ false = ap (all_have f) (sym c.as_slice-2.ensures) ∙ sym c.all_have.ensures.value ∙ c.if-not-all_have.true in
    λ _. no_union (types_of c.args.names.now) (seen_ty c.args.ty.now) q e.value e.ranked (λ d. e.first d true) e.conjuncts f found those lacks

pub returns-then-not-all_have-clause-narrow : goal.returns-then-not-all_have-clause-narrow
returns-then-not-all_have-clause-narrow c =
    let q = c.ask.new.self in
    let e = c.in_ok-ask.ensures in
    let f = c.args.name.now in
    let found = c.in_ok-found.found in
    let part : c.as_slice.result.now ≡ first_part q = c.as_slice.ensures ∙ c.in_ok-part.ensures.value in
    let those = subst (λ (p : List (Signed ℕ)). AreThose q.table q.depth (dnf_part q.table q.depth p) found) part c.in_ok-found.ensures.those in
    let about = subst (λ (x : Question). IsWide x.table x.depth (first_part x) → ⊥) e.value (subst (λ (p : List (Signed ℕ)). IsWide q.table q.depth p → ⊥) part c.in_ok-found.ensures.narrow) in
    let lacks : all_have f found.conjuncts ≡ false = ap (all_have f) (sym c.as_slice-2.ensures) ∙ sym c.all_have.ensures.value ∙ c.if-not-all_have.true in
    narrow_both (types_of c.args.names.now) f (seen_ty c.args.ty.now) about (narrow_none (types_of c.args.names.now) (seen_ty c.args.ty.now) q e.value e.ranked (λ d. e.first d true) e.conjuncts f found those lacks)

pub returns-clause-value : goal.returns-clause-value
returns-clause-value c =
    let q = c.ask.new.self in
    let e = c.in_ok-ask.ensures in
    let f = c.args.name.now in
    let found = c.in_ok-found.found in
    let part : c.as_slice.result.now ≡ first_part q = c.as_slice.ensures ∙ c.in_ok-part.ensures.value in
    let those = subst (λ (p : List (Signed ℕ)). AreThose q.table q.depth (dnf_part q.table q.depth p) found) part c.in_ok-found.ensures.those in
    let has : all_have f found.conjuncts ≡ true = ap (all_have f) (sym c.as_slice-2.ensures) ∙ sym c.all_have.ensures.value ∙ c.if-not-all_have.false in
    value_union (types_of c.args.names.now) (seen_ty c.args.ty.now) q e.value e.ranked (λ d. e.first d true) e.conjuncts f found those has _
    (c.normal_type.ensures.value ∙ ap NormalTy (c.in_ok-made.ensures.value ∙ ap (conjuncts_at (ty_at q.table q.depth)) (c.as_slice-4.ensures ∙ c.in-Ok.ensures.value ∙ ap (values_at q.table q.depth f []) c.as_slice-3.ensures)))

pub returns-clause-set : goal.returns-clause-set
returns-clause-set c =
    let q = c.ask.new.self in
    let e = c.in_ok-ask.ensures in
    let f = c.args.name.now in
    let found = c.in_ok-found.found in
    let part : c.as_slice.result.now ≡ first_part q = c.as_slice.ensures ∙ c.in_ok-part.ensures.value in
    let those = subst (λ (p : List (Signed ℕ)). AreThose q.table q.depth (dnf_part q.table q.depth p) found) part c.in_ok-found.ensures.those in
    let has : all_have f found.conjuncts ≡ true = ap (all_have f) (sym c.as_slice-2.ensures) ∙ sym c.all_have.ensures.value ∙ c.if-not-all_have.false in
    value_set (types_of c.args.names.now) (seen_ty c.args.ty.now) q e.value e.ranked (λ d. e.first d true) e.conjuncts f found those has _
    (c.normal_type.ensures.value ∙ ap NormalTy (c.in_ok-made.ensures.value ∙ ap (conjuncts_at (ty_at q.table q.depth)) (c.as_slice-4.ensures ∙ c.in-Ok.ensures.value ∙ ap (values_at q.table q.depth f []) c.as_slice-3.ensures)))

pub returns-clause-all : goal.returns-clause-all
returns-clause-all c =
    let q = c.ask.new.self in
    let e = c.in_ok-ask.ensures in
    let f = c.args.name.now in
    let found = c.in_ok-found.found in
    let part : c.as_slice.result.now ≡ first_part q = c.as_slice.ensures ∙ c.in_ok-part.ensures.value in
    let those = subst (λ (p : List (Signed ℕ)). AreThose q.table q.depth (dnf_part q.table q.depth p) found) part c.in_ok-found.ensures.those in
    let has : all_have f found.conjuncts ≡ true = ap (all_have f) (sym c.as_slice-2.ensures) ∙ sym c.all_have.ensures.value ∙ c.if-not-all_have.false in
    value_all (types_of c.args.names.now) (seen_ty c.args.ty.now) q e.value e.ranked (λ d. e.first d true) e.conjuncts f found those has

pub returns-clause-narrow : goal.returns-clause-narrow
returns-clause-narrow c =
    let q = c.ask.new.self in
    let e = c.in_ok-ask.ensures in
    let f = c.args.name.now in
    let found = c.in_ok-found.found in
    let part : c.as_slice.result.now ≡ first_part q = c.as_slice.ensures ∙ c.in_ok-part.ensures.value in
    let those = subst (λ (p : List (Signed ℕ)). AreThose q.table q.depth (dnf_part q.table q.depth p) found) part c.in_ok-found.ensures.those in
    let about = subst (λ (x : Question). IsWide x.table x.depth (first_part x) → ⊥) e.value (subst (λ (p : List (Signed ℕ)). IsWide q.table q.depth p → ⊥) part c.in_ok-found.ensures.narrow) in
    let has : all_have f found.conjuncts ≡ true = ap (all_have f) (sym c.as_slice-2.ensures) ∙ sym c.all_have.ensures.value ∙ c.if-not-all_have.false in
    let width = ap (narrow_values q.table q.depth f) (sym c.as_slice-3.ensures) ∙ c.in-Ok.ensures.width in
    narrow_both (types_of c.args.names.now) f (seen_ty c.args.ty.now) about (narrow_some (types_of c.args.names.now) (seen_ty c.args.ty.now) q e.value e.ranked (λ d. e.first d true) e.conjuncts f found those width)

pub returns-in-Err-clause-wide : goal.returns-in-Err-clause-wide
returns-in-Err-clause-wide c =
    let q = c.ask.new.self in
    let e = c.in_ok-ask.ensures in
    let f = c.args.name.now in
    let found = c.in_ok-found.found in
    let part : c.as_slice.result.now ≡ first_part q = c.as_slice.ensures ∙ c.in_ok-part.ensures.value in
    let those = subst (λ (p : List (Signed ℕ)). AreThose q.table q.depth (dnf_part q.table q.depth p) found) part c.in_ok-found.ensures.those in
    let has : all_have f found.conjuncts ≡ true = ap (all_have f) (sym c.as_slice-2.ensures) ∙ sym c.all_have.ensures.value ∙ c.if-not-all_have.false in
    exactly_map (List (Conjunct ℕ)) (Option rust.Ty) c.in-Err.fault (narrow_values q.table q.depth f c.as_slice-3.result.now) (IsWideValues (types_of c.args.names.now) f (seen_ty c.args.ty.now))
    (λ w. inr (wide_values (types_of c.args.names.now) (seen_ty c.args.ty.now) q e.value e.ranked (λ d. e.first d true) e.conjuncts f found those has (ap (narrow_values q.table q.depth f) (sym c.as_slice-3.ensures) ∙ w))) c.in-Err.ensures.width
