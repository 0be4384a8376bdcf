use Rattle.std.proofs.Common.{◌≡◌, ◌↔◌, ◌∙◌, Option, Some, None, true, inr, sym, subst}
use Rattle.std.specs.Prelude.{IfSome}
use Rattle.wy_subtype.specs.wy_value.Datum.{Datum}
use Rattle.wy_subtype.specs.wy_core.CoreSeen.{seen_ty}
use Rattle.wy_subtype.specs.wy_core.declared.types.Ty as rust
use Rattle.wy_subtype.specs.wy_types.Names.{Up, types_of}
use Rattle.wy_subtype.specs.wy_types.Questions.{IsWideAbout}
use Rattle.wy_subtype.proofs.RefusalLemmas.{wide_map}
use Rattle.wy_subtype_parts.specs.Fields.{IsUnion, IsValueIn, IsWideField}
use Rattle.wy_subtype_parts.proofs.ValueUnionLemmas.{narrow_field, narrow_missing}
use Rattle.wy_subtype_parts.proofs.record_fields.field_in.Goals as goal

pub returns-in-None-clause-narrow : goal.returns-in-None-clause-narrow
returns-in-None-clause-narrow c =
    let is : c.in_ok-value_union.field-0 ≡ None = cc in
    narrow_missing (types_of c.args.names.now) c.args.name.now (seen_ty c.args.ty.now) (c.in_ok-value_union.ensures.missing is) c.in_ok-value_union.ensures.narrow

pub returns-in-Ok-clause-set : goal.returns-in-Ok-clause-set
returns-in-Ok-clause-set c = λ d.
    let names = types_of c.args.names.now in
    let t = seen_ty c.args.ty.now in
    let is : c.in_ok-value_union.field-0 ≡ Some c.in-Some.union = cc in
    let sets = subst (λ (o : Option rust.Ty). IfSome o (λ (u : rust.Ty). (x : Datum) → (Up names x (seen_ty u) ≡ true) ↔ IsValueIn names c.args.name.now t x)) is c.in_ok-value_union.ensures.set in
    let set = sets d in
    let same = c.in-Ok.ensures.same d in
    ((λ u. set.0 (sym same ∙ u)), (λ o. same ∙ set.1 o))

pub returns-in-Ok-clause-narrow : goal.returns-in-Ok-clause-narrow
returns-in-Ok-clause-narrow c =
    let names = types_of c.args.names.now in
    let t = seen_ty c.args.ty.now in
    let is : c.in_ok-value_union.field-0 ≡ Some c.in-Some.union = cc in
    let made = subst (λ (o : Option rust.Ty). IfSome o (λ (u : rust.Ty). IsUnion names c.args.name.now t (seen_ty u))) is c.in_ok-value_union.ensures.value in
    narrow_field names c.args.name.now t (seen_ty c.in-Some.union) made c.in_ok-value_union.ensures.narrow c.in-Ok.ensures.narrow

pub returns-clause-wide : goal.returns-clause-wide
returns-clause-wide c =
    let names = types_of c.args.names.now in
    let t = seen_ty c.args.ty.now in
    let u = seen_ty c.in-Some.union in
    let is : c.in_ok-value_union.field-0 ≡ Some c.in-Some.union = cc in
    let made = subst (λ (o : Option rust.Ty). IfSome o (λ (x : rust.Ty). IsUnion names c.args.name.now t (seen_ty x))) is c.in_ok-value_union.ensures.value in
    wide_map rust.Ty (Option rust.Ty) c.in-Err.fault (IsWideAbout names u) (IsWideField names c.args.name.now t) (λ w. inr (u, made, w)) c.in-Err.ensures.wide
