use Rattle.std.proofs.Common.{◌≡◌, ◌∙◌, true, inr, sym}
use Rattle.wy_subtype.specs.wy_core.CoreSeen.{seen_ty}
use Rattle.wy_subtype.specs.wy_core.declared.types.Ty as rust
use Rattle.wy_subtype.specs.wy_types.Names.{types_of}
use Rattle.wy_subtype.specs.wy_types.Questions.{IsWideAbout}
use Rattle.wy_subtype.proofs.RefusalLemmas.{wide_map}
use Rattle.wy_subtype_parts.specs.Items.{IsWideElement}
use Rattle.wy_subtype_parts.proofs.UnionLemmas.{narrow_element}
use Rattle.wy_subtype_parts.proofs.array_items.element_in.Goals as goal

pub returns-in-Ok-clause-value : goal.returns-in-Ok-clause-value
returns-in-Ok-clause-value c = (seen_ty c.in_ok-union.union, c.in_ok-union.ensures.value, c.in-Ok.ensures.value)

pub returns-in-Ok-clause-set : goal.returns-in-Ok-clause-set
returns-in-Ok-clause-set c = λ d.
    let set = c.in_ok-union.ensures.set d in
    let same = c.in-Ok.ensures.same d in
    ((λ u. set.0 (sym same ∙ u)), (λ o. same ∙ set.1 o))

pub returns-in-Ok-clause-narrow : goal.returns-in-Ok-clause-narrow
returns-in-Ok-clause-narrow c = narrow_element (types_of c.args.names.now) (seen_ty c.args.ty.now) (seen_ty c.in_ok-union.union) c.in_ok-union.ensures.value c.in_ok-union.ensures.narrow c.in-Ok.ensures.narrow

pub returns-clause-wide : goal.returns-clause-wide
returns-clause-wide c =
    let u = seen_ty c.in_ok-union.union in
    wide_map rust.Ty rust.Ty c.in-Err.fault (IsWideAbout (types_of c.args.names.now) u) (IsWideElement (types_of c.args.names.now) (seen_ty c.args.ty.now)) (λ w. inr (u, c.in_ok-union.ensures.value, w)) c.in-Err.ensures.wide
