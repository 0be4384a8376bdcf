use Rattle.std.proofs.Common.{List, ℕ, refl, ap}
use Rattle.wy_vc_exprs.specs.declared.walk.Walk.{Walk}
use Rattle.wy_vc_exprs.proofs.NumberedLemmas.{at_itself}
use Rattle.wy_vc_body.specs.declared.places.Part.TheVariants as part
use Rattle.wy_vc_body.proofs.PlaceLemmas.{field_step}
use Rattle.wy_vc_body.proofs.places.step_in_record.Goals as goal

pub returns-clause-value : goal.returns-clause-value
returns-clause-value c body vars =
    let a = c.args.walk.now in
    let b : Walk = record a { maker = record a.maker { terms = c.field.new.terms } } in
    field_step body c.args.at c.args.whole c.in_ok-inner.inner c.args.name.now vars a b (part.Field c.in_ok-name.name c.args.whole) c.requires.sound c.requires.within (c.in_ok-inner.ensures.made _ (at_itself c.requires.within)) refl refl refl
    (ap (λ (n : List ℕ). part.Field n c.args.whole) c.in_ok-name.ensures.value)
