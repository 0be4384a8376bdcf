use Rattle.std.proofs.Common.{◌∙◌, ◌++◌, [], ◌∷◌, get_or, ap, rules, FitsSigned}
use Rattle.std.specs.Int.{w128}
use Rattle.std.proofs.lemmas.Int.{to_z-of_z}
use Rattle.std.specs.Prelude.{pos, ℤ}
use Rattle.wy_cong.specs.wy_search_spec.Bounds.{takings}
use Rattle.wy_search_bounds.specs.Seen.{seen_takings}
use Rattle.wy_search_bounds.proofs.TakingLemmas.{takings_next}
use Rattle.wy_search_bounds.proofs.removal.takings_by.Goals as goal

pub loop-part-preserved : goal.loop-part-preserved
loop-part-preserved c =
    let p = get_or c.args.parts.now c.loop-part.part-index (pos 0, 0) in
    let fits : FitsSigned w128 p.0 = search rules in
    let old = seen_takings c.loop-part.made.items in
    takings_next c.args.labels.now c.args.parts.now c.loop-part.part-index (pos 0, 0) old (seen_takings c.push_taking.new.made.items) _ c.loop-part-test.true
    (c.in_ok-push_taking.ensures ∙ ap (λ (z : ℤ). old ++ takings c.args.labels.now ((z, p.1) ∷ [])) (to_z-of_z w128 p.0 fits)) c.loop-part.invariant
