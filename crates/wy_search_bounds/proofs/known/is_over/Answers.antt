use Rattle.std.proofs.Common.{◌<◌, ◌≤◌, ℕ, List, get_or, length, rules, subst}
use Rattle.std.specs.Prelude.{ℤ, pos}
use Rattle.wy_search_bounds.proofs.KnownLemmas.{over_more, over_whole}
use Rattle.wy_search_bounds.proofs.known.is_over.Goals as goal

pub loop-part-preserved : goal.loop-part-preserved
loop-part-preserved c =
    let lt : c.loop-part.part-index < length c.args.form.now.parts.items = search rules in
    let one = subst (λ (ps : List (ℤ × ℕ)). (get_or ps c.loop-part.part-index (pos 0, 0)).1 < c.args.floor) c.as_slice-part-items.ensures c.if-floor-part.false in
    over_more c.args.floor c.args.form.now.parts.items c.loop-part.part-index (pos 0, 0) lt one c.loop-part.invariant

pub returns : goal.returns
returns c = λ so.
    let le : length c.args.form.now.parts.items ≤ c.loop-part.part-index = search rules in
    over_whole c.args.floor c.args.form.now.parts.items c.loop-part.part-index le c.loop-part.invariant
