use Rattle.std.proofs.Common.{◌∙◌, sym, subst, List, ℕ}
use Rattle.wy_canon.specs.wy_types.declared.conjuncts.Signed.{Signed}
use Rattle.wy_canon.specs.wy_types.Reach.{IsNeeded}
use Rattle.wy_subtype.proofs.NumberLemmas.{at_turn, each_at}
use Rattle.wy_subtype.proofs.KnownLemmas.{grows_more}
use Rattle.wy_subtype.proofs.reach.add_list.Goals as goal

pub loop-part-preserved : goal.loop-part-preserved
loop-part-preserved c =
    let i = c.in_ok-grown.ensures.known in
    let v = c.loop-part.invariant in
    record {
      known = i.known;
      grows = grows_more c.args.reach c.loop-part.reach c.in_ok-grown.field-0.reach v.grows i.grows;
      at = at_turn c.loop-part.reach.parts c.in_ok-grown.field-0.reach.parts i.grows.parts c.loop-part.numbers c.push.new.self c.args.list.now c.loop-part.part-index c.part-item.result c.in_ok-part.part c.in_ok-grown.field-0.number c.loop-part-test.true c.part-item.is (c.in_ok-part.ensures.value ∙ c.as_slice.ensures) c.in_ok-push.ensures.ok v.at i.at;
    }

pub add_part-requires-clause-needed : goal.add_part-requires-clause-needed
add_part-requires-clause-needed c =
    let h = each_at (IsNeeded c.args.table.now c.args.depth c.args.first.now) c.args.list.now c.loop-part.part-index c.part-item.result c.requires.needed c.loop-part-test.true c.part-item.is in
    subst (λ (q : List (Signed ℕ)). IsNeeded c.args.table.now c.args.depth c.args.first.now q) (sym (c.in_ok-part.ensures.value ∙ c.as_slice.ensures)) h
