use Rattle.std.proofs.Common.{◌≡◌, ◌<◌, ◌++◌, [], ◌∷◌, get_or, length, sym, subst, arith, rules}
use Rattle.std.specs.Prelude.{slice_index_or}
use Rattle.wy_probe.proofs.PickLemmas.{as_many, at_place, one_picked}
use Rattle.wy_probe.proofs.probing.picked.Goals as goal

pub bounds-tuple-place : goal.bounds-tuple-place
bounds-tuple-place c =
    let same = as_many c.args.lists.now c.args.tuple.now c.requires.fit in
    let lt = c.loop-place-test.true in
    omega (arith, same, lt)

pub bounds-list-tuple : goal.bounds-list-tuple
bounds-list-tuple c =
    let ps = c.args.tuple.now in
    let i = c.loop-place.place in
    subst (λ l. slice_index_or ps i 0 < length l) (sym c.as_slice-list.ensures) (at_place c.args.lists.now ps i c.index-lists-place.result c.requires.fit c.loop-place-test.true c.index-lists-place.is)

pub loop-place-preserved : goal.loop-place-preserved
loop-place-preserved c =
    let ps = c.args.tuple.now in
    let i = c.loop-place.place in
    let x = c.index-list-tuple.result in
    let here : x ≡ get_or c.index-lists-place.result (slice_index_or ps i 0) x = subst (λ l. x ≡ get_or l (slice_index_or ps i 0) x) c.as_slice-list.ensures c.index-list-tuple.is in
    let pushed : c.push.new.self.items ≡ c.loop-place.args.items ++ c.in_ok-copy.field-0 ∷ [] = search rules in
    one_picked c.args.lists.now ps i c.index-lists-place.result x c.in_ok-copy.field-0 c.loop-place.args.items c.push.new.self.items c.requires.fit c.loop-place-test.true c.index-lists-place.is here pushed c.in_ok-copy.ensures.value c.loop-place.invariant
