use Rattle.std.proofs.Common.{◌≡◌, ◌+◌, ◌++◌, ◌∷◌, [], length, nat_eq, take, arith}
use Rattle.std.proofs.lemmas.Grind.{common_steps}
use Rattle.std.specs.HashMap.{get}
use Rattle.std.specs.Prelude.{slice_index}
use Rattle.wy_items.proofs.few_lemmas.PlaceLemmas.{note_more}
use Rattle.wy_items.proofs.few.numbers.note_all.Goals as goal

pub loop-i-preserved : goal.loop-i-preserved
loop-i-preserved c = λ t.
    let ns = c.args.numbers.now in
    let i = c.loop-i.i in
    let place : c.in_ok-place.place ≡ length (take i ns) = grind (arith, common_steps) in
    let more : take (i + 1) ns ≡ take i ns ++ slice_index ns i ∷ [] = grind (arith, common_steps) in
    note_more (get nat_eq c.loop-i.places) (get nat_eq c.note_place.new.places) (take i ns) (take (i + 1) ns) (slice_index ns i) c.in_ok-place.place t place c.loop-i.invariant c.in_ok-note_place.ensures more
