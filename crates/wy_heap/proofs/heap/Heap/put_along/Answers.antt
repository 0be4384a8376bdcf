use Rattle.std.proofs.Common.{◌≡◌, ◌∷◌, [], sym, subst}
use Rattle.wy_heap.specs.declared.part.Part.{Part}
use Rattle.wy_heap.specs.declared.part.Part.TheVariants.{Key}
use Rattle.wy_heap.specs.Slots.{steps_of}
use Rattle.wy_heap.specs.Changing.{Wrote}
use Rattle.wy_heap.specs.Putting.{Puts, RoomAlong}
use Rattle.wy_heap.proofs.heap.Heap.put_along.Goals as goal

pub returns-then-index-eq-SOLE-clause-wrote : goal.returns-then-index-eq-SOLE-clause-wrote
returns-then-index-eq-SOLE-clause-wrote c =
    let h = c.args.self.now in
    subst (λ (w : Part). Wrote h c.put_here.new.self (w ∷ c.args.part ∷ []) w (steps_of h.shapes c.args.path.now) c.args.part (Key c.in-Key.key)) (sym c.in-Key.is) c.put_here.ensures.wrote

pub returns-then-index-eq-SOLE-clause-room : goal.returns-then-index-eq-SOLE-clause-room
returns-then-index-eq-SOLE-clause-room c room =
    let h = c.args.self.now in
    let path = steps_of h.shapes c.args.path.now in
    subst (λ (w : Part). Puts h c.put_here.new.self w path c.args.part (Key c.in-Key.key)) (sym c.in-Key.is)
    (c.put_here.ensures.room (subst (λ (w : Part). RoomAlong h w path) c.in-Key.is room))
