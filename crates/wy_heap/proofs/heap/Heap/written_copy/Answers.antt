use Rattle.std.proofs.Common.{◌∷◌, arith}
use Rattle.wy_heap.specs.Nodes.{map_of, count_at}
use Rattle.wy_heap.specs.Slots.{steps_of}
use Rattle.wy_heap.proofs.LeadLemmas.{reordered}
use Rattle.wy_heap.proofs.PathLemmas.{copy_wrote, copy_free}
use Rattle.wy_heap.proofs.PutLevelLemmas.{nothing_freed, held_twice, freed_copies, room_many, copy_puts}
use Rattle.wy_heap.proofs.heap.Heap.written_copy.Goals as goal

pub copied-requires-clause-held : goal.copied-requires-clause-held
copied-requires-clause-held c =
    let h = c.args.self.now in
    let held = c.requires.held in
    (c.args.whole ∷ held.0, reordered (count_at h) (map_of h) (c.args.whole ∷ c.args.part ∷ held.0) (c.args.part ∷ c.args.whole ∷ held.0) (λ k. omega arith) held.1)

pub free-requires : goal.free-requires
free-requires c =
    let h = c.args.self.now in
    (c.in-Ok.made ∷ c.requires.held.0, copy_free h c.copied.new.self c.args.whole (steps_of h.shapes c.args.path.now) c.args.part c.in-Ok.made c.in-Ok.ensures.wrote c.requires.held.0 c.requires.held.1)

pub returns-in-Ok-clause-wrote : goal.returns-in-Ok-clause-wrote
returns-in-Ok-clause-wrote c =
    let h = c.args.self.now in
    copy_wrote h c.copied.new.self c.free.new.self c.args.whole (steps_of h.shapes c.args.path.now) c.args.part c.in-Ok.made c.requires.held c.in-Ok.ensures.wrote c.free.ensures.leads c.free.ensures.lasts

pub returns-in-Ok-clause-copies : goal.returns-in-Ok-clause-copies
returns-in-Ok-clause-copies c =
    let h = c.args.self.now in
    let n = c.copied.new.self in
    let held = c.requires.held in
    let all = copy_free h n c.args.whole (steps_of h.shapes c.args.path.now) c.args.part c.in-Ok.made c.in-Ok.ensures.wrote held.0 held.1 in
    let still = nothing_freed n c.free.new.self c.args.whole (c.in-Ok.made ∷ held.0) all
    (λ k is. omega (arith, held_twice h c.args.whole (c.args.part ∷ held.0) held.1 c.requires.many k is, c.in-Ok.ensures.only.more k)) c.free.ensures.lasts c.free.ensures.upheld in
    freed_copies h n c.free.new.self c.in-Ok.ensures.only.copies still c.free.ensures.rest.copies

pub returns-in-Ok-clause-room : goal.returns-in-Ok-clause-room
returns-in-Ok-clause-room c room =
    let h = c.args.self.now in
    let n = c.copied.new.self in
    let held = c.requires.held in
    let all = copy_free h n c.args.whole (steps_of h.shapes c.args.path.now) c.args.part c.in-Ok.made c.in-Ok.ensures.wrote held.0 held.1 in
    let still = nothing_freed n c.free.new.self c.args.whole (c.in-Ok.made ∷ held.0) all
    (λ k is. omega (arith, held_twice h c.args.whole (c.args.part ∷ held.0) held.1 c.requires.many k is, c.in-Ok.ensures.only.more k)) c.free.ensures.lasts c.free.ensures.upheld in
    copy_puts h n c.free.new.self c.args.whole (steps_of h.shapes c.args.path.now) c.args.part c.in-Ok.made c.requires.many c.in-Ok.ensures.only.stays (c.in-Ok.ensures.room (room_many h c.args.whole (steps_of h.shapes c.args.path.now) c.requires.many room)) still c.free.ensures.rest.copies
