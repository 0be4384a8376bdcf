use Rattle.std.proofs.Common.{◌∷◌, arith}
use Rattle.wy_heap.specs.declared.part.Part.TheVariants.{Key}
use Rattle.wy_heap.specs.Nodes.{form_of}
use Rattle.wy_heap.proofs.WriteLemmas.{joined_builds}
use Rattle.wy_heap.proofs.SettledLemmas.{settled_builds, joined_copies, settled_copies, unsettled}
use Rattle.wy_heap.proofs.heap.Heap.build.Goals as goal

pub join-requires-clause-below : goal.join-requires-clause-below
join-requires-clause-below c k some = omega (arith, c.requires.within k, c.args.parts.ok)

pub returns-then-are_within-clause-builds : goal.returns-then-are_within-clause-builds
returns-then-are_within-clause-builds c =
    let h = c.args.self.now in
    joined_builds h c.join.new.self c.in_ok-made.made (form_of h.shapes c.args.shape) c.args.parts.items c.in_ok-made.ensures.joins c.requires.there c.requires.fits

pub returns-then-are_within-clause-copies : goal.returns-then-are_within-clause-copies
returns-then-are_within-clause-copies c =
    let h = c.args.self.now in
    joined_copies h c.join.new.self c.in_ok-made.made (form_of h.shapes c.args.shape) c.args.parts.items c.in_ok-made.ensures.joins c.join.ensures.rest.copies

pub settle-requires-clause-held : goal.settle-requires-clause-held
settle-requires-clause-held c =
    let h = c.args.self.now in
    let builds = joined_builds h c.join.new.self c.in_ok-made.made (form_of h.shapes c.args.shape) c.args.parts.items c.in_ok-made.ensures.joins c.requires.there c.requires.fits in
    (Key c.in_ok-made.made ∷ c.requires.held.0, builds.counts c.requires.held.0 c.requires.held.1)

pub free-requires : goal.free-requires
free-requires c =
    let h = c.args.self.now in
    let builds = joined_builds h c.join.new.self c.in_ok-made.made (form_of h.shapes c.args.shape) c.args.parts.items c.in_ok-made.ensures.joins c.requires.there c.requires.fits in
    (c.requires.held.0, c.settle.ensures.settles.counts (Key c.in_ok-made.made ∷ c.requires.held.0) (builds.counts c.requires.held.0 c.requires.held.1))

pub returns-in-Ok-clause-builds : goal.returns-in-Ok-clause-builds
returns-in-Ok-clause-builds c =
    let h = c.args.self.now in
    let n = c.join.new.self in
    let builds = joined_builds h n c.in_ok-made.made (form_of h.shapes c.args.shape) c.args.parts.items c.in_ok-made.ensures.joins c.requires.there c.requires.fits in
    settled_builds h n c.settle.new.self (form_of h.shapes c.args.shape) c.args.parts.items c.in_ok-made.made c.requires.fits c.requires.held.0 c.requires.held.1 c.requires.within
    c.join.ensures.rest.cap builds c.settle.ensures.settles c.settle.ensures.spares

pub returns-in-Ok-clause-copies : goal.returns-in-Ok-clause-copies
returns-in-Ok-clause-copies c =
    let h = c.args.self.now in
    let n = c.join.new.self in
    settled_copies h n c.settle.new.self
    (joined_copies h n c.in_ok-made.made (form_of h.shapes c.args.shape) c.args.parts.items c.in_ok-made.ensures.joins c.join.ensures.rest.copies)
    c.in-Ok.ensures.copies

pub returns-in-Err-clause-no_memory : goal.returns-in-Err-clause-no_memory
returns-in-Err-clause-no_memory c =
    let h = c.args.self.now in
    let n = c.join.new.self in
    let builds = joined_builds h n c.in_ok-made.made (form_of h.shapes c.args.shape) c.args.parts.items c.in_ok-made.ensures.joins c.requires.there c.requires.fits in
    unsettled h n c.settle.new.self c.free.new.self (form_of h.shapes c.args.shape) c.args.parts.items c.in_ok-made.made c.requires.held.0 builds c.requires.held.1
    c.settle.ensures.settles c.settle.ensures.spares c.free.ensures.leads c.free.ensures.upheld

pub returns-in-Err-clause-within : goal.returns-in-Err-clause-within
returns-in-Err-clause-within c k =
    let h = c.args.self.now in
    let n = c.join.new.self in
    let builds = joined_builds h n c.in_ok-made.made (form_of h.shapes c.args.shape) c.args.parts.items c.in_ok-made.ensures.joins c.requires.there c.requires.fits in
    let same = unsettled h n c.settle.new.self c.free.new.self (form_of h.shapes c.args.shape) c.args.parts.items c.in_ok-made.made c.requires.held.0 builds c.requires.held.1
    c.settle.ensures.settles c.settle.ensures.spares c.free.ensures.leads c.free.ensures.upheld in
    omega (arith, same.counts k, c.requires.within k, c.free.ensures.rest.cap, c.settle.ensures.kept.0, c.join.ensures.rest.cap)
