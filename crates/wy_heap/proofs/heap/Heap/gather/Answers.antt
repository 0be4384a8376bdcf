use Rattle.std.proofs.Common.{◌≡◌, ◌-◌, ◌≤◌, ℕ, length, take, drop, None, refl, ap, ◌∙◌, arith}
use Rattle.std.proofs.lemmas.List.{length-append}
use Rattle.wy_heap.specs.declared.node.Node.{Node}
use Rattle.wy_heap.specs.declared.heap.Heap.{Heap}
use Rattle.wy_heap.specs.Nodes.{form_of}
use Rattle.wy_heap.specs.Changing.{Adds}
use Rattle.wy_heap.proofs.LeadLemmas.{same_slots}
use Rattle.wy_heap.proofs.ImportLemmas.{gathered, gather_carries, ones_added, ones_same, ones_trans}
use Rattle.wy_heap.proofs.heap.Heap.gather.Goals as goal

pub returns-clause-gathers : goal.returns-clause-gathers
returns-clause-gathers c =
    let h = c.args.self.now in
    let before = c.args.done.now.items in
    let many = c.args.many in
    let room : Heap = record h { nodes = c.reserve.new.self } in
    let n : Heap = record h { nodes = c.insert_reserved-key.new.self } in
    let node : Node = record { count = 1; next = None; shape = c.args.shape; parts = c.in_ok-parts.parts } in
    let adds : Adds room n c.insert_reserved-key.result c.args.shape c.in_ok-parts.parts.items = record {
      vacant = c.insert_reserved-key.ensures.was_vacant;
      node = node;
      changes = record { shapes = refl; updates = c.insert_reserved-key.ensures.updates };
      one = refl;
      shape_is = refl;
      parts_are = refl;
    } in
    let same : c.reserve-2.new.self.items ≡ before = c.reserve-2.ensures.items in
    let cut : c.len.result - many ≡ length before - many = omega (arith, ap length same) in
    let rest : c.split_off.new.self.items ≡ take (length before - many) before = c.in_ok-parts.ensures.items ∙ ap (take (c.len.result - many)) same ∙ ap (λ (i : ℕ). take i before) cut in
    let parts : c.in_ok-parts.parts.items ≡ drop (length before - many) before = c.in_ok-parts.ensures.tail ∙ ap (drop (c.len.result - many)) same ∙ ap (λ (i : ℕ). drop i before) cut in
    let enough : many ≤ length before = omega (arith, ap length c.requires.fits.2, length-append c.requires.fits.0 c.requires.fits.1, c.requires.fits.3) in
    gathered h room n c.insert_reserved-key.result c.args.shape before c.push_reserved.new.self.items c.split_off.new.self.items c.in_ok-parts.parts.items many
    (ap (λ s. s.slots) c.reserve.ensures.rest_kept) refl enough rest parts adds c.requires.fits c.push_reserved.ensures.items

pub returns-clause-carries : goal.returns-clause-carries
returns-clause-carries c =
    gather_carries c.args.self.now (record c.args.self.now { nodes = c.insert_reserved-key.new.self }) (form_of c.args.self.now.shapes c.args.shape) c.args.done.now.items c.push_reserved.new.self.items c.args.many
    (returns-clause-gathers c) c.requires.fits

pub returns-clause-ones : goal.returns-clause-ones
returns-clause-ones c =
    let h = c.args.self.now in
    let room : Heap = record h { nodes = c.reserve.new.self } in
    let n : Heap = record h { nodes = c.insert_reserved-key.new.self } in
    let node : Node = record { count = 1; next = None; shape = c.args.shape; parts = c.in_ok-parts.parts } in
    let adds : Adds room n c.insert_reserved-key.result c.args.shape c.in_ok-parts.parts.items = record {
      vacant = c.insert_reserved-key.ensures.was_vacant;
      node = node;
      changes = record { shapes = refl; updates = c.insert_reserved-key.ensures.updates };
      one = refl;
      shape_is = refl;
      parts_are = refl;
    } in
    ones_trans h room n (ones_same h room (same_slots h room (ap (λ s. s.slots) c.reserve.ensures.rest_kept) refl).counts) (ones_added room n c.insert_reserved-key.result c.args.shape c.in_ok-parts.parts.items adds)
