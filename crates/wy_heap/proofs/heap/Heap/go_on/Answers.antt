use Rattle.std.proofs.Common.{◌++◌, ◌∷◌, [], ℕ, length, sym, subst, ap, ◌∙◌, arith}
use Rattle.wy_heap.specs.declared.part.Part.TheVariants.{Key}
use Rattle.wy_heap.specs.Nodes.{map_of, parts_in}
use Rattle.wy_heap.specs.Meaning.{IsMeant}
use Rattle.wy_heap.proofs.SlotLemmas.{means_there, body-node}
use Rattle.wy_heap.proofs.CompareLemmas.{pair_slot, pair_parts_meant}
use Rattle.wy_heap.proofs.ShowLemmas.{end_goes, part_goes}
use Rattle.wy_heap.proofs.heap.Heap.go_on.Goals as goal

pub index-node-requires : goal.index-node-requires
index-node-requires c = means_there c.args.self.now c.requires.meant.0 (Key c.args.key) c.requires.meant.1

pub returns-then-place-len : goal.returns-then-place-len
returns-then-place-len c =
    let n = c.index-node.result.now in
    end_goes c.args.self.now c.args.key c.args.place n c.args.todo.now.items c.args.text.now.items c.push.new.self.items c.index-node.ensures
    (omega (arith, c.if-place-len.true, c.len.ensures, n.parts.ok))
    (c.in_ok-push.ensures.items ∙ ap (λ (b : ℕ). c.args.text.now.items ++ b ∷ []) c.closing_of.ensures)

pub part_in-part-requires : goal.part_in-part-requires
part_in-part-requires c =
    let h = c.args.self.now in
    let n = c.index-node.result.now in
    pair_slot h c.args.key c.args.place c.requires.meant
    (omega (arith, ap length (ap parts_in (body-node h c.args.key n c.index-node.ensures)), c.if-place-len.false, c.len.ensures, n.parts.ok))

pub begin-requires : goal.begin-requires
begin-requires c =
    let h = c.args.self.now in
    let n = c.index-node.result.now in
    record {
      meant = subst (IsMeant (map_of h)) (sym c.part_in-part.ensures)
          (pair_parts_meant h c.args.key c.args.place c.requires.meant
          (omega (arith, ap length (ap parts_in (body-node h c.args.key n c.index-node.ensures)), c.if-place-len.false, c.len.ensures, n.parts.ok)));
    }

pub returns : goal.returns
returns c =
    let h = c.args.self.now in
    let n = c.index-node.result.now in
    part_goes h c.args.key c.args.place c.part_in-part.result c.args.todo.now.items c.push-2.new.self.items c.begin.new.todo.items c.args.text.now.items c.write_lead.new.text.items c.begin.new.text.items
    (omega (arith, ap length (ap parts_in (body-node h c.args.key n c.index-node.ensures)), c.if-place-len.false, c.len.ensures, n.parts.ok))
    c.part_in-part.ensures c.in_ok-write_lead.ensures c.in_ok-push-2.ensures.items c.in_ok-begin.ensures
