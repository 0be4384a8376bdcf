use Rattle.std.proofs.Common.{◌≡◌, ◌<◌, ◌≤◌, length, get_or, sym, subst, rules}
use Rattle.wy_heap.specs.declared.part.Part.{Part}
use Rattle.wy_heap.specs.declared.part.Part.TheVariants.{Null}
use Rattle.wy_heap.specs.Nodes.{map_of}
use Rattle.wy_heap.specs.Meaning.{Means}
use Rattle.wy_mach.proofs.RegisterLemmas.{read_part}
use Rattle.wy_mach.proofs.MoveLemmas.{register_held}
use Rattle.wy_mach.proofs.LookLemmas.{length_read, length_beyond}
use Rattle.wy_mach.proofs.looking.count.Goals as goal

pub items-requires : goal.items-requires
items-requires c =
    let ps = c.args.registers.now in
    let p = c.index-registers-index.result in
    let below : c.args.register < length ps = search rules in
    register_held c.args.heap.now p ps c.args.register (read_part ps c.args.register p p below c.index-registers-index.is) below c.requires

pub returns-then-index-registers : goal.returns-then-index-registers
returns-then-index-registers c s shows =
    let h = c.args.heap.now in
    let ps = c.args.registers.now in
    let p = c.index-registers-index.result in
    let below : c.args.register < length ps = search rules in
    let is : p ≡ get_or ps c.args.register Null = read_part ps c.args.register p p below c.index-registers-index.is in
    length_read h ps c.args.register c.items.result below (λ d means. c.items.ensures d (subst (λ (q : Part). Means (map_of h) d q) (sym is) means)) s shows

pub returns-else-index-registers : goal.returns-else-index-registers
returns-else-index-registers c s shows =
    let beyond : length c.args.registers.now ≤ c.args.register = search rules in
    length_beyond c.args.heap.now c.args.registers.now c.args.register beyond s shows
