use Rattle.std.proofs.Common.{◌≡◌, ◌<◌, ◌≤◌, length, get_or, Option, None, ℤ, refl, subst, ◌∙◌, rules, sym, ap, pos}
use Rattle.std.specs.Int.{w128}
use Rattle.std.proofs.lemmas.Int.{to_z-of_z}
use mir.Val.{SFits}
use Rattle.wy_mach.specs.Operands.{Reads, number_in}
use Rattle.wy_mach.proofs.RegisterLemmas.{read_part}
use Rattle.wy_mach.proofs.MoveLemmas.{register_held, second_stands, second_beside, second_turns, unchanged}
use Rattle.wy_mach.proofs.CountedLemmas.{second_counts}
use Rattle.wy_mach.proofs.ItemLemmas.{item_goes, item_stops, item_no_number, item_beyond}
use Rattle.wy_heap.specs.declared.part.Part.{Part}
use Rattle.wy_heap.specs.declared.part.Part.TheVariants.{Null}
use Rattle.wy_heap.specs.Nodes.{map_of}
use Rattle.wy_heap.specs.Parts.{IsBelow}
use Rattle.wy_heap.specs.Slots.{part_at, item_at}
use Rattle.wy_mach.proofs.ShareLemmas.{puts_in, read_number}
use Rattle.wy_mach.proofs.items.item.Goals as goal

pub returns-in_default-clause-stop : goal.returns-in_default-clause-stop
returns-in_default-clause-stop c shapes =
    let h = c.args.heap.now in
    let ps = c.args.registers.now in
    let none : c.number.result ≡ None = search rules in
    item_no_number h ps c.args.to c.args.from c.args.index (subst (λ (r : Option ℤ). Reads h ps c.args.index number_in r) none c.number.ensures)

pub returns-then-at-registers-clause-stop : goal.returns-then-at-registers-clause-stop
returns-then-at-registers-clause-stop c shapes =
    let beyond : length c.args.registers.now ≤ c.args.from = search rules in
    item_beyond c.args.heap.now c.args.registers.now c.args.to c.args.from c.args.index beyond

pub second_item-requires : goal.second_item-requires
second_item-requires c =
    let ps = c.args.registers.now in
    let p = get_or ps c.args.from c.index-registers-at.result in
    let below : c.args.from < length ps = search rules in
    record { held = register_held c.args.heap.now p ps c.args.from (read_part ps c.args.from p c.index-registers-at.result below refl) below c.requires.held }

pub put-requires : goal.put-requires
put-requires c =
    let ps = c.args.registers.now in
    let p = get_or ps c.args.from c.index-registers-at.result in
    let below : c.args.from < length ps = search rules in
    record { held = second_beside c.args.heap.now c.second_item.new.heap p c.in-Ok.made ps c.args.from (read_part ps c.args.from p c.index-registers-at.result below refl) below c.requires.held c.in-Ok.ensures.acts }

pub returns-in-Ok-clause-turns : goal.returns-in-Ok-clause-turns
returns-in-Ok-clause-turns c =
    let ps = c.args.registers.now in
    let p = get_or ps c.args.from c.index-registers-at.result in
    let below : c.args.from < length ps = search rules in
    second_turns c.args.heap.now c.second_item.new.heap c.put.new.heap p c.in-Ok.made ps c.put.new.registers c.args.from (read_part ps c.args.from p c.index-registers-at.result below refl) below c.in-Ok.ensures.acts c.put.ensures.acts

pub returns-in-Ok-clause-value : goal.returns-in-Ok-clause-value
returns-in-Ok-clause-value c shapes =
    let h = c.args.heap.now in
    let ps = c.args.registers.now in
    let p = get_or ps c.args.from c.index-registers-at.result in
    let below : c.args.from < length ps = search rules in
    let fits : SFits w128 c.in-Some.number = search rules in
    item_goes h c.second_item.new.heap c.put.new.heap ps c.put.new.registers c.args.to c.args.from c.args.index c.in-Some.number p c.in-Ok.made (subst (λ (r : Option ℤ). Reads h ps c.args.index number_in r) c.in-Some.is c.number.ensures) (read_part ps c.args.from p c.index-registers-at.result below refl) below c.requires.held c.in-Ok.ensures.acts (λ i d e. c.in-Ok.ensures.value i d (to_z-of_z w128 c.in-Some.number fits ∙ e)) c.put.ensures.acts c.put.ensures.registers

pub returns-in-Err-clause-turns : goal.returns-in-Err-clause-turns
returns-in-Err-clause-turns c = unchanged c.args.heap.now c.second_item.new.heap c.args.registers.now c.in-Err.ensures.no_memory c.second_item.ensures.kept

pub returns-in-Err-clause-stop : goal.returns-in-Err-clause-stop
returns-in-Err-clause-stop c shapes =
    let h = c.args.heap.now in
    let ps = c.args.registers.now in
    let p = get_or ps c.args.from c.index-registers-at.result in
    let below : c.args.from < length ps = search rules in
    let fits : SFits w128 c.in-Some.number = search rules in
    item_stops h ps c.args.to c.args.from c.args.index c.in-Some.number p c.in-Err.stop (subst (λ (r : Option ℤ). Reads h ps c.args.index number_in r) c.in-Some.is c.number.ensures) (read_part ps c.args.from p c.index-registers-at.result below refl) (λ stuck i e. c.in-Err.ensures.stop stuck i (to_z-of_z w128 c.in-Some.number fits ∙ e))

pub returns-in-Ok-clause-shares : goal.returns-in-Ok-clause-shares
returns-in-Ok-clause-shares c s i shows is under =
    let h = c.args.heap.now in
    let ps = c.args.registers.now in
    let p = get_or ps c.args.from c.index-registers-at.result in
    let below : c.args.from < length ps = search rules in
    let here = read_part ps c.args.from p c.index-registers-at.result below refl in
    let fits : SFits w128 c.in-Some.number = search rules in
    let reads = subst (λ (r : Option ℤ). Reads h ps c.args.index number_in r) c.in-Some.is c.number.ensures in
    let told = c.in-Ok.ensures.below i (to_z-of_z w128 c.in-Some.number fits ∙ read_number h ps s c.args.index c.in-Some.number (pos i) reads shows is)
    (subst (λ (q : Part). IsBelow h h.cap (part_at (map_of h) q (item_at i))) (sym here) under) in
    puts_in h c.second_item.new.heap c.put.new.heap ps ps c.put.new.registers c.args.to (part_at (map_of h) (get_or ps c.args.from Null) (item_at i)) c.in-Ok.made told.1 told.2 refl (told.0 ∙ ap (λ (q : Part). part_at (map_of h) q (item_at i)) here) c.put.ensures.registers c.put.ensures.lasts c.put.ensures.copies

pub returns-in-Err-clause-memory : goal.returns-in-Err-clause-memory
returns-in-Err-clause-memory c none s i shows is under =
    let h = c.args.heap.now in
    let ps = c.args.registers.now in
    let p = get_or ps c.args.from c.index-registers-at.result in
    let below : c.args.from < length ps = search rules in
    let here = read_part ps c.args.from p c.index-registers-at.result below refl in
    let fits : SFits w128 c.in-Some.number = search rules in
    let reads = subst (λ (r : Option ℤ). Reads h ps c.args.index number_in r) c.in-Some.is c.number.ensures in
    c.in-Err.ensures.memory none i (to_z-of_z w128 c.in-Some.number fits ∙ read_number h ps s c.args.index c.in-Some.number (pos i) reads shows is)
    (subst (λ (q : Part). IsBelow h h.cap (part_at (map_of h) q (item_at i))) (sym here) under)

pub returns-in-Ok-clause-counts : goal.returns-in-Ok-clause-counts
returns-in-Ok-clause-counts c =
    let h = c.args.heap.now in
    let n = c.second_item.new.heap in
    let ps = c.args.registers.now in
    let held = c.requires.held in
    let p = get_or ps c.args.from c.index-registers-at.result in
    let below : c.args.from < length ps = search rules in
    second_counts h n c.put.new.heap ps c.put.new.registers held.0 c.args.to c.in-Ok.made held.1 (second_stands h n p c.in-Ok.made ps held.0 c.args.from (read_part ps c.args.from p c.index-registers-at.result below refl) below c.in-Ok.ensures.acts held.1)
    c.put.ensures.acts c.put.ensures.registers c.in-Ok.ensures.stays c.in-Ok.ensures.copies c.put.ensures.lasts c.put.ensures.copies
