use Rattle.std.proofs.Common.{◌<◌, ◌≤◌, length, get_or, refl, rules, subst, sym, ap, ◌∙◌}
use Rattle.wy_heap.specs.Slots.{step_of, part_at}
use Rattle.wy_mach.proofs.RegisterLemmas.{read_part}
use Rattle.wy_mach.proofs.MoveLemmas.{register_held, second_stands, second_beside, second_turns, unchanged}
use Rattle.wy_mach.proofs.CountedLemmas.{second_counts}
use Rattle.wy_mach.proofs.PartLemmas.{gives_part, lacks_beyond, lacks_by}
use Rattle.wy_heap.specs.declared.part.Part.{Part}
use Rattle.wy_heap.specs.declared.part.Part.TheVariants.{Null}
use Rattle.wy_heap.specs.Nodes.{map_of}
use Rattle.wy_heap.specs.Parts.{IsBelow}
use Rattle.wy_mach.proofs.ShareLemmas.{puts_in}
use Rattle.wy_mach.proofs.parts.part.Goals as goal

pub returns-then-index-registers-clause-stop : goal.returns-then-index-registers-clause-stop
returns-then-index-registers-clause-stop c =
    let beyond : length c.args.registers.now ≤ c.args.from = search rules in
    lacks_beyond c.args.heap.now c.args.registers.now c.args.from (step_of c.args.heap.now.shapes c.args.slot) beyond

pub second-requires : goal.second-requires
second-requires c =
    let ps = c.args.registers.now in
    let p = get_or ps c.args.from c.index-registers-index.result in
    let below : c.args.from < length ps = search rules in
    record { held = register_held c.args.heap.now p ps c.args.from (read_part ps c.args.from p c.index-registers-index.result below refl) below c.requires.held }

pub put-requires : goal.put-requires
put-requires c =
    let ps = c.args.registers.now in
    let p = get_or ps c.args.from c.index-registers-index.result in
    let below : c.args.from < length ps = search rules in
    record { held = second_beside c.args.heap.now c.second.new.heap p c.in-Ok.made ps c.args.from (read_part ps c.args.from p c.index-registers-index.result below refl) below c.requires.held c.in-Ok.ensures.acts }

pub returns-in-Ok-clause-turns : goal.returns-in-Ok-clause-turns
returns-in-Ok-clause-turns c =
    let ps = c.args.registers.now in
    let p = get_or ps c.args.from c.index-registers-index.result in
    let below : c.args.from < length ps = search rules in
    second_turns c.args.heap.now c.second.new.heap c.put.new.heap p c.in-Ok.made ps c.put.new.registers c.args.from (read_part ps c.args.from p c.index-registers-index.result below refl) below c.in-Ok.ensures.acts c.put.ensures.acts

pub returns-in-Ok-clause-value : goal.returns-in-Ok-clause-value
returns-in-Ok-clause-value c =
    let ps = c.args.registers.now in
    let p = get_or ps c.args.from c.index-registers-index.result in
    let below : c.args.from < length ps = search rules in
    gives_part c.args.heap.now c.second.new.heap c.put.new.heap ps c.put.new.registers c.args.to c.args.from c.args.slot p c.in-Ok.made (read_part ps c.args.from p c.index-registers-index.result below refl) below c.requires.held c.in-Ok.ensures.there c.in-Ok.ensures.acts c.in-Ok.ensures.value c.put.ensures.acts c.put.ensures.registers

pub returns-in-Err-clause-turns : goal.returns-in-Err-clause-turns
returns-in-Err-clause-turns c = unchanged c.args.heap.now c.second.new.heap c.args.registers.now c.in-Err.ensures.no_memory c.second.ensures.kept

pub returns-in-Err-clause-stop : goal.returns-in-Err-clause-stop
returns-in-Err-clause-stop c =
    let ps = c.args.registers.now in
    let p = get_or ps c.args.from c.index-registers-index.result in
    let below : c.args.from < length ps = search rules in
    lacks_by c.args.heap.now ps c.args.from c.args.slot p c.in-Err.stop (read_part ps c.args.from p c.index-registers-index.result below refl) c.in-Err.ensures.stop

pub returns-in-Ok-clause-shares : goal.returns-in-Ok-clause-shares
returns-in-Ok-clause-shares c under =
    let h = c.args.heap.now in
    let ps = c.args.registers.now in
    let step = step_of h.shapes c.args.slot in
    let p = get_or ps c.args.from c.index-registers-index.result in
    let below : c.args.from < length ps = search rules in
    let here = read_part ps c.args.from p c.index-registers-index.result below refl in
    let told = c.in-Ok.ensures.below (subst (λ (q : Part). IsBelow h h.cap (part_at (map_of h) q step)) (sym here) under) in
    puts_in h c.second.new.heap c.put.new.heap ps ps c.put.new.registers c.args.to (part_at (map_of h) (get_or ps c.args.from Null) step) c.in-Ok.made told.1 told.2 refl (told.0 ∙ ap (λ (q : Part). part_at (map_of h) q step) here) c.put.ensures.registers c.put.ensures.lasts c.put.ensures.copies

pub returns-in-Err-clause-memory : goal.returns-in-Err-clause-memory
returns-in-Err-clause-memory c none under =
    let h = c.args.heap.now in
    let ps = c.args.registers.now in
    let step = step_of h.shapes c.args.slot in
    let p = get_or ps c.args.from c.index-registers-index.result in
    let below : c.args.from < length ps = search rules in
    let here = read_part ps c.args.from p c.index-registers-index.result below refl in
    c.in-Err.ensures.memory none (subst (λ (q : Part). IsBelow h h.cap (part_at (map_of h) q step)) (sym here) under)

pub returns-in-Ok-clause-counts : goal.returns-in-Ok-clause-counts
returns-in-Ok-clause-counts c =
    let h = c.args.heap.now in
    let n = c.second.new.heap in
    let ps = c.args.registers.now in
    let held = c.requires.held in
    let p = get_or ps c.args.from c.index-registers-index.result in
    let below : c.args.from < length ps = search rules in
    second_counts h n c.put.new.heap ps c.put.new.registers held.0 c.args.to c.in-Ok.made held.1 (second_stands h n p c.in-Ok.made ps held.0 c.args.from (read_part ps c.args.from p c.index-registers-index.result below refl) below c.in-Ok.ensures.acts held.1)
    c.put.ensures.acts c.put.ensures.registers c.in-Ok.ensures.stays c.in-Ok.ensures.copies c.put.ensures.lasts c.put.ensures.copies
