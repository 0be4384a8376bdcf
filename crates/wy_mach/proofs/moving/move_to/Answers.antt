use Rattle.std.proofs.Common.{◌<◌, ◌≤◌, length, None, rules, refl, get_or, set}
use Rattle.wy_heap.specs.Nodes.{map_of}
use Rattle.wy_sem.specs.Expressions.{put, slot}
use Rattle.wy_code_spec.specs.step.Step.{gives}
use Rattle.wy_mach.proofs.RegisterLemmas.{slot_beyond}
use Rattle.wy_mach.proofs.NumberLemmas.{there_none}
use Rattle.wy_mach.proofs.MoveLemmas.{taken_beside, moved_turns, moved_goes}
use Rattle.wy_heap.specs.declared.part.Part.TheVariants.{Null}
use Rattle.wy_mach.proofs.ShareLemmas.{puts_in}
use Rattle.wy_mach.proofs.moving.move_to.Goals as goal

pub returns-then-from-registers-clause-stuck : goal.returns-then-from-registers-clause-stuck
returns-then-from-registers-clause-stuck c shapes s shows =
    let beyond : length c.args.registers.now ≤ c.args.from = search rules in
    there_none (slot s c.args.from) (λ v. gives (put s c.args.from None) c.args.to v) (slot_beyond (map_of c.args.heap.now) s c.args.registers.now c.args.from shows beyond)

pub put-requires : goal.put-requires
put-requires c =
    let below : c.args.from < length c.args.registers.now = search rules in
    record { held = taken_beside c.args.heap.now c.take-place.result c.args.registers.now c.take-place.new.registers c.args.from c.take-place.ensures.value below c.take-place.ensures.registers c.requires.held }

pub returns-clause-turns : goal.returns-clause-turns
returns-clause-turns c =
    let below : c.args.from < length c.args.registers.now = search rules in
    moved_turns c.args.heap.now c.put.new.heap c.take-place.result c.args.registers.now c.take-place.new.registers c.put.new.registers c.args.from c.take-place.ensures.value below c.take-place.ensures.registers c.put.ensures.acts

pub returns-clause-value : goal.returns-clause-value
returns-clause-value c shapes =
    let below : c.args.from < length c.args.registers.now = search rules in
    moved_goes c.args.heap.now c.put.new.heap c.take-place.result c.args.registers.now c.take-place.new.registers c.put.new.registers c.args.from c.args.to c.take-place.ensures.value below c.take-place.ensures.registers c.put.ensures.registers c.requires.held c.put.ensures.acts

pub returns-clause-shares : goal.returns-clause-shares
returns-clause-shares c =
    let h = c.args.heap.now in
    let ps = c.args.registers.now in
    puts_in h h c.put.new.heap c.take-place.new.registers (set ps c.args.from Null) c.put.new.registers c.args.to (get_or ps c.args.from Null) c.take-place.result refl refl c.take-place.ensures.registers c.take-place.ensures.value c.put.ensures.registers c.put.ensures.lasts c.put.ensures.copies
