use Rattle.wy_lemmas.proofs.Options.{on_ok}
use Rattle.wy_value.specs.declared.shapes.Shapes.{Shapes}
use Rattle.wy_heap.specs.Nodes.{map_of, list_form}
use Rattle.wy_code.specs.declared.instructions.Instr.TheVariants as instr
use Rattle.wy_code_spec.specs.step.Step.{effect, gives}
use Rattle.wy_mach.specs.Showing.{WentOn}
use Rattle.wy_mach.specs.Taking.{GivesMade, array_made, taken, emptied}
use Rattle.wy_mach.proofs.MakeLemmas.{are_taken, taken_turns, taken_goes, take_stops}
use Rattle.wy_mach.specs.Sharing.{PutsNew}
use Rattle.wy_mach.proofs.ShareLemmas.{puts_new_as}
use Rattle.wy_mach.proofs.making.array.Goals as goal

pub array_of-requires : goal.array_of-requires
array_of-requires c =
    record { held = are_taken c.args.heap.now c.args.registers.now c.in-Ok.items.items c.take_all.new.registers c.args.numbers.now c.in-Ok.ensures.within c.in-Ok.ensures.taken.0 c.in-Ok.ensures.taken.1 c.requires.held }

pub returns-in-Ok-clause-turns : goal.returns-in-Ok-clause-turns
returns-in-Ok-clause-turns c =
    taken_turns c.args.heap.now c.array_of.new.heap c.args.registers.now c.in-Ok.items.items c.take_all.new.registers c.array_of.new.registers c.args.numbers.now c.in-Ok.ensures.within c.in-Ok.ensures.taken.0 c.in-Ok.ensures.taken.1 c.array_of.ensures.turns

pub returns-in-Ok-clause-value : goal.returns-in-Ok-clause-value
returns-in-Ok-clause-value c =
    let h = c.args.heap.now in
    let n = c.array_of.new.heap in
    let ps = c.args.registers.now in
    let qs = c.array_of.new.registers in
    on_ok c.array_of.result (GivesMade h n c.in-Ok.items.items c.take_all.new.registers qs c.args.to array_made)
    ((shapes : Shapes) → WentOn (map_of h) (map_of n) ps qs (effect shapes (instr.Array c.args.to c.args.numbers.now)))
    (λ given shapes. taken_goes h n ps c.in-Ok.items.items c.take_all.new.registers qs c.args.numbers.now c.args.to array_made c.in-Ok.ensures.taken.0 c.in-Ok.ensures.taken.1 given)
    c.array_of.ensures.value

pub returns-in-Err-clause-stop : goal.returns-in-Err-clause-stop
returns-in-Err-clause-stop c shapes =
    take_stops c.args.heap.now c.args.registers.now c.args.numbers.now (λ s vs last. gives last c.args.to (array_made vs)) c.in-Err.stop c.in-Err.ensures.stuck

pub returns-in-Ok-clause-shares : goal.returns-in-Ok-clause-shares
returns-in-Ok-clause-shares c =
    let h = c.args.heap.now in
    let n = c.array_of.new.heap in
    let ps = c.args.registers.now in
    let rs = c.args.numbers.now in
    let qs = c.array_of.new.registers in
    let form = list_form in
    on_ok c.array_of.result (PutsNew h n c.take_all.new.registers qs c.args.to form c.in-Ok.items.items) (PutsNew h n (emptied ps rs) qs c.args.to form (taken ps rs))
    (puts_new_as h n c.take_all.new.registers (emptied ps rs) qs c.args.to form (taken ps rs) c.in-Ok.items.items c.in-Ok.ensures.taken.1 c.in-Ok.ensures.taken.0) c.array_of.ensures.shares
