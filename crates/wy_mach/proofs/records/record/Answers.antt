use Rattle.std.proofs.Common.{◌≡◌, ◌≢◌, ℕ, List, length, slice_get, Some, sym, ap, arith, rules}
use Rattle.wy_lemmas.proofs.Options.{on_ok}
use Rattle.wy_value.specs.Shapes.{named}
use Rattle.wy_heap.specs.Nodes.{map_of}
use Rattle.wy_code.specs.declared.instructions.Instr.TheVariants as instr
use Rattle.wy_code_spec.specs.step.Step.{effect}
use Rattle.wy_mach.specs.Showing.{WentOn}
use Rattle.wy_mach.specs.Taking.{GivesMade, taken, emptied}
use Rattle.wy_mach.specs.Records.{record_made}
use Rattle.wy_mach.proofs.MakeLemmas.{are_taken, taken_turns}
use Rattle.wy_mach.proofs.RecordLemmas.{length-taken, fields_stuck, record_stops, record_goes}
use Rattle.wy_mach.specs.Sharing.{PutsNew, shape_form}
use Rattle.wy_mach.proofs.ShareLemmas.{puts_new_as}
use Rattle.wy_mach.proofs.records.record.Goals as goal

pub returns-then-len-numbers-clause-stop : goal.returns-then-len-numbers-clause-stop
returns-then-len-numbers-clause-stop c =
    let is : slice_get c.args.shapes.now.lists c.args.shape ≡ Some c.in-Some.list.now = sym c.in-Some.ensures.value in
    let differ : length c.in-Some.list.now ≢ length c.args.numbers.now = search rules in
    fields_stuck c.args.heap.now c.args.registers.now c.args.shapes.now c.args.shape c.in-Some.list.now c.args.numbers.now c.args.to is differ

pub record_of-requires-clause-held : goal.record_of-requires-clause-held
record_of-requires-clause-held c =
    are_taken c.args.heap.now c.args.registers.now c.in-Ok.items.items c.take_all.new.registers c.args.numbers.now c.in-Ok.ensures.within c.in-Ok.ensures.taken.0 c.in-Ok.ensures.taken.1 c.requires.held

pub record_of-requires-clause-shape : goal.record_of-requires-clause-shape
record_of-requires-clause-shape c =
    let is : slice_get c.args.shapes.now.lists c.args.shape ≡ Some c.in-Some.list.now = sym c.in-Some.ensures.value in
    let many : length c.in-Some.list.now ≡ length c.args.numbers.now = search rules in (
      c.in-Some.list.now,
      c.requires.extends.lists c.args.shape c.in-Some.list.now is,
      omega (arith, many, ap length c.in-Ok.ensures.taken.0, length-taken c.args.registers.now c.args.numbers.now),
    )

pub returns-in-Ok-clause-turns : goal.returns-in-Ok-clause-turns
returns-in-Ok-clause-turns c =
    taken_turns c.args.heap.now c.record_of.new.heap c.args.registers.now c.in-Ok.items.items c.take_all.new.registers c.record_of.new.registers c.args.numbers.now c.in-Ok.ensures.within c.in-Ok.ensures.taken.0 c.in-Ok.ensures.taken.1 c.record_of.ensures.turns

pub returns-in-Ok-clause-value : goal.returns-in-Ok-clause-value
returns-in-Ok-clause-value c =
    let h = c.args.heap.now in
    let n = c.record_of.new.heap in
    let ps = c.args.registers.now in
    let qs = c.record_of.new.registers in
    let t = c.args.shapes.now in
    let rs = c.args.numbers.now in
    let list = c.in-Some.list.now in
    let is : slice_get t.lists c.args.shape ≡ Some list = sym c.in-Some.ensures.value in
    let many : length list ≡ length rs = search rules in
    on_ok c.record_of.result
    ((names : List ℕ) → slice_get h.shapes.lists c.args.shape ≡ Some names → GivesMade h n c.in-Ok.items.items c.take_all.new.registers qs c.args.to (record_made (named h.shapes.names names)))
    (WentOn (map_of h) (map_of n) ps qs (effect t (instr.Record c.args.to c.args.shape rs)))
    (λ given. record_goes h n ps c.in-Ok.items.items c.take_all.new.registers qs t c.args.shape list rs c.args.to c.requires.table c.requires.extends is many c.in-Ok.ensures.taken.0 c.in-Ok.ensures.taken.1 (given list (c.requires.extends.lists c.args.shape list is)))
    c.record_of.ensures.value

pub returns-in-Err-clause-stop : goal.returns-in-Err-clause-stop
returns-in-Err-clause-stop c =
    let is : slice_get c.args.shapes.now.lists c.args.shape ≡ Some c.in-Some.list.now = sym c.in-Some.ensures.value in
    record_stops c.args.heap.now c.args.registers.now c.args.shapes.now c.args.shape c.in-Some.list.now c.args.numbers.now c.args.to c.in-Err.stop is c.in-Err.ensures.stuck

pub returns-in-Ok-clause-shares : goal.returns-in-Ok-clause-shares
returns-in-Ok-clause-shares c =
    let h = c.args.heap.now in
    let n = c.record_of.new.heap in
    let ps = c.args.registers.now in
    let rs = c.args.numbers.now in
    let qs = c.record_of.new.registers in
    let form = (shape_form h.shapes c.args.shape) in
    on_ok c.record_of.result (PutsNew h n c.take_all.new.registers qs c.args.to form c.in-Ok.items.items) (PutsNew h n (emptied ps rs) qs c.args.to form (taken ps rs))
    (puts_new_as h n c.take_all.new.registers (emptied ps rs) qs c.args.to form (taken ps rs) c.in-Ok.items.items c.in-Ok.ensures.taken.1 c.in-Ok.ensures.taken.0) c.record_of.ensures.shares
