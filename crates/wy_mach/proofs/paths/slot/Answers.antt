use Rattle.std.proofs.Common.{◌≡◌, true, false, Option, ℤ, pos, sym, subst, rules}
use Rattle.std.specs.Prelude.{MatchOption, int_le, min}
use Rattle.std.specs.Int.{w128}
use Rattle.std.proofs.lemmas.Int.{to_z-of_z}
use mir.Val.{SFits}
use Rattle.wy_heap.specs.declared.part.Slot as of_heap
use Rattle.wy_heap.specs.declared.part.Slot.TheVariants as heap_slot
use Rattle.wy_code.specs.declared.instructions.Slot as of_code
use Rattle.wy_sem.specs.Operations.{nat_of}
use Rattle.wy_mach.specs.Operands.{Reads, number_in}
use Rattle.wy_mach.specs.Paths.{IsSlotOf, LacksSlot}
use Rattle.wy_mach.proofs.UpdateLemmas.{lacks_number, item_slot_of}
use Rattle.wy_mach.proofs.paths.slot.Goals as goal

pub returns-in-Some : goal.returns-in-Some
returns-in-Some c =
    let h = c.args.heap.now in
    let ps = c.args.registers.now in
    let fits : SFits w128 c.in-Some.index = search rules in
    let reads = subst (λ (r : Option ℤ). Reads h ps c.in-Item.register number_in r) c.in-Some.is c.number.ensures in
    let found = subst (λ (z : ℤ). MatchOption c.item_slot.result (int_le (pos 0) z ≡ false) (λ (x : of_heap.Slot). (int_le (pos 0) z ≡ true) × (x ≡ heap_slot.Item (min (nat_of z) 18446744073709551615)))) (to_z-of_z w128 c.in-Some.index fits) c.item_slot.ensures in
    record {
      value = subst (λ (step : of_code.Slot). MatchOption c.item_slot.result (LacksSlot h ps step) (λ (x : of_heap.Slot). IsSlotOf h ps step x)) (sym c.in-Item.is)
          (item_slot_of h ps c.in-Item.register c.in-Some.index c.item_slot.result reads found);
    }

pub returns-in-None : goal.returns-in-None
returns-in-None c =
    let h = c.args.heap.now in
    let ps = c.args.registers.now in
    record {
      value = subst (LacksSlot h ps) (sym c.in-Item.is)
          (lacks_number h ps c.in-Item.register (subst (λ (r : Option ℤ). Reads h ps c.in-Item.register number_in r) c.in-None.is c.number.ensures));
    }
