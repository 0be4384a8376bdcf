use Rattle.std.proofs.Common.{◌≡◌, ◌∷◌, [], ◌<◌, ◌≤◌, length, true, false, Option, None, ℤ, subst, ◌∙◌, sym, rules, ℕ, Some, pos, set, ap, arith, length-set}
use Rattle.std.specs.Int.{w128}
use Rattle.std.proofs.lemmas.Int.{to_z-of_z}
use mir.Val.{SFits}
use Rattle.wy_lemmas.proofs.Options.{on_ok}
use Rattle.wy_value.specs.declared.shapes.Shapes.{Shapes}
use Rattle.wy_heap.specs.Nodes.{map_of}
use Rattle.wy_code.specs.declared.instructions.Instr.TheVariants as instr
use Rattle.wy_code_spec.specs.step.Step.{effect}
use Rattle.wy_mach.specs.Showing.{WentOn, Shows}
use Rattle.wy_mach.specs.Operands.{Reads, number_in}
use Rattle.wy_mach.specs.Taking.{GivesMade}
use Rattle.wy_mach.specs.Filling.{is_length, filled}
use Rattle.wy_mach.proofs.FillLemmas.{fill_no_number, fill_no_length, fill_beyond, fill_goes, one_taken, one_turns}
use Rattle.wy_value.specs.Datum.{Whole}
use Rattle.wy_heap.specs.declared.part.Part.TheVariants.{Null}
use Rattle.wy_sem.specs.Expressions.{Store, slot}
use Rattle.wy_mach.specs.Sharing.{PutsFilled, CountsBeside, part_in}
use Rattle.wy_mach.proofs.ShareLemmas.{read_count, puts_filled_as}
use Rattle.wy_mach.proofs.filling.fill.Goals as goal

pub returns-in_default-clause-stop : goal.returns-in_default-clause-stop
returns-in_default-clause-stop c shapes =
    let h = c.args.heap.now in
    let ps = c.args.registers.now in
    let none : c.number.result ≡ None = search rules in
    fill_no_number h ps c.args.to c.args.from c.args.count (subst (λ (r : Option ℤ). Reads h ps c.args.count number_in r) none c.number.ensures)

pub returns-in_default-length_of-clause-stop : goal.returns-in_default-length_of-clause-stop
returns-in_default-length_of-clause-stop c shapes =
    let h = c.args.heap.now in
    let ps = c.args.registers.now in
    let fits : SFits w128 c.in-Some.number = search rules in
    fill_no_length h ps c.args.to c.args.from c.args.count c.in-Some.number (subst (λ (r : Option ℤ). Reads h ps c.args.count number_in r) c.in-Some.is c.number.ensures)
    (subst (λ (z : ℤ). is_length z ≡ false) (to_z-of_z w128 c.in-Some.number fits) c.in_default-length_of.ensures)

pub returns-then-from-registers-clause-stop : goal.returns-then-from-registers-clause-stop
returns-then-from-registers-clause-stop c shapes =
    let h = c.args.heap.now in
    let ps = c.args.registers.now in
    let beyond : length ps ≤ c.args.from = search rules in
    fill_beyond h ps c.args.to c.args.from c.args.count c.in-Some.number (subst (λ (r : Option ℤ). Reads h ps c.args.count number_in r) c.in-Some.is c.number.ensures) beyond

pub fill_of-requires : goal.fill_of-requires
fill_of-requires c =
    let below : c.args.from < length c.args.registers.now = search rules in
    record { held = one_taken c.args.heap.now c.args.registers.now c.take-item.new.registers c.args.from c.take-item.result c.take-item.ensures.value below c.take-item.ensures.registers c.requires.held }

pub returns-clause-turns : goal.returns-clause-turns
returns-clause-turns c =
    let below : c.args.from < length c.args.registers.now = search rules in
    one_turns c.args.heap.now c.fill_of.new.heap c.args.registers.now c.take-item.new.registers c.fill_of.new.registers c.args.from c.take-item.result c.take-item.ensures.value below c.take-item.ensures.registers c.fill_of.ensures.turns

pub returns-clause-value : goal.returns-clause-value
returns-clause-value c =
    let h = c.args.heap.now in
    let n = c.fill_of.new.heap in
    let ps = c.args.registers.now in
    let qs = c.fill_of.new.registers in
    let number = c.in-Some.number in
    let many = c.in-Some-length_of.many in
    let fits : SFits w128 number = search rules in
    let same = to_z-of_z w128 number fits in
    let reads = subst (λ (r : Option ℤ). Reads h ps c.args.count number_in r) c.in-Some.is c.number.ensures in
    let long = subst (λ (z : ℤ). is_length z ≡ true) same c.in-Some-length_of.ensures.0 in
    on_ok c.fill_of.result (GivesMade h n (c.take-item.result ∷ []) c.take-item.new.registers qs c.args.to (filled many))
    ((shapes : Shapes) → WentOn (map_of h) (map_of n) ps qs (effect shapes (instr.Fill c.args.to c.args.from c.args.count)))
    (λ given shapes. fill_goes h n ps c.take-item.new.registers qs c.args.to c.args.from c.args.count many number c.take-item.result reads long (sym same ∙ c.in-Some-length_of.ensures.1) c.take-item.ensures.value c.take-item.ensures.registers given)
    c.fill_of.ensures.value

pub returns-clause-shares : goal.returns-clause-shares
returns-clause-shares c =
    let h = c.args.heap.now in
    let n = c.fill_of.new.heap in
    let ps = c.args.registers.now in
    let qs = c.fill_of.new.registers in
    let number = c.in-Some.number in
    let many = c.in-Some-length_of.many in
    let fits : SFits w128 number = search rules in
    let same = to_z-of_z w128 number fits in
    let reads = subst (λ (r : Option ℤ). Reads h ps c.args.count number_in r) c.in-Some.is c.number.ensures in
    on_ok c.fill_of.result (PutsFilled h n c.take-item.new.registers qs c.args.to many c.take-item.result)
    ((s : Store) (k : ℕ) → Shows (map_of h) s ps → slot s c.args.count ≡ Some (Whole (pos k)) → PutsFilled h n (set ps c.args.from Null) qs c.args.to k (part_in ps c.args.from))
    (λ puts s k shows is.
    puts_filled_as h n c.take-item.new.registers (set ps c.args.from Null) qs c.args.to many k c.take-item.result (part_in ps c.args.from) c.take-item.ensures.registers c.take-item.ensures.value
    (read_count h ps s c.args.count many k number reads (sym same ∙ c.in-Some-length_of.ensures.1) shows is) puts)
    c.fill_of.ensures.shares

pub returns-clause-counts : goal.returns-clause-counts
returns-clause-counts c =
    let h = c.args.heap.now in
    let n = c.fill_of.new.heap in
    let ps = c.args.registers.now in
    let rest = c.take-item.new.registers in
    let long : length rest ≡ length ps = ap length c.take-item.ensures.registers ∙ length-set ps c.args.from Null in
    on_ok c.fill_of.result (CountsBeside 1 h n rest c.args.to) (CountsBeside 1 h n ps c.args.to) (λ counts within. counts (omega (arith, long, within))) c.fill_of.ensures.counts
