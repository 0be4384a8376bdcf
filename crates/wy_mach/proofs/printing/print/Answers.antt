use Rattle.std.proofs.Common.{◌≡◌, ◌<◌, ◌≤◌, ℕ, List, length, refl, rules}
use Rattle.wy_lemmas.proofs.Options.{on_ok, if_err}
use Rattle.wy_value.specs.declared.shapes.Shapes.{Shapes}
use Rattle.wy_heap.specs.Nodes.{map_of}
use Rattle.wy_port.specs.Taken.{with_taken}
use Rattle.wy_code.specs.declared.instructions.Instr.TheVariants as instr
use Rattle.wy_code_spec.specs.step.Step.{effect}
use Rattle.wy_mach.proofs.RegisterLemmas.{read_part}
use Rattle.wy_mach.proofs.MoveLemmas.{register_held}
use Rattle.wy_mach.specs.declared.printing.PrintStop.{PrintStop}
use Rattle.wy_mach.specs.Texts.{IsText}
use Rattle.wy_mach.specs.Printed.{Prints, IsPrintStop, IsTextStop}
use Rattle.wy_mach.proofs.PrintLemmas.{print_goes, print_beyond, print_stop}
use Rattle.wy_mach.proofs.printing.print.Goals as goal

pub returns-then-index-registers-clause-stop : goal.returns-then-index-registers-clause-stop
returns-then-index-registers-clause-stop g c shapes =
    let beyond : length c.args.registers.now ≤ c.args.from = search rules in
    (print_beyond c.args.heap.now c.args.registers.now c.args.from beyond, refl)

pub print_place-requires : goal.print_place-requires
print_place-requires g c =
    let ps = c.args.registers.now in
    let p = c.index-registers-index.result in
    let below : c.args.from < length ps = search rules in
    record { held = register_held c.args.heap.now p ps c.args.from (read_part ps c.args.from p p below c.index-registers-index.is) below c.requires.held }

pub returns-clause-value : goal.returns-clause-value
returns-clause-value g c =
    let h = c.args.heap.now in
    let ps = c.args.registers.now in
    let p = c.index-registers-index.result in
    let below : c.args.from < length ps = search rules in
    let before = g.O.Sink.taken c.args.out.now in
    let after = g.O.Sink.taken c.print_place.new.out in
    on_ok c.print_place.result ((bytes : List ℕ) → IsText h p bytes → after ≡ with_taken before bytes) ((shapes : Shapes) → Prints (map_of h) ps before after (effect shapes (instr.Print c.args.from)))
    (λ took shapes. print_goes h ps c.args.from p before after (read_part ps c.args.from p p below c.index-registers-index.is) took) c.print_place.ensures.value

pub returns-clause-stop : goal.returns-clause-stop
returns-clause-stop g c =
    let h = c.args.heap.now in
    let ps = c.args.registers.now in
    let p = c.index-registers-index.result in
    let below : c.args.from < length ps = search rules in
    let before = g.O.Sink.taken c.args.out.now in
    let after = g.O.Sink.taken c.print_place.new.out in
    let failed = g.O.Sink.faults c.args.out.now in
    let fails = g.O.Sink.faults c.print_place.new.out in
    if_err c.print_place.result (IsTextStop h p before after failed fails) (λ (stop : PrintStop). (shapes : Shapes) → IsPrintStop (map_of h) ps before after failed fails (effect shapes (instr.Print c.args.from)) stop)
    (λ stop stops shapes. print_stop h ps c.args.from p before after failed fails stop (read_part ps c.args.from p p below c.index-registers-index.is) stops) c.print_place.ensures.stop
