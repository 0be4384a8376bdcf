use Rattle.std.proofs.Common.{List, subst}
use Rattle.wy_heap.specs.declared.part.Part.{Part}
use Rattle.wy_heap.specs.Nodes.{map_of}
use Rattle.wy_code.specs.declared.instructions.Instr.TheVariants as instr
use Rattle.wy_code_spec.specs.step.Step.{effect}
use Rattle.wy_mach.specs.declared.printing.PrintStop.{PrintStop}
use Rattle.wy_mach.specs.declared.printing.PrintStop.TheVariants as stop
use Rattle.wy_mach.specs.Printed.{Prints, IsPrintStop}
use Rattle.wy_mach.proofs.TurnLemmas.{print_steps, print_fault, no_step}
use Rattle.wy_mach.proofs.machine.Machine.number_printed.Goals as goal

pub returns-in-Ok-clause-turned : goal.returns-in-Ok-clause-turned
returns-in-Ok-clause-turned g c code =
    let old = c.args.self.now in
    let before = g.O.Sink.taken c.args.out.now in
    let after = g.O.Sink.taken c.print_int.new.out in
    print_steps code (instr.PrintInt c.args.from) old before after
    (subst (λ (ps : List Part). Prints (map_of old.heap) ps before after (effect code.shapes (instr.PrintInt c.args.from))) c.as_slice.ensures.value (c.in-Ok.ensures.value code.shapes))

pub returns-in-Err-Stuck-clause-turned : goal.returns-in-Err-Stuck-clause-turned
returns-in-Err-Stuck-clause-turned g c code =
    let old = c.args.self.now in
    let before = g.O.Sink.taken c.args.out.now in
    let after = g.O.Sink.taken c.print_int.new.out in
    let failed = g.O.Sink.faults c.args.out.now in
    let fails = g.O.Sink.faults c.print_int.new.out in
    let stops = subst (λ (e : PrintStop). IsPrintStop (map_of old.heap) c.as_slice.result.now before after failed fails (effect code.shapes (instr.PrintInt c.args.from)) e) c.in-Err-Stuck.field-0-is (c.in-Err-Stuck.ensures.stop code.shapes) in
    let here = subst (λ (ps : List Part). IsPrintStop (map_of old.heap) ps before after failed fails (effect code.shapes (instr.PrintInt c.args.from)) stop.Stuck) c.as_slice.ensures.value stops in
    (no_step code (instr.PrintInt c.args.from) old here.0, here.1)

pub returns-in-Err-OutFault-clause-turned : goal.returns-in-Err-OutFault-clause-turned
returns-in-Err-OutFault-clause-turned g c code =
    let old = c.args.self.now in
    let before = g.O.Sink.taken c.args.out.now in
    let after = g.O.Sink.taken c.print_int.new.out in
    let failed = g.O.Sink.faults c.args.out.now in
    let fails = g.O.Sink.faults c.print_int.new.out in
    let stops = subst (λ (e : PrintStop). IsPrintStop (map_of old.heap) c.as_slice.result.now before after failed fails (effect code.shapes (instr.PrintInt c.args.from)) e) c.in-Err-OutFault.field-0-is (c.in-Err-OutFault.ensures.stop code.shapes) in
    let here = subst (λ (ps : List Part). IsPrintStop (map_of old.heap) ps before after failed fails (effect code.shapes (instr.PrintInt c.args.from)) stop.OutFault) c.as_slice.ensures.value stops in
    (print_fault code (instr.PrintInt c.args.from) old before after here.0, here.1)
