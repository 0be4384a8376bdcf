use Rattle.std.proofs.Common.{◌≡◌, map, refl, sym, subst, ◌∙◌}
use Rattle.wy_value.specs.Shapes.{IsShapes}
use Rattle.wy_value.specs.declared.shapes.Shapes.{Shapes}
use Rattle.wy_value.specs.Seen.{seen}
use Rattle.wy_heap.specs.Extending.{Extends}
use Rattle.wy_mach.specs.declared.machine.Machine.{Machine}
use Rattle.wy_mach.proofs.StartLemmas.{start_first, stands_first}
use Rattle.wy_mach.proofs.machine.Machine.start.Goals as goal

pub unreachable-requires : goal.unreachable-requires
unreachable-requires c = let none = c.in_default.ensures.value in let some = c.requires.entry.1 in cc

pub new-heap-requires-clause-table : goal.new-heap-requires-clause-table
new-heap-requires-clause-table c = subst IsShapes (sym c.in_ok-shapes.ensures) c.requires.table

pub first_registers-requires-clause-stands : goal.first_registers-requires-clause-stands
first_registers-requires-clause-stands c = c.new-heap.ensures.stands

pub returns-clause-first : goal.returns-clause-first
returns-clause-first c =
    let code = c.args.code.now in
    let k : Machine = record {
      heap = c.first_registers.new.heap;
      frame = record { routine = c.args.entry; at = 0; registers = c.in_ok-registers.registers };
      callers = c.new.result;
      path = c.in_ok-path.path;
      has_result = c.args.has_result;
      alloc = c.args.alloc;
    } in
    let table : c.new-heap.result.shapes ≡ code.shapes = c.new-heap.ensures.value.0 ∙ c.in_ok-shapes.ensures in
    start_first code c.args.entry c.in-Some.routine.now (map seen c.args.args.now) k c.new-heap.result (sym c.in-Some.ensures.value) refl refl c.new.ensures.items c.in_ok-registers.ensures.placed c.new-heap.ensures.stands c.in_ok-registers.ensures.ones
    (stands_first c.first_registers.new.heap k c.in_ok-registers.registers.items refl refl c.new.ensures.items c.in_ok-registers.ensures.stands)
    (subst (λ (t : Shapes). Extends t c.first_registers.new.heap.shapes) table c.in_ok-registers.ensures.extends)
