use Rattle.std.proofs.Common.{◌≡◌, Option, sym, subst}
use Rattle.std.specs.Prelude.{OnErr}
use Rattle.wy_mach.specs.Running.{Turned, MayWantMemory, next_in, next_by}
use Rattle.wy_mach.proofs.TurnLemmas.{has_int, if_ok, on_err, turned_by}
use Rattle.wy_mach.specs.Pacing.{turn_of}
use Rattle.wy_mach.specs.declared.machine.Turn.{Turn}
use Rattle.wy_mach.specs.declared.machine.Turn.TheVariants as turn
use Rattle.wy_heap.specs.Extending.{Extends}
use Rattle.wy_mach.specs.SharedSteps.{TakesMemoryNext, instr_next}
use Rattle.wy_mach.specs.SharedTurns.{SharesBy, EndsSo, EndsBy, WantsBy, TurnsShared, state_of}
use Rattle.wy_mach.proofs.SharedStepLemmas.{takes_memory, longer_room, ok_both, turned_shared}
use Rattle.wy_code.specs.declared.instructions.Instr.{Instr}
use Rattle.wy_mach.proofs.machine.Machine.turn.Goals as goal

pub made-requires-clause-int : goal.made-requires-clause-int
made-requires-clause-int g c = has_int c.args.code.now c.args.self.now c.args.instr.now c.requires.is.ints c.requires.next

pub returns-clause-is : goal.returns-clause-is
returns-clause-is g c =
    let code = c.args.code.now in
    let is = c.requires.is in
    record {
      stands = c.made.ensures.stands;
      table = is.table;
      extends = subst (Extends code.shapes) (sym c.made.ensures.kept.shapes) is.extends;
      ints = is.ints;
      paths = longer_room code c.args.self.now c.made.new.self c.made.ensures.kept.room is.paths;
    }

pub returns-clause-turned : goal.returns-clause-turned
returns-clause-turned g c =
    let old = c.args.self.now in
    let new = c.made.new.self in
    let code = c.args.code.now in
    let i = c.args.instr.now in
    let before = g.O.Sink.taken c.args.out.now in
    let after = g.O.Sink.taken c.made.new.out in
    let failed = g.O.Sink.faults c.args.out.now in
    let fails = g.O.Sink.faults c.made.new.out in
    if_ok (turn_of c.made.result) (Turned (next_by code i) old new before after failed fails) (Turned (next_in code) old new before after failed fails)
    (λ t turned. turned_by code i old new before after failed fails t c.requires.next turned) c.made.ensures.turned

pub returns-clause-shared : goal.returns-clause-shared
returns-clause-shared g c =
    let old = c.args.self.now in
    let new = c.made.new.self in
    let code = c.args.code.now in
    let i = c.args.instr.now in
    ok_both (turn_of c.made.result) (λ (t : Turn). t ≡ turn.Went → SharesBy code i old new) (EndsSo (EndsBy i old)) (TurnsShared code old new)
    (λ t shares ends. turned_shared code i old new t c.requires.next c.requires.is.stands c.made.ensures.stands c.made.ensures.kept shares ends) c.made.ensures.shares c.made.ensures.ends

pub returns-clause-no_memory : goal.returns-clause-no_memory
returns-clause-no_memory g c =
    subst (λ (o : Option Instr). OnErr (turn_of c.made.result) (MayWantMemory o)) (sym c.requires.next) c.made.ensures.no_memory

pub returns-clause-takes_memory : goal.returns-clause-takes_memory
returns-clause-takes_memory g c =
    let old = c.args.self.now in
    let i = c.args.instr.now in
    on_err (turn_of c.made.result) (WantsBy i old) (TakesMemoryNext old.heap.cap (instr_next c.args.code.now (state_of old)) (state_of old))
    (λ wants. subst (λ (o : Option Instr). TakesMemoryNext old.heap.cap o (state_of old)) (sym c.requires.next) (takes_memory c.args.code.now i old c.requires.next c.requires.is wants)) c.made.ensures.wants
