use Rattle.std.proofs.Common.{◌≡◌, ℕ, List, [], Option, sym, subst}
use Rattle.wy_lemmas.proofs.Options.{on_any_err}
use Rattle.wy_mach.specs.Running.{Turned, TurnsBy, MayWantMemory, next_in, instr_of}
use Rattle.wy_mach.proofs.TurnLemmas.{if_ok, on_err, turned_by}
use Rattle.wy_mach.specs.declared.machine.Turn.{Turn}
use Rattle.wy_mach.specs.declared.machine.Turn.TheVariants as turn
use Rattle.wy_heap.specs.Extending.{Extends}
use Rattle.wy_mach.specs.SharedSteps.{TakesMemoryNext, instr_next}
use Rattle.wy_mach.specs.SharedTurns.{SharesReturn, ReturnsLast, EndsSo, TurnsShared, state_of}
use Rattle.wy_mach.proofs.SharedStepLemmas.{takes_memory, longer_room, ok_both, turned_shared}
use Rattle.wy_code.specs.declared.instructions.Instr.{Instr}
use Rattle.wy_code.specs.declared.instructions.Instr.TheVariants as instr
use Rattle.wy_mach.proofs.machine.Machine.returned.Goals as goal

pub returns-clause-is : goal.returns-clause-is
returns-clause-is c =
    let code = c.args.code.now in
    let is = c.requires.is in
    record {
      stands = c.give_back.ensures.stands;
      table = is.table;
      extends = subst (Extends code.shapes) (sym c.give_back.ensures.kept.shapes) is.extends;
      ints = is.ints;
      paths = longer_room code c.args.self.now c.give_back.new.self c.give_back.ensures.kept.room is.paths;
    }

pub returns-clause-turned : goal.returns-clause-turned
returns-clause-turned c =
    let old = c.args.self.now in
    let new = c.give_back.new.self in
    let code = c.args.code.now in
    let i = instr.Return c.args.from in
    if_ok c.give_back.result (TurnsBy i old new) (λ (t : Turn). (before : Option (List ℕ)) (failed : ℕ) → Turned (next_in code) old new before before failed failed t)
    (λ t turned before failed. turned_by code i old new before before failed failed t c.requires.next (turned code before failed)) c.give_back.ensures.turned

pub returns-clause-shared : goal.returns-clause-shared
returns-clause-shared c =
    let old = c.args.self.now in
    let new = c.give_back.new.self in
    let code = c.args.code.now in
    let i = instr.Return c.args.from in
    ok_both c.give_back.result (λ (t : Turn). t ≡ turn.Went → SharesReturn old new c.args.from) (EndsSo (ReturnsLast old c.args.from)) (TurnsShared code old new)
    (λ t shares ends. turned_shared code i old new t c.requires.next c.requires.is.stands c.give_back.ensures.stands c.give_back.ensures.kept shares ends) c.give_back.ensures.shares c.give_back.ensures.ends

pub returns-clause-no_memory : goal.returns-clause-no_memory
returns-clause-no_memory c =
    on_any_err c.give_back.result (MayWantMemory (instr_of c.args.code.now c.args.self.now)) (subst MayWantMemory (sym c.requires.next) tt)

pub returns-clause-takes_memory : goal.returns-clause-takes_memory
returns-clause-takes_memory c =
    let old = c.args.self.now in
    let code = c.args.code.now in
    on_err c.give_back.result (old.callers.items ≡ []) (TakesMemoryNext old.heap.cap (instr_next code (state_of old)) (state_of old))
    (λ wants. subst (λ (o : Option Instr). TakesMemoryNext old.heap.cap o (state_of old)) (sym c.requires.next) (takes_memory code (instr.Return c.args.from) old c.requires.next c.requires.is wants)) c.give_back.ensures.wants
