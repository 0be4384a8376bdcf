use Rattle.std.proofs.Common.{◌≡◌, ◌+◌, List, length, refl, sym, subst, ap, arith}
use Rattle.std.proofs.lemmas.List.{with_items_is}
use Rattle.std.specs.Vec.{with_items}
use Rattle.wy_heap.specs.declared.part.Part.{Part}
use Rattle.wy_heap.specs.Nodes.{map_of}
use Rattle.wy_code_spec.specs.step.Step.{effect}
use Rattle.wy_mach.specs.declared.stop.Stop.{Stop}
use Rattle.wy_mach.specs.Showing.{WentOn, HasNone, IsStop, Turns, AreRegisters}
use Rattle.wy_mach.specs.declared.machine.Machine.{Machine}
use Rattle.wy_mach.proofs.StateLemmas.{registers_held, stands_turned}
use Rattle.wy_mach.proofs.TurnLemmas.{plain_steps, no_step}
use Rattle.wy_mach.specs.SharedTurns.{SharesIn, WantsIn}
use Rattle.std.specs.Prelude.{vec_capacity}
use Rattle.wy_mach.proofs.machine.Machine.went.Goals as goal

pub plain-requires-clause-held : goal.plain-requires-clause-held
plain-requires-clause-held c =
    let old = c.args.self.now in
    subst (AreRegisters old.heap) (sym c.as_mut_slice-registers.ensures.value) (registers_held old c.requires.is.stands)

pub returns-in-Ok-clause-stands : goal.returns-in-Ok-clause-stands
returns-in-Ok-clause-stands c =
    let old = c.args.self.now in
    let n = c.plain.new.heap in
    let qs = c.plain.new.registers in
    let new : Machine = record old { heap = n; frame = record old.frame { at = old.frame.at + 1; registers = with_items old.frame.registers qs }; path = c.plain.new.path } in
    let long : length qs ≡ old.frame.registers.len = omega (arith, c.plain.auto.registers, ap length c.as_mut_slice-registers.ensures.value, old.frame.registers.ok) in
    let kept_items : (with_items old.frame.registers qs).items ≡ qs = with_items_is old.frame.registers qs long in
    let turns = subst (λ (l : List Part). Turns old.heap n old.frame.registers.items l) (sym kept_items) (subst (λ (l : List Part). Turns old.heap n l qs) c.as_mut_slice-registers.ensures.value c.plain.ensures.turns) in
    stands_turned old new turns refl c.requires.is.stands

pub returns-in-Ok-clause-turned : goal.returns-in-Ok-clause-turned
returns-in-Ok-clause-turned c before failed =
    let old = c.args.self.now in
    let code = c.args.code.now in
    let i = c.args.instr.now in
    let n = c.plain.new.heap in
    let qs = c.plain.new.registers in
    let new : Machine = record old { heap = n; frame = record old.frame { at = old.frame.at + 1; registers = with_items old.frame.registers qs }; path = c.plain.new.path } in
    let long : length qs ≡ old.frame.registers.len = omega (arith, c.plain.auto.registers, ap length c.as_mut_slice-registers.ensures.value, old.frame.registers.ok) in
    let kept_items : (with_items old.frame.registers qs).items ≡ qs = with_items_is old.frame.registers qs long in
    let turns = subst (λ (l : List Part). Turns old.heap n old.frame.registers.items l) (sym kept_items) (subst (λ (l : List Part). Turns old.heap n l qs) c.as_mut_slice-registers.ensures.value c.plain.ensures.turns) in
    let value = subst (λ (l : List Part). WentOn (map_of old.heap) (map_of n) old.frame.registers.items l (effect code.shapes i)) (sym kept_items) (subst (λ (l : List Part). WentOn (map_of old.heap) (map_of n) l qs (effect code.shapes i)) c.as_mut_slice-registers.ensures.value c.in-Ok.ensures.value) in
    plain_steps code i old new before turns value refl refl refl c.requires.is.stands

pub returns-in-Err-Stuck-clause-stands : goal.returns-in-Err-Stuck-clause-stands
returns-in-Err-Stuck-clause-stands c =
    let old = c.args.self.now in
    let n = c.plain.new.heap in
    let qs = c.plain.new.registers in
    let new : Machine = record old { heap = n; frame = record old.frame { registers = with_items old.frame.registers qs }; path = c.plain.new.path } in
    let long : length qs ≡ old.frame.registers.len = omega (arith, c.plain.auto.registers, ap length c.as_mut_slice-registers.ensures.value, old.frame.registers.ok) in
    let kept_items : (with_items old.frame.registers qs).items ≡ qs = with_items_is old.frame.registers qs long in
    let turns = subst (λ (l : List Part). Turns old.heap n old.frame.registers.items l) (sym kept_items) (subst (λ (l : List Part). Turns old.heap n l qs) c.as_mut_slice-registers.ensures.value c.plain.ensures.turns) in
    stands_turned old new turns refl c.requires.is.stands

pub returns-in-Err-Stuck-clause-turned : goal.returns-in-Err-Stuck-clause-turned
returns-in-Err-Stuck-clause-turned c before failed =
    let old = c.args.self.now in
    let code = c.args.code.now in
    let i = c.args.instr.now in
    let stops = subst (λ (e : Stop). IsStop (map_of old.heap) c.as_mut_slice-registers.result.now (effect code.shapes i) e) c.in-Err-Stuck.field-0-is c.in-Err-Stuck.ensures.stop in
    (no_step code i old (subst (λ (l : List Part). HasNone (map_of old.heap) l (effect code.shapes i)) c.as_mut_slice-registers.ensures.value stops), refl)

pub returns-in-Err-NoMemory-clause-stands : goal.returns-in-Err-NoMemory-clause-stands
returns-in-Err-NoMemory-clause-stands c =
    let old = c.args.self.now in
    let n = c.plain.new.heap in
    let qs = c.plain.new.registers in
    let new : Machine = record old { heap = n; frame = record old.frame { registers = with_items old.frame.registers qs }; path = c.plain.new.path } in
    let long : length qs ≡ old.frame.registers.len = omega (arith, c.plain.auto.registers, ap length c.as_mut_slice-registers.ensures.value, old.frame.registers.ok) in
    let kept_items : (with_items old.frame.registers qs).items ≡ qs = with_items_is old.frame.registers qs long in
    let turns = subst (λ (l : List Part). Turns old.heap n old.frame.registers.items l) (sym kept_items) (subst (λ (l : List Part). Turns old.heap n l qs) c.as_mut_slice-registers.ensures.value c.plain.ensures.turns) in
    stands_turned old new turns refl c.requires.is.stands

pub returns-in-Err-NoMemory-clause-no_memory : goal.returns-in-Err-NoMemory-clause-no_memory
returns-in-Err-NoMemory-clause-no_memory c = c.in-Err-NoMemory.ensures.memory c.in-Err-NoMemory.field-0-is

pub returns-in-Ok-clause-shares : goal.returns-in-Ok-clause-shares
returns-in-Ok-clause-shares c w =
    let old = c.args.self.now in
    let i = c.args.instr.now in
    let n = c.plain.new.heap in
    let qs = c.plain.new.registers in
    let long : length qs ≡ old.frame.registers.len = omega (arith, c.plain.auto.registers, ap length c.as_mut_slice-registers.ensures.value, old.frame.registers.ok) in
    let kept_items : (with_items old.frame.registers qs).items ≡ qs = with_items_is old.frame.registers qs long in
    record {
      shares = subst (λ (l : List Part). SharesIn i old.heap n old.frame.registers.items l) (sym kept_items) (subst (λ (l : List Part). SharesIn i old.heap n l qs) c.as_mut_slice-registers.ensures.value c.in-Ok.ensures.shares);
      routine = refl;
      next = refl;
      callers = refl;
    }

pub returns-in-Err-NoMemory-clause-wants : goal.returns-in-Err-NoMemory-clause-wants
returns-in-Err-NoMemory-clause-wants c =
    let old = c.args.self.now in
    subst (λ (l : List Part). WantsIn c.args.instr.now old.heap l (vec_capacity old.path)) c.as_mut_slice-registers.ensures.value (c.in-Err-NoMemory.ensures.wants c.in-Err-NoMemory.field-0-is)
