use Rattle.std.proofs.Common.{◌≡◌, ◌≢◌, ℕ, List, length, Option, refl, sym, ◌∙◌, ap, subst, arith, rules, ◌++◌, ◌-◌}
use Rattle.std.proofs.lemmas.List.{with_items_is}
use Rattle.std.specs.Vec.{with_items}
use Rattle.wy_heap.specs.declared.part.Part.{Part}
use Rattle.wy_code.specs.declared.instructions.Instr.TheVariants as instr
use Rattle.wy_mach.specs.Taking.{AreWithin, taken, emptied, nulls}
use Rattle.wy_mach.specs.declared.machine.Machine.{Machine}
use Rattle.wy_mach.specs.declared.machine.Turn.{Turn}
use Rattle.wy_mach.specs.declared.machine.Turn.TheVariants as turn
use Rattle.wy_mach.specs.Running.{Turned, Enters, next_by}
use Rattle.wy_mach.proofs.CallLemmas.{no_routine, other_count, no_argument, call_steps, taken_places, entered_turned}
use Rattle.wy_mach.specs.SharedTurns.{SharesCall, IsNoEnd}
use Rattle.wy_mach.proofs.TurnLemmas.{if_ok}
use Rattle.wy_mach.proofs.SharedTurnLemmas.{on_both, shares_call, went_no_end}
use Rattle.wy_mach.specs.Pacing.{turn_of}
use Rattle.wy_mach.proofs.machine.Machine.call.Goals as goal

pub returns-in_default-clause-turned : goal.returns-in_default-clause-turned
returns-in_default-clause-turned c before failed =
    (no_routine c.args.code.now c.args.self.now c.args.to c.args.number c.args.numbers.now (sym c.in_default.ensures.value), refl)

pub returns-then-numbers-routine-clause-turned : goal.returns-then-numbers-routine-clause-turned
returns-then-numbers-routine-clause-turned c before failed =
    let apart : length c.args.numbers.now ≢ c.in-Some.routine.now.params = search rules in
    (other_count c.args.code.now c.args.self.now c.args.to c.args.number c.args.numbers.now c.in-Some.routine.now (sym c.in-Some.ensures.value) apart, refl)

pub returns-in-Err-Stuck-clause-turned : goal.returns-in-Err-Stuck-clause-turned
returns-in-Err-Stuck-clause-turned c before failed =
    let rs = c.args.numbers.now in
    (no_argument c.args.code.now c.args.self.now c.args.to c.args.number rs (λ within. c.in-Err-Stuck.ensures.stuck c.in-Err-Stuck.field-0-is (subst (λ (l : List Part). AreWithin (length l) rs) (sym c.as_mut_slice.ensures.value) within)), refl)

pub enter-requires-clause-stands : goal.enter-requires-clause-stands
enter-requires-clause-stands c =
    let old = c.args.self.now in
    let ps = old.frame.registers.items in
    let rs = c.args.numbers.now in
    let mid : Machine = record old { frame = record old.frame { registers = with_items old.frame.registers c.take_all.new.registers }; callers = c.reserve.new.self } in
    let long : length c.take_all.new.registers ≡ old.frame.registers.len = omega (arith, c.take_all.auto.registers, ap length c.as_mut_slice.ensures.value, old.frame.registers.ok) in
    let kept_items : (with_items old.frame.registers c.take_all.new.registers).items ≡ c.take_all.new.registers = with_items_is old.frame.registers c.take_all.new.registers long in
    taken_places old mid rs c.in-Ok.arguments.items (subst (λ (l : List Part). AreWithin (length l) rs) c.as_mut_slice.ensures.value c.in-Ok.ensures.within) refl
    (kept_items ∙ c.in-Ok.ensures.taken.1 ∙ ap (λ (l : List Part). emptied l rs) c.as_mut_slice.ensures.value) c.reserve.ensures.items
    (c.in-Ok.ensures.taken.0 ∙ ap (λ (l : List Part). taken l rs) c.as_mut_slice.ensures.value) c.requires.stands

pub returns-in-Ok-clause-turned : goal.returns-in-Ok-clause-turned
returns-in-Ok-clause-turned c =
    let old = c.args.self.now in
    let new = c.enter.new.self in
    let code = c.args.code.now in
    let rs = c.args.numbers.now in
    let r = c.in-Some.routine.now in
    let many : length rs ≡ r.params = search rules in
    let mid : Machine = record old { frame = record old.frame { registers = with_items old.frame.registers c.take_all.new.registers }; callers = c.reserve.new.self } in
    let long : length c.take_all.new.registers ≡ old.frame.registers.len = omega (arith, c.take_all.auto.registers, ap length c.as_mut_slice.ensures.value, old.frame.registers.ok) in
    let kept_items : (with_items old.frame.registers c.take_all.new.registers).items ≡ c.take_all.new.registers = with_items_is old.frame.registers c.take_all.new.registers long in
    entered_turned (turn_of c.enter.result) (Enters mid new c.args.number c.args.to r.registers c.in-Ok.arguments.items)
    (λ (t : Turn). (before : Option (List ℕ)) (failed : ℕ) → Turned (next_by code (instr.Call c.args.to c.args.number rs)) old new before before failed failed t)
    (λ enters before failed. call_steps code old mid new before c.args.to c.args.number rs r c.in-Ok.arguments.items (sym c.in-Some.ensures.value) many refl refl refl
    (kept_items ∙ c.in-Ok.ensures.taken.1 ∙ ap (λ (l : List Part). emptied l rs) c.as_mut_slice.ensures.value) c.reserve.ensures.items
    (c.in-Ok.ensures.taken.0 ∙ ap (λ (l : List Part). taken l rs) c.as_mut_slice.ensures.value) enters)
    c.enter.ensures.entered c.enter.ensures.went

pub returns-in-Ok-clause-shares : goal.returns-in-Ok-clause-shares
returns-in-Ok-clause-shares c =
    let old = c.args.self.now in
    let new = c.enter.new.self in
    let code = c.args.code.now in
    let rs = c.args.numbers.now in
    let r = c.in-Some.routine.now in
    let arguments = c.in-Ok.arguments.items in
    let mid : Machine = record old { frame = record old.frame { registers = with_items old.frame.registers c.take_all.new.registers }; callers = c.reserve.new.self } in
    let long : length c.take_all.new.registers ≡ old.frame.registers.len = omega (arith, c.take_all.auto.registers, ap length c.as_mut_slice.ensures.value, old.frame.registers.ok) in
    let kept_items : (with_items old.frame.registers c.take_all.new.registers).items ≡ c.take_all.new.registers = with_items_is old.frame.registers c.take_all.new.registers long in
    on_both (turn_of c.enter.result) (Enters mid new c.args.number c.args.to r.registers arguments) (new.frame.registers.items ≡ arguments ++ nulls (r.registers - length arguments))
    (λ (t : Turn). t ≡ turn.Went → SharesCall code old new c.args.to c.args.number rs)
    (λ t enters registers w. shares_call code old mid new c.args.to c.args.number rs r arguments (sym c.in-Some.ensures.value) refl refl refl
    (kept_items ∙ c.in-Ok.ensures.taken.1 ∙ ap (λ (l : List Part). emptied l rs) c.as_mut_slice.ensures.value) c.reserve.ensures.items
    (c.in-Ok.ensures.taken.0 ∙ ap (λ (l : List Part). taken l rs) c.as_mut_slice.ensures.value) enters registers)
    c.enter.ensures.entered c.enter.ensures.registers

pub returns-in-Ok-clause-no_end : goal.returns-in-Ok-clause-no_end
returns-in-Ok-clause-no_end c = if_ok (turn_of c.enter.result) (λ (t : Turn). t ≡ turn.Went) IsNoEnd went_no_end c.enter.ensures.went
