use Rattle.std.proofs.Common.{◌≡◌, ◌<◌, ◌≤◌, List, [], ◌∷◌, ◌++◌, length, get_or, set, reverse, Option, option_to_list, refl, ◌∙◌, ap, subst, arith, rules}
use Rattle.std.proofs.lemmas.List.{append-nil, with_items_is}
use Rattle.std.specs.Vec.{with_items}
use Rattle.wy_heap.specs.declared.part.Part.{Part}
use Rattle.wy_heap.specs.declared.part.Part.TheVariants.{Null}
use Rattle.wy_heap.specs.Standing.{Stands}
use Rattle.wy_code.specs.declared.instructions.Instr.TheVariants as instr
use Rattle.wy_lemmas.proofs.Options.{on_any_err}
use Rattle.wy_mach.specs.declared.frames.Caller.{Caller}
use Rattle.wy_mach.specs.declared.machine.Machine.{Machine}
use Rattle.wy_mach.specs.States.{places_below}
use Rattle.wy_mach.specs.Running.{TurnsBy, IsEnd}
use Rattle.wy_mach.proofs.TurnLemmas.{if_ok}
use Rattle.wy_mach.proofs.CallLemmas.{no_register, given_places, popped_places, return_steps, end_turns}
use Rattle.wy_mach.specs.declared.machine.Turn.{Turn}
use Rattle.wy_mach.specs.declared.machine.Turn.TheVariants as turn
use Rattle.wy_mach.specs.SharedTurns.{SharesReturn, LeavesNodes, ReturnsLast, EndsSo}
use Rattle.wy_mach.proofs.SharedTurnLemmas.{shares_return, ends_elsewhere, ends_so}
use Rattle.wy_mach.proofs.machine.Machine.give_back.Goals as goal

pub returns-then-from-len-clause-turned : goal.returns-then-from-len-clause-turned
returns-then-from-len-clause-turned c code before failed =
    let old = c.args.self.now in
    let beyond : length old.frame.registers.items ≤ c.args.from = omega (arith, c.len.ensures, old.frame.registers.ok, c.if-from-len.true) in
    (no_register code old c.args.from beyond, refl)

pub resume-requires : goal.resume-requires
resume-requires c =
    let old = c.args.self.now in
    let mid : Machine = record old { frame = record old.frame { registers = with_items old.frame.registers c.take-given.new.registers }; callers = c.pop.new.self } in
    let within : c.args.from < length old.frame.registers.items = omega (arith, c.len.ensures, old.frame.registers.ok, c.if-from-len.false) in
    let is : c.take-given.result ≡ get_or old.frame.registers.items c.args.from Null = c.take-given.ensures.value ∙ ap (λ (l : List Part). get_or l c.args.from Null) c.as_mut_slice.ensures.value in
    let long : length c.take-given.new.registers ≡ old.frame.registers.len = omega (arith, c.take-given.auto.registers, ap length c.as_mut_slice.ensures.value, old.frame.registers.ok) in
    let kept_items : (with_items old.frame.registers c.take-given.new.registers).items ≡ c.take-given.new.registers = with_items_is old.frame.registers c.take-given.new.registers long in
    let left : (with_items old.frame.registers c.take-given.new.registers).items ≡ set old.frame.registers.items c.args.from Null = kept_items ∙ c.take-given.ensures.registers ∙ ap (λ (l : List Part). set l c.args.from Null) c.as_mut_slice.ensures.value in
    let popped : old.callers.items ≡ c.pop.new.self.items ++ c.in-Some.caller ∷ [] = c.pop.ensures.items ∙ ap (λ (r : Option Caller). c.pop.new.self.items ++ option_to_list r) c.in-Some.is in
    record { stands = popped_places old mid c.in-Some.caller c.take-given.result popped (given_places old mid c.args.from c.take-given.result is within refl left c.requires.stands) }

pub end-requires-clause-stands : goal.end-requires-clause-stands
end-requires-clause-stands c =
    let old = c.args.self.now in
    let mid : Machine = record old { frame = record old.frame { registers = with_items old.frame.registers c.take-given.new.registers }; callers = c.pop.new.self } in
    let within : c.args.from < length old.frame.registers.items = omega (arith, c.len.ensures, old.frame.registers.ok, c.if-from-len.false) in
    let is : c.take-given.result ≡ get_or old.frame.registers.items c.args.from Null = c.take-given.ensures.value ∙ ap (λ (l : List Part). get_or l c.args.from Null) c.as_mut_slice.ensures.value in
    let long : length c.take-given.new.registers ≡ old.frame.registers.len = omega (arith, c.take-given.auto.registers, ap length c.as_mut_slice.ensures.value, old.frame.registers.ok) in
    let kept_items : (with_items old.frame.registers c.take-given.new.registers).items ≡ c.take-given.new.registers = with_items_is old.frame.registers c.take-given.new.registers long in
    let left : (with_items old.frame.registers c.take-given.new.registers).items ≡ set old.frame.registers.items c.args.from Null = kept_items ∙ c.take-given.ensures.registers ∙ ap (λ (l : List Part). set l c.args.from Null) c.as_mut_slice.ensures.value in
    let same : old.callers.items ≡ c.pop.new.self.items = c.pop.ensures.items ∙ ap (λ (r : Option Caller). c.pop.new.self.items ++ option_to_list r) c.in-None.is ∙ append-nil c.pop.new.self.items in
    subst (λ (l : List Caller). Stands old.heap (c.take-given.result ∷ (mid.frame.registers.items ++ places_below (reverse l)))) same
    (given_places old mid c.args.from c.take-given.result is within refl left c.requires.stands)

pub returns-in-Some-clause-turned : goal.returns-in-Some-clause-turned
returns-in-Some-clause-turned c code before failed =
    let old = c.args.self.now in
    let mid : Machine = record old { frame = record old.frame { registers = with_items old.frame.registers c.take-given.new.registers }; callers = c.pop.new.self } in
    let is : c.take-given.result ≡ get_or old.frame.registers.items c.args.from Null = c.take-given.ensures.value ∙ ap (λ (l : List Part). get_or l c.args.from Null) c.as_mut_slice.ensures.value in
    let popped : old.callers.items ≡ c.pop.new.self.items ++ c.in-Some.caller ∷ [] = c.pop.ensures.items ∙ ap (λ (r : Option Caller). c.pop.new.self.items ++ option_to_list r) c.in-Some.is in
    return_steps code old mid c.resume.new.self before c.args.from c.in-Some.caller c.take-given.result is refl popped c.resume.ensures.resumed

pub returns-in-None-clause-turned : goal.returns-in-None-clause-turned
returns-in-None-clause-turned c =
    let old = c.args.self.now in
    let mid : Machine = record old { frame = record old.frame { registers = with_items old.frame.registers c.take-given.new.registers }; callers = c.pop.new.self } in
    let is : c.take-given.result ≡ get_or old.frame.registers.items c.args.from Null = c.take-given.ensures.value ∙ ap (λ (l : List Part). get_or l c.args.from Null) c.as_mut_slice.ensures.value in
    let nobody : c.pop.new.self.items ≡ [] = search rules in
    let none : old.callers.items ≡ [] = c.pop.ensures.items ∙ ap (λ (r : Option Caller). c.pop.new.self.items ++ option_to_list r) c.in-None.is ∙ append-nil c.pop.new.self.items ∙ nobody in
    if_ok c.end.result (IsEnd mid c.take-given.result) (TurnsBy (instr.Return c.args.from) old c.end.new.self)
    (λ t ends code before failed. end_turns code old mid before failed c.args.from c.take-given.result c.end.new.self t is refl refl none ends) c.end.ensures.done

pub returns-in-Some-clause-shares : goal.returns-in-Some-clause-shares
returns-in-Some-clause-shares c w =
    let old = c.args.self.now in
    let mid : Machine = record old { frame = record old.frame { registers = with_items old.frame.registers c.take-given.new.registers }; callers = c.pop.new.self } in
    let is : c.take-given.result ≡ get_or old.frame.registers.items c.args.from Null = c.take-given.ensures.value ∙ ap (λ (l : List Part). get_or l c.args.from Null) c.as_mut_slice.ensures.value in
    let popped : old.callers.items ≡ c.pop.new.self.items ++ c.in-Some.caller ∷ [] = c.pop.ensures.items ∙ ap (λ (r : Option Caller). c.pop.new.self.items ++ option_to_list r) c.in-Some.is in
    shares_return old mid c.resume.new.self c.args.from c.in-Some.caller c.take-given.result is refl popped c.resume.ensures.resumed c.resume.ensures.spares

pub returns-in-None-clause-shares : goal.returns-in-None-clause-shares
returns-in-None-clause-shares c =
    let old = c.args.self.now in
    let mid : Machine = record old { frame = record old.frame { registers = with_items old.frame.registers c.take-given.new.registers }; callers = c.pop.new.self } in
    if_ok c.end.result (IsEnd mid c.take-given.result) (λ (t : Turn). t ≡ turn.Went → SharesReturn old c.end.new.self c.args.from)
    (λ t ends w. absurd (ends_elsewhere mid c.take-given.result t ends w)) c.end.ensures.done

pub returns-in-None-clause-wants : goal.returns-in-None-clause-wants
returns-in-None-clause-wants c =
    let old = c.args.self.now in
    let nobody : c.pop.new.self.items ≡ [] = search rules in
    let none : old.callers.items ≡ [] = c.pop.ensures.items ∙ ap (λ (r : Option Caller). c.pop.new.self.items ++ option_to_list r) c.in-None.is ∙ append-nil c.pop.new.self.items ∙ nobody in
    on_any_err c.end.result (old.callers.items ≡ []) none

pub returns-in-None-clause-ends : goal.returns-in-None-clause-ends
returns-in-None-clause-ends c =
    let old = c.args.self.now in
    let given = c.take-given.result in
    let is : given ≡ get_or old.frame.registers.items c.args.from Null = c.take-given.ensures.value ∙ ap (λ (l : List Part). get_or l c.args.from Null) c.as_mut_slice.ensures.value in
    let nobody : c.pop.new.self.items ≡ [] = search rules in
    let none : old.callers.items ≡ [] = c.pop.ensures.items ∙ ap (λ (r : Option Caller). c.pop.new.self.items ++ option_to_list r) c.in-None.is ∙ append-nil c.pop.new.self.items ∙ nobody in
    if_ok c.end.result (EndsSo (LeavesNodes old.heap given)) (EndsSo (ReturnsLast old c.args.from))
    (λ t ends. ends_so t (LeavesNodes old.heap given) (ReturnsLast old c.args.from)
    (λ copies nodes leaves. record { last = none; leaves = subst (λ (p : Part). LeavesNodes old.heap p copies nodes) is leaves }) ends)
    c.end.ensures.leaves
