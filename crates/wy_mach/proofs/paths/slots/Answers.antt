use Rattle.std.proofs.Common.{◌≡◌, ◌≤◌, ◌<◌, ◌+◌, ◌∷◌, [], ◌++◌, List, length, drop, refl, sym, subst, ap, ◌∙◌, arith, rules, append_assoc}
use Rattle.std.proofs.lemmas.List.{drop_more, drop_all, append-nil}
use Rattle.wy_heap.specs.declared.part.Slot as of_heap
use Rattle.wy_code.specs.declared.instructions.Slot as of_code
use Rattle.wy_mach.specs.Paths.{AreSlotsOf, LacksSlots}
use Rattle.wy_mach.proofs.UpdateLemmas.{slots_more, lacks_more}
use Rattle.wy_mach.proofs.paths.slots.Goals as goal

pub loop-i-init : goal.loop-i-init
loop-i-init c =
    let h = c.args.heap.now in
    let ps = c.args.registers.now in
    let steps = c.args.steps.now in
    let empty : c.reserve.new.self.items ≡ [] = c.reserve.ensures.items ∙ c.clear.ensures.items in
    record {
      more = λ rest are. subst (λ (l : List of_heap.Slot). AreSlotsOf h ps steps (l ++ rest)) (sym empty) are;
      none = λ lacks. lacks;
      room = search rules;
      kept = omega (arith, c.clear.ensures.capacity, c.reserve.ensures.capacity);
    }

pub loop-i-preserved : goal.loop-i-preserved
loop-i-preserved c =
    let h = c.args.heap.now in
    let ps = c.args.registers.now in
    let steps = c.args.steps.now in
    let i = c.loop-i.i in
    let step = c.step_at-step.result in
    let slot = c.in-Some.slot in
    let before = c.loop-i.path.items in
    let below : i < length steps = c.loop-i-test.true in
    let here : drop i steps ≡ step ∷ drop (i + 1) steps = drop_more steps i step below ∙ ap (λ (x : of_code.Slot). x ∷ drop (i + 1) steps) (sym c.step_at-step.ensures) in
    record {
      more = λ rest are.
          subst (AreSlotsOf h ps steps) (sym (ap (λ (l : List of_heap.Slot). l ++ rest) c.push_reserved.ensures.items ∙ append_assoc before (slot ∷ []) rest))
          (slots_more h ps step (drop (i + 1) steps) steps slot before c.in-Some.ensures.value
          (λ r a. c.loop-i.invariant.more r (subst (λ (l : List of_code.Slot). AreSlotsOf h ps l r) (sym here) a)) rest are);
      none = λ lacks. c.loop-i.invariant.none (subst (LacksSlots h ps) (sym here) (lacks_more h ps step (drop (i + 1) steps) lacks));
      room = omega (arith, c.push_reserved.ensures.len, c.push_reserved.ensures.capacity, c.loop-i.invariant.room, below);
      kept = omega (arith, c.push_reserved.ensures.capacity, c.loop-i.invariant.kept);
    }

pub returns-in_default-clause-stop : goal.returns-in_default-clause-stop
returns-in_default-clause-stop c = λ stuck.
    let h = c.args.heap.now in
    let ps = c.args.registers.now in
    let steps = c.args.steps.now in
    let i = c.loop-i.i in
    let step = c.step_at-step.result in
    let below : i < length steps = c.loop-i-test.true in
    let here : drop i steps ≡ step ∷ drop (i + 1) steps = drop_more steps i step below ∙ ap (λ (x : of_code.Slot). x ∷ drop (i + 1) steps) (sym c.step_at-step.ensures) in
    c.loop-i.invariant.none (subst (LacksSlots h ps) (sym here) (c.in_default.ensures.value (drop (i + 1) steps)))

pub returns-clause-value : goal.returns-clause-value
returns-clause-value c =
    let h = c.args.heap.now in
    let ps = c.args.registers.now in
    let steps = c.args.steps.now in
    let i = c.loop-i.i in
    let past : length steps ≤ i = search rules in
    subst (AreSlotsOf h ps steps) (append-nil c.loop-i.path.items)
    (c.loop-i.invariant.more [] (subst (λ (l : List of_code.Slot). AreSlotsOf h ps l []) (sym (drop_all i steps past)) refl))
