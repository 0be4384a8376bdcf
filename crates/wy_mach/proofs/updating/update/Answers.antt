use Rattle.std.proofs.Common.{◌≡◌, ◌≤◌, ◌<◌, ◌∷◌, [], length, sym, subst, refl, rules, ap, set, get_or, List, arith}
use Rattle.wy_lemmas.proofs.Options.{on_ok}
use Rattle.wy_value.specs.declared.shapes.Shapes.{Shapes}
use Rattle.wy_heap.specs.Nodes.{map_of}
use Rattle.wy_heap.specs.Extending.{Extends}
use Rattle.wy_heap.specs.Slots.{steps_of, IsPath}
use Rattle.wy_code.specs.declared.instructions.Instr.TheVariants as instr
use Rattle.wy_code_spec.specs.step.Step.{effect}
use Rattle.wy_mach.specs.declared.stop.Stop.{Stop}
use Rattle.wy_mach.specs.declared.stop.Stop.TheVariants as stop
use Rattle.wy_mach.specs.Showing.{WentOn, IsStop}
use Rattle.wy_mach.specs.Taking.{GivesMade}
use Rattle.wy_mach.proofs.MakeLemmas.{are_taken, taken_turns}
use Rattle.wy_mach.specs.Paths.{AreSlotsOf, written_made}
use Rattle.wy_mach.proofs.UpdateLemmas.{two_taken, two_emptied, two_within, put_goes, put_lacks, put_beyond, whole_beyond, put_stops, on_err}
use Rattle.wy_heap.specs.declared.part.Part.{Part}
use Rattle.wy_heap.specs.declared.part.Part.TheVariants.{Null}
use Rattle.wy_mach.specs.Writing.{PutsAlong, WritesPath, IsNotSole}
use Rattle.wy_mach.proofs.WriteLemmas.{puts_along_as}
use Rattle.wy_mach.proofs.EqualLemmas.{length-set_part}
use Rattle.wy_heap.specs.Putting.{Sole}
use Rattle.std.specs.Prelude.{vec_capacity}
use Rattle.wy_mach.proofs.updating.update.Goals as goal

pub returns-in-Err-clause-stop : goal.returns-in-Err-clause-stop
returns-in-Err-clause-stop c shapes extends =
    put_lacks c.args.heap.now shapes c.args.registers.now c.args.whole c.args.from c.args.steps.now c.in-Err.stop c.in-Err.ensures.stop

pub returns-then-from-registers-clause-stop : goal.returns-then-from-registers-clause-stop
returns-then-from-registers-clause-stop c shapes extends =
    let beyond : length c.args.registers.now ≤ c.args.from = search rules in
    put_beyond c.args.heap.now shapes c.args.registers.now c.args.whole c.args.from c.args.steps.now c.slots.new.path.items extends c.in-Ok.ensures.value beyond

pub returns-then-whole-registers-clause-stop : goal.returns-then-whole-registers-clause-stop
returns-then-whole-registers-clause-stop c shapes extends =
    let beyond : length c.args.registers.now ≤ c.args.whole = search rules in
    whole_beyond c.args.heap.now shapes c.args.registers.now c.args.whole c.args.from c.args.steps.now c.slots.new.path.items extends c.in-Ok.ensures.value beyond

pub written-requires : goal.written-requires
written-requires c =
    let ps = c.args.registers.now in
    let one = c.take-item.new.registers in
    let from = c.args.from in
    let whole = c.args.whole in
    let two = set one whole Null in
    let first : from < length ps = search rules in
    let second : whole < length ps = search rules in
    record {
      held = are_taken c.args.heap.now ps (c.take-item.result ∷ get_or one whole Null ∷ []) two (from ∷ whole ∷ []) (two_within (length ps) from whole first second)
          (two_taken ps one c.take-item.result (get_or one whole Null) from whole c.take-item.ensures.value c.take-item.ensures.registers refl)
          (two_emptied ps one two from whole c.take-item.ensures.registers refl) c.requires.held;
      there = subst (λ (l : List Part). whole < length l) (sym c.take-item.ensures.registers) (omega (arith, second, length-set_part ps from Null));
    }

pub returns-clause-turns : goal.returns-clause-turns
returns-clause-turns c =
    let ps = c.args.registers.now in
    let one = c.take-item.new.registers in
    let from = c.args.from in
    let whole = c.args.whole in
    let two = set one whole Null in
    let first : from < length ps = search rules in
    let second : whole < length ps = search rules in
    taken_turns c.args.heap.now c.written.new.heap ps (c.take-item.result ∷ get_or one whole Null ∷ []) two c.written.new.registers (from ∷ whole ∷ []) (two_within (length ps) from whole first second)
    (two_taken ps one c.take-item.result (get_or one whole Null) from whole c.take-item.ensures.value c.take-item.ensures.registers refl)
    (two_emptied ps one two from whole c.take-item.ensures.registers refl) c.written.ensures.turns

pub returns-clause-value : goal.returns-clause-value
returns-clause-value c =
    let h = c.args.heap.now in
    let n = c.written.new.heap in
    let ps = c.args.registers.now in
    let one = c.take-item.new.registers in
    let from = c.args.from in
    let whole = c.args.whole in
    let two = set one whole Null in
    let spent = c.take-item.result ∷ get_or one whole Null ∷ [] in
    let path = c.as_slice.result.now in
    let are : AreSlotsOf h ps c.args.steps.now path = subst (AreSlotsOf h ps c.args.steps.now) (sym c.as_slice.ensures.value) c.in-Ok.ensures.value in
    on_ok c.written.result (GivesMade h n spent two c.written.new.registers whole (written_made (steps_of h.shapes path)))
    ((shapes : Shapes) → Extends shapes h.shapes → WentOn (map_of h) (map_of n) ps c.written.new.registers (effect shapes (instr.Put whole c.args.steps.now from)))
    (λ made shapes extends. put_goes h n shapes ps spent two c.written.new.registers whole from c.args.steps.now path extends are
    (two_taken ps one c.take-item.result (get_or one whole Null) from whole c.take-item.ensures.value c.take-item.ensures.registers refl)
    (two_emptied ps one two from whole c.take-item.ensures.registers refl) made)
    c.written.ensures.value

pub returns-clause-stop : goal.returns-clause-stop
returns-clause-stop c =
    let h = c.args.heap.now in
    let ps = c.args.registers.now in
    let one = c.take-item.new.registers in
    let from = c.args.from in
    let whole = c.args.whole in
    let place = get_or one whole Null in
    let path = c.as_slice.result.now in
    let are : AreSlotsOf h ps c.args.steps.now path = subst (AreSlotsOf h ps c.args.steps.now) (sym c.as_slice.ensures.value) c.in-Ok.ensures.value in
    on_err c.written.result (λ (e : Stop). e ≡ stop.Stuck → IsPath h place path → ⊥)
    (λ (e : Stop). (shapes : Shapes) → Extends shapes h.shapes → IsStop (map_of h) ps (effect shapes (instr.Put whole c.args.steps.now from)) e)
    (λ e none shapes extends. put_stops h shapes ps one place whole from c.args.steps.now path e extends are c.take-item.ensures.registers refl none)
    c.written.ensures.stop

pub returns-clause-shares : goal.returns-clause-shares
returns-clause-shares c =
    let h = c.args.heap.now in
    let n = c.written.new.heap in
    let ps = c.args.registers.now in
    let one = c.take-item.new.registers in
    let qs = c.written.new.registers in
    let from = c.args.from in
    let whole = c.args.whole in
    let two = set one whole Null in
    let left = set ps from Null in
    let path = c.as_slice.result.now in
    let are : AreSlotsOf h ps c.args.steps.now path = subst (AreSlotsOf h ps c.args.steps.now) (sym c.as_slice.ensures.value) c.in-Ok.ensures.value in
    let left_is = ap (λ (l : List Part). set l whole Null) c.take-item.ensures.registers in
    let place_is = ap (λ (l : List Part). get_or l whole Null) c.take-item.ensures.registers in
    on_ok c.written.result (PutsAlong h n two qs whole (get_or one whole Null) c.take-item.result (steps_of h.shapes path)) (WritesPath h n ps qs whole c.args.steps.now from)
    (λ puts. (path, are, puts_along_as h n two (set left whole Null) qs whole (get_or one whole Null) (get_or left whole Null) c.take-item.result (get_or ps from Null) (steps_of h.shapes path) left_is place_is c.take-item.ensures.value puts))
    c.written.ensures.shares

pub returns-clause-memory : goal.returns-clause-memory
returns-clause-memory c =
    let h = c.args.heap.now in
    let ps = c.args.registers.now in
    let one = c.take-item.new.registers in
    let from = c.args.from in
    let whole = c.args.whole in
    let left = set ps from Null in
    let path = c.as_slice.result.now in
    let are : AreSlotsOf h ps c.args.steps.now path = subst (AreSlotsOf h ps c.args.steps.now) (sym c.as_slice.ensures.value) c.in-Ok.ensures.value in
    let place_is = ap (λ (l : List Part). get_or l whole Null) c.take-item.ensures.registers in
    on_err c.written.result (λ (e : Stop). e ≡ stop.NoMemory → Sole h (get_or one whole Null) (steps_of h.shapes path) → ⊥)
    (λ (e : Stop). e ≡ stop.NoMemory → length c.args.steps.now ≤ vec_capacity c.args.path.now → IsNotSole h ps whole c.args.steps.now from)
    (λ e none no room. (path, are, λ sole. none no (subst (λ (p : Part). Sole h p (steps_of h.shapes path)) (sym place_is) sole)))
    c.written.ensures.memory
