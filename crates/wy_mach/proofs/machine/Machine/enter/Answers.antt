use Rattle.std.proofs.Common.{◌+◌, ◌-◌, List, ◌++◌, length, sym, subst, ap, ◌∙◌, arith, Vec}
use Rattle.wy_heap.specs.declared.part.Part.{Part}
use Rattle.wy_heap.specs.declared.heap.Heap.{Heap}
use Rattle.wy_heap.specs.Standing.{Stands}
use Rattle.wy_code_spec.specs.step.Step.{holding, empties}
use Rattle.wy_mach.specs.Showing.{Shows}
use Rattle.wy_mach.specs.declared.frames.Frame.{Frame}
use Rattle.wy_mach.specs.States.{places_of}
use Rattle.wy_mach.proofs.CallLemmas.{pushed_places}
use Rattle.std.specs.Prelude.{vec_capacity}
use Rattle.std.specs.declared.alloc.Global.{Global}
use Rattle.wy_heap.specs.declared.part.Slot.{Slot}
use Rattle.wy_mach.proofs.machine.Machine.enter.Goals as goal

pub returns-in-Ok-clause-stands : goal.returns-in-Ok-clause-stands
returns-in-Ok-clause-stands c =
    pushed_places c.args.self.now c.push_frame.new.self c.args.arguments.items c.in-Ok.all.items (c.args.registers - length c.args.arguments.items) (c.args.self.now.frame.at + 1) c.args.to
    c.in-Ok.ensures.registers c.push_frame.ensures.heap (ap (λ (f : Frame). f.registers.items) c.push_frame.ensures.frame) c.push_frame.ensures.callers c.requires.stands

pub returns-in-Ok-clause-kept : goal.returns-in-Ok-clause-kept
returns-in-Ok-clause-kept c = record { cap = ap (λ (h : Heap). h.cap) c.push_frame.ensures.heap; shapes = ap (λ (h : Heap). h.shapes) c.push_frame.ensures.heap; has_result = c.push_frame.ensures.has_result; room = omega (arith, ap (λ (p : Vec Slot Global). vec_capacity p) c.push_frame.ensures.path) }

pub returns-in-Ok-clause-entered : goal.returns-in-Ok-clause-entered
returns-in-Ok-clause-entered c = record {
  heap = c.push_frame.ensures.heap;
  routine = ap (λ (f : Frame). f.routine) c.push_frame.ensures.frame;
  at = ap (λ (f : Frame). f.at) c.push_frame.ensures.frame;
  shows = λ m vs mean. subst (Shows m (holding vs ++ empties (c.args.registers - length vs))) (sym (ap (λ (f : Frame). f.registers.items) c.push_frame.ensures.frame)) (c.in-Ok.ensures.shows m vs mean);
  callers = c.push_frame.ensures.callers;
}

pub release_all-requires : goal.release_all-requires
release_all-requires c =
    let h = c.args.self.now.heap in
    (places_of c.args.self.now, subst (λ (l : List Part). Stands h (l ++ places_of c.args.self.now)) (sym c.in-Err.ensures.back) c.requires.stands)

pub returns-in-Err-clause-stands : goal.returns-in-Err-clause-stands
returns-in-Err-clause-stands c =
    let h = c.args.self.now.heap in
    (c.release_all.ensures.acts (places_of c.args.self.now) (subst (λ (l : List Part). Stands h (l ++ places_of c.args.self.now)) (sym c.in-Err.ensures.back) c.requires.stands)).stands

pub returns-in-Ok-clause-registers : goal.returns-in-Ok-clause-registers
returns-in-Ok-clause-registers c = ap (λ (f : Frame). f.registers.items) c.push_frame.ensures.frame ∙ c.in-Ok.ensures.registers
