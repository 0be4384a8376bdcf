use Rattle.std.proofs.Common.{◌≡◌, List, length, set, arith, ◌∷◌, ◌++◌, refl, sym, ◌∙◌, ap, subst}
use Rattle.wy_heap.specs.declared.part.Part.{Part}
use Rattle.std.proofs.lemmas.List.{with_items_is}
use Rattle.std.specs.Vec.{with_items}
use Rattle.wy_heap.specs.Nodes.{map_of}
use Rattle.wy_heap.specs.Standing.{Stands, Keeps}
use Rattle.wy_mach.specs.declared.frames.Frame.{Frame}
use Rattle.wy_mach.specs.States.{places_below, callers_of}
use Rattle.wy_mach.proofs.CallLemmas.{ended_first, resumed_keeps}
use Rattle.wy_mach.proofs.ShareLemmas.{lasts_more}
use Rattle.wy_mach.proofs.machine.Machine.resume.Goals as goal

pub leave-requires : goal.leave-requires
leave-requires c =
    let old = c.args.self.now in
    let ps = c.args.caller.frame.registers.items in
    let others = c.args.given ∷ (ps ++ places_below (callers_of old)) in
    record { held = (others, subst (λ (f : Frame). Stands old.heap (f.registers.items ++ others)) (sym c.replace-ended.ensures.value) (ended_first old.heap c.args.given old.frame.registers.items (ps ++ places_below (callers_of old)) c.requires.stands)) }

pub put-requires : goal.put-requires
put-requires c =
    let old = c.args.self.now in
    let ps = c.args.caller.frame.registers.items in
    let below = places_below (callers_of old) in
    let others = c.args.given ∷ (ps ++ below) in
    let slice_is : c.as_mut_slice.result.now ≡ ps = c.as_mut_slice.ensures.value ∙ ap (λ (f : Frame). f.registers.items) c.replace-ended.ensures.after in
    let first = c.leave.ensures.acts others (subst (λ (f : Frame). Stands old.heap (f.registers.items ++ others)) (sym c.replace-ended.ensures.value) (ended_first old.heap c.args.given old.frame.registers.items (ps ++ below) c.requires.stands)) in
    record { held = (below, subst (λ (l : List Part). Stands c.leave.new.heap (c.args.given ∷ (l ++ below))) (sym slice_is) first.stands) }

pub returns-clause-resumed : goal.returns-clause-resumed
returns-clause-resumed c =
    let old = c.args.self.now in
    let n = c.leave.new.heap in
    let o = c.put.new.heap in
    let ps = c.args.caller.frame.registers.items in
    let qs = c.put.new.registers in
    let below = places_below (callers_of old) in
    let slice_is : c.as_mut_slice.result.now ≡ ps = c.as_mut_slice.ensures.value ∙ ap (λ (f : Frame). f.registers.items) c.replace-ended.ensures.after in
    let after : qs ≡ set ps c.args.caller.target c.args.given = c.put.ensures.registers ∙ ap (λ (l : List Part). set l c.args.caller.target c.args.given) slice_is in
    let both = resumed_keeps old.heap n o c.args.given old.frame.registers.items ps qs below c.args.caller.target after
    (λ others stands. c.leave.ensures.acts others (subst (λ (f : Frame). Stands old.heap (f.registers.items ++ others)) (sym c.replace-ended.ensures.value) stands))
    (λ others stands. c.put.ensures.acts others (subst (λ (l : List Part). Stands n (c.args.given ∷ (l ++ others))) (sym slice_is) stands))
    c.requires.stands in
    let base = c.replace-ended.new.dest.registers in
    let long : length qs ≡ base.len = omega (arith, c.put.auto.registers, ap length c.as_mut_slice.ensures.value, base.ok) in
    let kept_items : (with_items base qs).items ≡ qs = with_items_is base qs long in
    record {
      routine = ap (λ (f : Frame). f.routine) c.replace-ended.ensures.after;
      at = ap (λ (f : Frame). f.at) c.replace-ended.ensures.after;
      registers = kept_items ∙ after;
      callers = refl;
      stands = subst (λ (l : List Part). Stands o (l ++ below)) (sym kept_items) both.0;
      keeps = subst (λ (l : List Part). Keeps (map_of old.heap) (map_of o) (l ++ below)) (sym kept_items) both.1;
    }

pub returns-clause-spares : goal.returns-clause-spares
returns-clause-spares c = record {
  lasts = lasts_more (map_of c.args.self.now.heap) (map_of c.leave.new.heap) (map_of c.put.new.heap) c.leave.ensures.lasts c.put.ensures.lasts;
  copies = c.put.ensures.copies ∙ c.leave.ensures.copies;
}
