use Rattle.std.proofs.Common.{◌≡◌, [], ◌∷◌, ◌++◌, Option, option_to_list, reverse, ap, ◌∙◌}
use Rattle.wy_mach.specs.declared.frames.Caller.{Caller}
use Rattle.wy_mach.specs.States.{places_below}
use Rattle.wy_mach.proofs.CallLemmas.{popped_below}
use Rattle.wy_mach.proofs.machine.leave_all.Goals as goal

pub callers-init : goal.callers-init
callers-init c = c.requires.held

pub leave-requires : goal.leave-requires
leave-requires c =
    let rest = c.pop.new.self.items in
    let popped : c.callers.callers.items ≡ rest ++ c.in-Some.caller ∷ [] = c.pop.ensures.items ∙ ap (λ (r : Option Caller). rest ++ option_to_list r) c.in-Some.is in
    record { held = (places_below (reverse rest), popped_below c.callers.heap c.callers.callers.items rest c.in-Some.caller popped c.callers.invariant) }

pub callers-preserved : goal.callers-preserved
callers-preserved c =
    let rest = c.pop.new.self.items in
    let popped : c.callers.callers.items ≡ rest ++ c.in-Some.caller ∷ [] = c.pop.ensures.items ∙ ap (λ (r : Option Caller). rest ++ option_to_list r) c.in-Some.is in
    (c.leave.ensures.acts (places_below (reverse rest)) (popped_below c.callers.heap c.callers.callers.items rest c.in-Some.caller popped c.callers.invariant)).stands
