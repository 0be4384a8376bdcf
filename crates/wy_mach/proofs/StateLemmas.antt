-- What the machine shows is kept where what its registers hold is kept.
use Rattle.std.proofs.Common.{◌≡◌, ℕ, List, [], ◌∷◌, ◌++◌, Option, Some, None, reverse, refl, sym, ◌∙◌, ap, subst, arith}
use Rattle.std.proofs.lemmas.List.{append-nil}
use Rattle.wy_port.specs.Taken.{with_taken}
use Rattle.wy_heap.specs.Nodes.{Map, map_of}
use Rattle.wy_heap.specs.Standing.{Stands, Keeps}
use Rattle.wy_heap.proofs.CountLemmas.{held-append}
use Rattle.wy_code_spec.specs.step.Step.{Frame, Caller}
use Rattle.wy_mach.specs.Showing.{Turns, AreRegisters}
use Rattle.wy_mach.proofs.RegisterLemmas.{shows_kept, keeps_fewer}
use Rattle.wy_mach.specs.declared.frames.Frame as of_frames
use Rattle.wy_mach.specs.declared.frames.Caller as of_callers
use Rattle.wy_mach.specs.declared.machine.Machine.{Machine}
use Rattle.wy_mach.specs.States.{places_below, places_of, callers_of, ShowsFrame, ShowsCallers}

pub frame_kept : (m n : Map) (fr : Frame) (f : of_frames.Frame) → Keeps m n f.registers.items → ShowsFrame m fr f → ShowsFrame n fr f
frame_kept m n fr f keeps shows = record {
  routine = shows.routine;
  at = shows.at;
  registers = shows_kept m n fr.registers f.registers.items keeps shows.registers;
}

pub callers_kept : (m n : Map) (cs : List Caller) (fs : List of_callers.Caller) → Keeps m n (places_below fs) → ShowsCallers m cs fs → ShowsCallers n cs fs
callers_kept m n [] fs keeps shows = shows
callers_kept m n (c ∷ cs) [] keeps shows = absurd shows
callers_kept m n (c ∷ cs) (f ∷ fs) keeps shows =
    let here = keeps_fewer m n f.frame.registers.items (places_below (f ∷ fs)) (λ k. omega (arith, held-append k f.frame.registers.items (places_below fs))) keeps in
    let below = keeps_fewer m n (places_below fs) (places_below (f ∷ fs)) (λ k. omega (arith, held-append k f.frame.registers.items (places_below fs))) keeps in (
      record { target = shows.0.target; frame = frame_kept m n c.frame f.frame here shows.0.frame },
      callers_kept m n cs fs below shows.1,
    )

pub registers_held : (k : Machine) → Stands k.heap (places_of k) → AreRegisters k.heap k.frame.registers.items
registers_held k stands = (places_below (callers_of k), stands)

-- the callers of a machine whose heap changed
pub callers_same : (old new : Machine) (cs : List Caller) → new.callers.items ≡ old.callers.items → Keeps (map_of old.heap) (map_of new.heap) (places_below (callers_of old)) → ShowsCallers (map_of old.heap) cs (callers_of old) → ShowsCallers (map_of new.heap) cs (callers_of new)
callers_same old new cs same keeps shows =
    subst (λ (l : List of_callers.Caller). ShowsCallers (map_of new.heap) cs (reverse l)) (sym same)
    (callers_kept (map_of old.heap) (map_of new.heap) cs (callers_of old) keeps shows)

-- other registers are held in place of those that ran
pub stands_turned : (old new : Machine) → Turns old.heap new.heap old.frame.registers.items new.frame.registers.items → new.callers.items ≡ old.callers.items → Stands old.heap (places_of old) → Stands new.heap (places_of new)
stands_turned old new turns same stands =
    subst (λ (l : List of_callers.Caller). Stands new.heap (new.frame.registers.items ++ places_below (reverse l))) (sym same)
    (turns (places_below (callers_of old)) stands).stands

-- nothing was taken
pub nothing_taken : (known : Option (List ℕ)) (bytes : List ℕ) → [] ≡ bytes → known ≡ with_taken known bytes
nothing_taken None bytes is = refl
nothing_taken (Some before) bytes is = ap (λ (l : List ℕ). Some l) (sym (append-nil before) ∙ ap (λ (l : List ℕ). before ++ l) is)
