-- The start of a run as a step.
use Rattle.std.proofs.Common.{◌≡◌, ◌≢◌, ◌∙◌, ◌++◌, ℕ, List, true, false, IsTrue, Ok, Err, refl, sym, ap, subst}
use Rattle.wy_top.specs.Acceptance.{Acceptance}
use Rattle.wy_top_probe.specs.wy_top_answers.Calls.{AnswersFault}
use Rattle.wy_top_probe.specs.wy_top_answers.Steps.{Setting, Gives}
use Rattle.wy_top_probe.specs.wy_top_answers.declared.answer.Answer.{Answer}
use Rattle.wy_top_probe.proofs.wy_top_answers_proofs.CallLemmas.{called_value, called_fault}
use Rattle.wy_top_probe.specs.wy_mach_run.Starting.{IsRefused, Starts}
use Rattle.wy_top_probe.specs.wy_mach_run.declared.fault.StartFault.{StartFault}
use Rattle.wy_top_probe.specs.wy_mach_run.declared.fault.StartFault.TheVariants.{NoMemory}
use Rattle.wy_top_probe.specs.wy_mach_run.declared.parts.Start.{Start}
use Rattle.wy_top.specs.Launching.{IsLaunched, IsStopped, fault_line, fault_status, lacks_memory, start_faults, starts}
use Rattle.wy_top.specs.declared.launching.Launch.{Launch}

made : List ℕ → Start → Launch
made lines start = record { lines = lines; start = start }

one_launch : (lines : List ℕ) (start : Start) (l : Launch) → l.lines ≡ lines → start ≡ l.start → made lines start ≡ l
unfolding made
one_launch lines start l same is = ap (λ (t : Start). made lines t) is ∙ ap (λ (ls : List ℕ). made ls l.start) (sym same)

pub starts_value : (s : Setting) (name arguments : List ℕ) (a : Acceptance) (start : Start) → Starts a.program.core name arguments start
    → ((t : Start) → Starts a.program.core name arguments t → start ≡ t) → ((f : StartFault) → f ≢ NoMemory → IsRefused a.program.core name arguments f → ⊥)
    → Gives s (starts name arguments a) (Ok (record { lines = a.lines; start = start }))
unfolding made
starts_value s name arguments a start is complete exact =
    called_value s (λ m l. IsLaunched a.lines a.program.core name arguments l) (start_faults a.lines name) (λ m f. IsStopped a.program.core name arguments f) (made a.lines start)
    (record { lines_are = refl; starts = is }) (λ l h. one_launch a.lines start l h.lines_are (complete l.start h.starts)) (λ f h. exact f h.known h.refused)

is_known : (f : StartFault) → lacks_memory f ≡ false → f ≢ NoMemory
is_known f known e = let lacks : lacks_memory f ≡ true = ap lacks_memory e in cc

is_memory : (f : StartFault) → f ≡ NoMemory → IsTrue (lacks_memory f)
is_memory f e = subst (λ (g : StartFault). IsTrue (lacks_memory g)) (sym e) refl

pub starts_fault : (s : Setting) (name arguments : List ℕ) (a : Acceptance) (f : StartFault) (answer : Answer) → IsRefused a.program.core name arguments f
    → ((t : Start) → Starts a.program.core name arguments t → f ≡ NoMemory) → ((g : StartFault) → g ≢ NoMemory → IsRefused a.program.core name arguments g → f ≢ NoMemory → f ≡ g)
    → AnswersFault (lacks_memory f) (fault_status f) (a.lines ++ fault_line name f) answer → Gives s (starts name arguments a) (Err answer)
starts_fault s name arguments a f answer refused complete exact answers =
    called_fault s (λ m l. IsLaunched a.lines a.program.core name arguments l) (start_faults a.lines name) (λ m g. IsStopped a.program.core name arguments g) f answer
    (λ known. record { known = is_known f known; refused = refused })
    (λ l h. is_memory f (complete l.start h.starts))
    (λ g h known. exact g h.known h.refused (is_known f known)) answers
