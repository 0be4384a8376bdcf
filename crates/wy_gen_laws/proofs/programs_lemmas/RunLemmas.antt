-- Runs of the machine: what ended stays so, and what is printed stays.
use Rattle.std.proofs.Common.{◌≡◌, ◌≤◌, ℕ, zero, suc, ◌+◌, List, [], ◌∷◌, ◌++◌, Bool, true, false, cond, Option, Some, None, refl, sym, ◌∙◌, ap, subst, append_assoc, arith}
use Rattle.std.specs.Prelude.{nat_eq, length}
use Rattle.std.proofs.lemmas.List.{append-nil}
use Rattle.wy_value.specs.Datum.{Datum}
use Rattle.wy_code.specs.declared.routines.Code.{Code}
use Rattle.wy_code.specs.declared.routines.Routine.{Routine}
use Rattle.wy_code.specs.declared.instructions.Instr.{Instr}
use Rattle.wy_vc_spec.specs.wy_sem.Growth.{Begins}
use Rattle.wy_code_spec.specs.step.Step.{State, Runs, Ended, Stuck, Frame, Caller, Effect, GoesOn, GoesTo, Calls, Returns, Fails, effect, entered, entry_registers, returned, stepped, executed, next_of, step, after}
use Rattle.wy_gen_laws.specs.programs.Programs.{printed, IsStuck}

pub begins_itself : (out : List ℕ) → Begins out out
begins_itself out = ([], sym (append-nil out))

pub begins_on : (a b c : List ℕ) → Begins a b → Begins b c → Begins a c
begins_on a b c h g = (h.0 ++ g.0, g.1 ∙ ap (λ (l : List ℕ). l ++ g.0) h.1 ∙ append_assoc a h.0 g.0)

-- ---- what is printed stays, unless a step lacks

abbrev Grown : List ℕ → State → Type 0
Grown out (Runs fr callers output) = Begins out output
Grown out (Ended v output) = Begins out output
Grown out Stuck = Unit {0}

cond_grown : (out : List ℕ) (b : Bool) (s t : State) → Grown out s → Grown out t → Grown out (cond b s t)
cond_grown out true s t h g = h
cond_grown out false s t h g = g

entered_grown : (out : List ℕ) (o : Option Routine) (f : ℕ) (vs : List Datum) (callers : List Caller) (output : List ℕ) → Begins out output → Grown out (entered o f vs callers output)
entered_grown out None f vs callers output h = tt
entered_grown out (Some r) f vs callers output h = cond_grown out (nat_eq (length vs) r.params) (Runs (record { routine = f; at = 0; registers = entry_registers r vs }) callers output) Stuck h tt

returned_grown : (out : List ℕ) (v : Datum) (callers : List Caller) (output : List ℕ) → Begins out output → Grown out (returned v callers output)
returned_grown out v [] output h = h
returned_grown out v (c ∷ callers) output h = h

stepped_grown : (code : Code) (out : List ℕ) (fr : Frame) (callers : List Caller) (output : List ℕ) (e : Effect) → Begins out output → Grown out (stepped code fr callers output e)
stepped_grown code out fr callers output (GoesOn s bytes) h = begins_on out output (output ++ bytes) h (bytes, refl)
stepped_grown code out fr callers output (GoesTo t) h = h
stepped_grown code out fr callers output (Calls d f vs s) h = entered_grown out _ f vs (record { frame = record fr { at = fr.at + 1; registers = s }; target = d } ∷ callers) output h
stepped_grown code out fr callers output (Returns v) h = returned_grown out v callers output h
stepped_grown code out fr callers output Fails h = tt

executed_grown : (code : Code) (out : List ℕ) (fr : Frame) (callers : List Caller) (output : List ℕ) (i : Option Instr) → Begins out output → Grown out (executed code fr callers output i)
executed_grown code out fr callers output None h = tt
executed_grown code out fr callers output (Some i) h = stepped_grown code out fr callers output (effect code.shapes i fr.registers) h

step_grown : (code : Code) (out : List ℕ) (st : State) → Grown out st → Grown out (step code st)
step_grown code out (Runs fr callers output) h = executed_grown code out fr callers output (next_of code.routines fr) h
step_grown code out (Ended v output) h = h
step_grown code out Stuck h = tt

after_grown : (code : Code) (out : List ℕ) (n : ℕ) (st : State) → Grown out st → Grown out (after code n st)
after_grown code out zero st h = h
after_grown code out (suc n) st h = after_grown code out n (step code st) (step_grown code out st h)

grown_here : (st : State) → Grown (printed st) st
grown_here (Runs fr callers output) = begins_itself output
grown_here (Ended v output) = begins_itself output
grown_here Stuck = tt

grown_printed : (out : List ℕ) (st : State) → (IsStuck st → ⊥) → Grown out st → Begins out (printed st)
grown_printed out (Runs fr callers output) going h = h
grown_printed out (Ended v output) going h = h
grown_printed out Stuck going h = absurd (going tt)

-- what stands behind so many steps is what stands behind so many more of fewer
pub split : (code : Code) (n k : ℕ) (st : State) → n ≤ k → (d : ℕ) × (after code k st ≡ after code d (after code n st))
split code zero k st h = (k, refl)
split code (suc n) zero st h = absurd (omega (arith, h))
split code (suc n) (suc k) st h = split code n k (step code st) (omega (arith, h))

pub prints_more : (code : Code) (n k : ℕ) (st : State) → n ≤ k → (IsStuck (after code k st) → ⊥) → Begins (printed (after code n st)) (printed (after code k st))
prints_more code n k st h going =
    let s = split code n k st h in
    subst (λ (t : State). Begins (printed (after code n st)) (printed t)) (sym s.1)
    (grown_printed (printed (after code n st)) (after code s.0 (after code n st)) (λ stuck. going (subst (λ (t : State). IsStuck t) (sym s.1) stuck)) (after_grown code (printed (after code n st)) s.0 (after code n st) (grown_here (after code n st))))

-- ---- what ended stays so, and so does what lacks a step

ended_after : (code : Code) (n : ℕ) (v : Datum) (output : List ℕ) → after code n (Ended v output) ≡ Ended v output
ended_after code zero v output = refl
ended_after code (suc n) v output = ended_after code n v output

stuck_step : (code : Code) (st : State) → IsStuck st → IsStuck (step code st)
stuck_step code (Runs fr callers output) h = absurd h
stuck_step code (Ended v output) h = absurd h
stuck_step code Stuck h = tt

stuck_after : (code : Code) (n : ℕ) (st : State) → IsStuck st → IsStuck (after code n st)
stuck_after code zero st h = h
stuck_after code (suc n) st h = stuck_after code n (step code st) (stuck_step code st h)

pub stays_ended : (code : Code) (n k : ℕ) (st : State) (v : Datum) (output : List ℕ) → n ≤ k → after code n st ≡ Ended v output → after code k st ≡ Ended v output
stays_ended code n k st v output h e = let s = split code n k st h in s.1 ∙ ap (λ (t : State). after code s.0 t) e ∙ ended_after code s.0 v output

pub stays_stuck : (code : Code) (n k : ℕ) (st : State) → n ≤ k → IsStuck (after code n st) → IsStuck (after code k st)
stays_stuck code n k st h stuck = let s = split code n k st h in subst (λ (t : State). IsStuck t) (sym s.1) (stuck_after code s.0 (after code n st) stuck)
