-- Where nothing is left to show, each function and method is no fault and gives what its contract says.
use Rattle.std.proofs.Common.{◌≡◌, ℕ, List, [], ◌∷◌, map, Option, Some, None, subst}
use Rattle.wy_value.specs.Datum.{Datum}
use Rattle.wy_value.specs.Seen.{seen, seen_items}
use Rattle.wy_value.specs.Values.{AreValues}
use Rattle.wy_value.specs.declared.value.Value.{Value}
use Rattle.wy_core.specs.CoreTree.{Core, Output, Routine, aliases_of, routines_of}
use Rattle.wy_core.specs.Types.{Ty}
use Rattle.wy_sound.specs.wy_sem.Meter.{Outcome, Done, Fault, More, Spent}
use Rattle.wy_sound.specs.wy_sem.TypeTests.{clause_setting}
use Rattle.wy_sound.specs.wy_sem.Precondition.{AreTrue, Meets}
use Rattle.wy_sound.specs.wy_sem.Evaluation.{Declared, callee, entry_of, evaluate}
use Rattle.wy_top.specs.wy_gen_laws.programs.Programs.{NoFault}
use Rattle.wy_sound.specs.Sound.{IsReturned, IsSound, Shown}
use Rattle.wy_sound.proofs.SoundLemmas.{programs_sound}
use Rattle.wy_sound.specs.wy_sound_kinds.Bounded.{AllBounded}
use Rattle.wy_sound.proofs.wy_sound_kinds_proofs.DatumLemmas.{values_are_bounded}
use Rattle.wy_top.specs.wy_mach_run.sound.Results.{Fulfils, IsFaultless, IsResult, with_result}

pub values_bounded : (vs : List Value) → AreValues (seen_items vs) → AllBounded (map seen vs)
values_bounded [] h = tt
values_bounded (v ∷ vs) h = (values_are_bounded (seen v) h.0, values_bounded vs h.1)

no_fault : (P : Option Datum → Type 0) (o : Outcome (Option Datum)) → IsSound P o → NoFault o
no_fault P (Done v m) h = tt
no_fault P (Fault kind at m) h = h
no_fault P (More m) h = tt
no_fault P Spent h = tt

module _ (place : ℕ → ℕ) (core : Core ℕ) (r : Routine ℕ) (vs : List Datum) where
  -- the contract, by the result that is declared
  kept : (out : Option Output) (v : Option Datum) → IsReturned place core r vs out v → IsResult place (aliases_of core) out v × AreTrue (clause_setting place None (aliases_of core)) r.postconditions (with_result out (entry_of r vs) v)
  kept None v h = (h.0, h.1)
  kept (Some out) None h = absurd h
  kept (Some out) (Some d) h = (h.1, h.2)

  fulfils_so : (v : Option Datum) → IsReturned place core r vs r.result v → Fulfils place core r vs v
  fulfils_so v h = let g = kept r.result v h in record { value = g.0; ensures_hold = g.1 }

pub faultless : (place : ℕ → ℕ) (core : Core ℕ) (flow : List Ty) → Shown core flow → (f : ℕ) (r : Routine ℕ) (vs : List Datum) → callee (routines_of core) f ≡ Declared r → AllBounded vs → Meets place core f vs → IsFaultless place core f r vs
faultless place core flow shown f r vs declared bounded meets =
    let sound = programs_sound place core flow shown f r vs declared bounded meets in
    record {
      no_fault = λ k. no_fault (IsReturned place core r vs r.result) (evaluate place core f vs k) (sound k);
      fulfils = λ k v m e. fulfils_so place core r vs v (subst (IsSound (IsReturned place core r vs r.result)) e (sound k));
    }
