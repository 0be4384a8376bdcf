-- Forks and releases.
use Rattle.std.proofs.Common.{◌≡◌, ℕ, suc, ◌+◌, List, [], ◌∷◌, length, true, false, Some, refl, arith, length-append}
use Rattle.wy_value.specs.Datum.{Truth}
use Rattle.wy_code.specs.declared.routines.Code.{Code}
use Rattle.wy_code.specs.declared.routines.Routine.{Routine}
use Rattle.wy_code.specs.declared.instructions.Instr.{Instr}
use Rattle.wy_code.specs.declared.instructions.Instr.TheVariants as instr
use Rattle.wy_code.specs.declared.pieces.steps.Step.{Step}
use Rattle.wy_code.specs.declared.pieces.steps.Step.TheVariants.{GoesOn}
use Rattle.wy_code.specs.pieces.Steps.{clear, fork}
use Rattle.wy_vc_spec.specs.wy_sem.Meter.{Meter, Outcome, Done}
use Rattle.wy_vc_spec.specs.wy_sem.Expressions.{Store, slot}
use Rattle.wy_code_spec.specs.step.Step.{Caller, step, effect, cleared, instr_at, GoesOn as goes_on}
use Rattle.wy_gen_laws.specs.Places.{StandAt, IsRoutine}
use Rattle.wy_gen_laws.specs.Follows.{Follows, at_place, Comes}
use Rattle.wy_gen_laws.proofs.PlaceLemmas.{stand_front, stand_back, stand_moved}
use Rattle.wy_gen_laws.proofs.FollowLemmas.{quiet_step, far_step, follows_step, follows_end, follows_last, follows_at, follows_more}
use Rattle.wy_gen_laws.proofs.InstructionLemmas.{branch_on, branch_off}

module _ (code : Code) (routine : ℕ) (r : Routine) (there : IsRoutine code routine r) (wide : ℕ) where
  -- ---- one instruction

  -- an instruction that goes on behind, and then what follows
  pub does_then : {X : Type 0} (lo hi at : ℕ) (i : Instr) (regs after_it : Store) (callers : List Caller) (m : Meter) (o : Outcome X) (to : ℕ) (R : X → Store → Type 0) → instr_at (Some r) at ≡ Some i → effect code.shapes i regs ≡ goes_on after_it []
      → Follows code wide lo hi m (at_place routine (at + 1) after_it callers m.output) o (Comes routine to callers R) → Follows code wide lo (hi + 1) m (at_place routine at regs callers m.output) o (Comes routine to callers R)
  does_then lo hi at i regs after_it callers m o to R stands does h =
      follows_step code wide lo (hi + 1) lo hi m (at_place routine at regs callers m.output) (at_place routine (at + 1) after_it callers m.output) o (Comes routine to callers R) (quiet_step code routine r there at i regs after_it callers m.output stands does) (omega arith) (omega arith) h

  -- the last instruction before an answer
  pub does_last : {X : Type 0} (at : ℕ) (i : Instr) (regs after_it : Store) (callers : List Caller) (m : Meter) (x : X) (R : X → Store → Type 0) → instr_at (Some r) at ≡ Some i → effect code.shapes i regs ≡ goes_on after_it [] → R x after_it
      → Follows code wide 0 1 m (at_place routine at regs callers m.output) (Done x m) (Comes routine (at + 1) callers R)
  does_last at i regs after_it callers m x R stands does ok =
      does_then 0 0 at i regs after_it callers m (Done x m) (at + 1) R stands does (follows_end code wide 0 0 m (at_place routine (at + 1) after_it callers m.output) x (Comes routine (at + 1) callers R) (record { regs = after_it; is = refl; ok = ok }))

  -- an answer without an instruction
  pub stays_last : {X : Type 0} (at : ℕ) (regs : Store) (callers : List Caller) (m : Meter) (x : X) (R : X → Store → Type 0) → R x regs → Follows code wide 0 0 m (at_place routine at regs callers m.output) (Done x m) (Comes routine at callers R)
  stays_last at regs callers m x R ok = follows_end code wide 0 0 m (at_place routine at regs callers m.output) x (Comes routine at callers R) (record { regs = regs; is = refl; ok = ok })

  -- a step that jumps
  pub jumps : (at to : ℕ) (callers : List Caller) → instr_at (Some r) at ≡ Some (instr.Jump to) → (regs : Store) (output : List ℕ) → step code (at_place routine at regs callers output) ≡ at_place routine to regs callers output
  jumps at to callers stands regs output = far_step code routine r there at to (instr.Jump to) regs callers output stands refl

  -- ---- forks

  abbrev Runs : {X : Type 0} → ℕ → ℕ → Meter → Outcome X → Store → List Caller → (X → Store → Type 0) → List Step → Type 0
  Runs lo hi m o regs callers R steps = (p : ℕ) → StandAt r.body p steps → Follows code wide lo hi m (at_place routine p regs callers m.output) o (Comes routine (p + length steps) callers R)

  branch_falls : {X : Type 0} (lo hi at d t : ℕ) (regs : Store) (callers : List Caller) (m : Meter) (o : Outcome X) (to : ℕ) (R : X → Store → Type 0) → instr_at (Some r) at ≡ Some (instr.Branch d t) → slot regs d ≡ Some (Truth true)
      → Follows code wide lo hi m (at_place routine (at + 1) regs callers m.output) o (Comes routine to callers R) → Follows code wide lo (hi + 1) m (at_place routine at regs callers m.output) o (Comes routine to callers R)
  branch_falls lo hi at d t regs callers m o to R stands e h = does_then lo hi at (instr.Branch d t) regs regs callers m o to R stands (branch_on code.shapes regs d t e) h

  branch_goes : {X : Type 0} (lo hi at d t : ℕ) (regs : Store) (callers : List Caller) (m : Meter) (o : Outcome X) (to : ℕ) (R : X → Store → Type 0) → instr_at (Some r) at ≡ Some (instr.Branch d t) → slot regs d ≡ Some (Truth false)
      → Follows code wide lo hi m (at_place routine t regs callers m.output) o (Comes routine to callers R) → Follows code wide lo (hi + 1) m (at_place routine at regs callers m.output) o (Comes routine to callers R)
  branch_goes lo hi at d t regs callers m o to R stands e h =
      follows_step code wide lo (hi + 1) lo hi m (at_place routine at regs callers m.output) (at_place routine t regs callers m.output) o (Comes routine to callers R) (far_step code routine r there at t (instr.Branch d t) regs callers m.output stands (branch_off code.shapes regs d t e)) (omega arith) (omega arith) h

  pub fork_on : {X : Type 0} (lo hi at d : ℕ) (first second : List Step) (regs : Store) (callers : List Caller) (m : Meter) (o : Outcome X) (R : X → Store → Type 0) → StandAt r.body at (fork d first second) → slot regs d ≡ Some (Truth true)
      → Runs lo hi m o regs callers R first → Follows code wide lo (hi + 2) m (at_place routine at regs callers m.output) o (Comes routine (at + length (fork d first second)) callers R)
  fork_on lo hi at d [] [] regs callers m o R h e f = follows_more code wide lo hi lo (hi + 2) m (at_place routine at regs callers m.output) o (Comes routine (at + 0) callers R) (omega arith) (omega arith) (f at tt)
  fork_on lo hi at d (s ∷ first) [] regs callers m o R h e f =
      follows_more code wide lo (hi + 1) lo (hi + 2) m (at_place routine at regs callers m.output) o (Comes routine (at + suc (length (s ∷ first))) callers R) (omega arith) (omega arith)
      (branch_falls lo hi at d (suc at + length (s ∷ first)) regs callers m o (at + suc (length (s ∷ first))) R h.0 e
      (follows_at code wide lo hi m (at_place routine (at + 1) regs callers m.output) o routine (at + 1 + length (s ∷ first)) (at + suc (length (s ∷ first))) callers R (omega arith) (f (at + 1) h.1)))
  fork_on lo hi at d first (s ∷ second) regs callers m o R h e f =
      let jump : instr_at (Some r) (at + 1 + length first) ≡ Some (instr.Jump (suc (at + 1 + length first) + length (s ∷ second))) = (stand_back r.body (at + 1) first (GoesOn (length (s ∷ second)) ∷ s ∷ second) h.1).0 in
      let long = length-append first (GoesOn (length (s ∷ second)) ∷ s ∷ second) in
      let place : suc (at + 1 + length first) + length (s ∷ second) ≡ at + length (fork d first (s ∷ second)) = omega (arith, long) in
      follows_more code wide lo (hi + 1 + 1) lo (hi + 2) m (at_place routine at regs callers m.output) o (Comes routine (at + length (fork d first (s ∷ second))) callers R) (omega arith) (omega arith)
      (branch_falls lo (hi + 1) at d (suc at + (length first + 1)) regs callers m o (at + length (fork d first (s ∷ second))) R h.0 e
      (follows_at code wide lo (hi + 1) m (at_place routine (at + 1) regs callers m.output) o routine (suc (at + 1 + length first) + length (s ∷ second)) (at + length (fork d first (s ∷ second))) callers R place
      (follows_last code wide lo hi m (at_place routine (at + 1) regs callers m.output) o routine (at + 1 + length first) (suc (at + 1 + length first) + length (s ∷ second)) callers R
      (jumps (at + 1 + length first) (suc (at + 1 + length first) + length (s ∷ second)) callers jump)
      (f (at + 1) (stand_front r.body (at + 1) first (GoesOn (length (s ∷ second)) ∷ s ∷ second) h.1)))))

  pub fork_off : {X : Type 0} (lo hi at d : ℕ) (first second : List Step) (regs : Store) (callers : List Caller) (m : Meter) (o : Outcome X) (R : X → Store → Type 0) → StandAt r.body at (fork d first second) → slot regs d ≡ Some (Truth false)
      → Runs lo hi m o regs callers R second → Follows code wide lo (hi + 2) m (at_place routine at regs callers m.output) o (Comes routine (at + length (fork d first second)) callers R)
  fork_off lo hi at d [] [] regs callers m o R h e f = follows_more code wide lo hi lo (hi + 2) m (at_place routine at regs callers m.output) o (Comes routine (at + 0) callers R) (omega arith) (omega arith) (f at tt)
  fork_off lo hi at d (s ∷ first) [] regs callers m o R h e f =
      follows_more code wide lo (hi + 1) lo (hi + 2) m (at_place routine at regs callers m.output) o (Comes routine (at + suc (length (s ∷ first))) callers R) (omega arith) (omega arith)
      (branch_goes lo hi at d (suc at + length (s ∷ first)) regs callers m o (at + suc (length (s ∷ first))) R h.0 e
      (follows_at code wide lo hi m (at_place routine (suc at + length (s ∷ first)) regs callers m.output) o routine (suc at + length (s ∷ first) + 0) (at + suc (length (s ∷ first))) callers R (omega arith) (f (suc at + length (s ∷ first)) tt)))
  fork_off lo hi at d first (s ∷ second) regs callers m o R h e f =
      let long = length-append first (GoesOn (length (s ∷ second)) ∷ s ∷ second) in
      let back = (stand_back r.body (at + 1) first (GoesOn (length (s ∷ second)) ∷ s ∷ second) h.1).1 in
      let here : at + 1 + length first + 1 ≡ suc at + (length first + 1) = omega arith in
      let place : suc at + (length first + 1) + length (s ∷ second) ≡ at + length (fork d first (s ∷ second)) = omega (arith, long) in
      follows_more code wide lo (hi + 1) lo (hi + 2) m (at_place routine at regs callers m.output) o (Comes routine (at + length (fork d first (s ∷ second))) callers R) (omega arith) (omega arith)
      (branch_goes lo hi at d (suc at + (length first + 1)) regs callers m o (at + length (fork d first (s ∷ second))) R h.0 e
      (follows_at code wide lo hi m (at_place routine (suc at + (length first + 1)) regs callers m.output) o routine (suc at + (length first + 1) + length (s ∷ second)) (at + length (fork d first (s ∷ second))) callers R place
      (f (suc at + (length first + 1)) (stand_moved r.body (at + 1 + length first + 1) (suc at + (length first + 1)) (s ∷ second) here back))))

  -- ---- releases

  pub clear_runs : {X : Type 0} (rs : List ℕ) (regs : Store) (callers : List Caller) (m : Meter) (x : X) (R : X → Store → Type 0) → R x (cleared regs rs) → Runs 0 1 m (Done x m) regs callers R (clear rs)
  clear_runs [] regs callers m x R ok p h = follows_more code wide 0 0 0 1 m (at_place routine p regs callers m.output) (Done x m) (Comes routine (p + 0) callers R) (omega arith) (omega arith) (follows_at code wide 0 0 m (at_place routine p regs callers m.output) (Done x m) routine p (p + 0) callers R (omega arith) (stays_last p regs callers m x R ok))
  clear_runs (q ∷ rs) regs callers m x R ok p h = does_last p (instr.Clear (q ∷ rs)) regs (cleared regs (q ∷ rs)) callers m x R h.0 refl ok
