-- How a run goes on behind single instructions, releases and forks, wherever it then leads.
use Rattle.std.proofs.Common.{◌≡◌, ◌≤◌, ◌⊎◌, inl, inr, ℕ, suc, ◌+◌, List, [], ◌∷◌, length, true, false, Some, refl, sym, ◌∙◌, ap, subst, arith, length-append}
use Rattle.wy_value.specs.Datum.{Truth}
use Rattle.wy_core.specs.formed.Bound.{Scope}
use Rattle.wy_code_spec.specs.wy_live.Sets.{Variables}
use Rattle.wy_code_spec.specs.wy_live.declared.walk.Ends.{Ends}
use Rattle.wy_code.specs.declared.routines.Code.{Code}
use Rattle.wy_code.specs.declared.routines.Routine.{Routine}
use Rattle.wy_code.specs.declared.instructions.Instr.{Instr}
use Rattle.wy_code.specs.declared.instructions.Instr.TheVariants as instr
use Rattle.wy_code.specs.declared.pieces.steps.Step.{Step}
use Rattle.wy_code.specs.declared.pieces.steps.Step.TheVariants.{GoesOn}
use Rattle.wy_code.specs.pieces.Steps.{clear, fork, over}
use Rattle.wy_vc_spec.specs.wy_sem.Meter.{Meter, Outcome, Done, Fault, More, Spent, Run, spend}
use Rattle.wy_vc_spec.specs.wy_sem.Expressions.{Store, slot}
use Rattle.wy_vc_spec.specs.wy_sem.Statements.{Exit, Went, Broke, Continued, Gave}
use Rattle.wy_code_spec.specs.step.Step.{State, Caller, after, step, effect, cleared, instr_at, GoesOn as goes_on}
use Rattle.wy_gen_laws.specs.Places.{StandAt, IsRoutine}
use Rattle.wy_gen_laws.specs.Follows.{Follows, at_place, Comes}
use Rattle.wy_gen_laws.proofs.PlaceLemmas.{stand_front, stand_back, stand_moved}
use Rattle.wy_gen_laws.proofs.FollowLemmas.{after_add, quiet_step, far_step, follows_step, follows_more, follows_spend}
use Rattle.wy_gen_laws.proofs.InstructionLemmas.{branch_on, branch_off}
use Rattle.wy_gen_laws.specs.statements.Led.{Kept, Places, Leads}

-- ---- at the end

-- where one property holds of the end, the other does there or one step later
pub follows_tail : {X : Type 0} (code : Code) (wide lo hi : ℕ) (m : Meter) (st : State) (o : Outcome X) (P Q : X → Meter → State → Type 0) → ((x : X) (k : Meter) (s : State) → P x k s → Q x k s ⊎ Q x k (step code s))
    → Follows code wide lo hi m st o P → Follows code wide lo (hi + 1) m st o Q
follows_tail code wide lo hi m st (Done x k) P Q g h = by (g x k (after code h.steps st) h.there)
  where
    by : Q x k (after code h.steps st) ⊎ Q x k (step code (after code h.steps st)) → Follows code wide lo (hi + 1) m st (Done x k) Q
    by (inl q) = record { steps = h.steps; spent = h.spent; total = h.total; least = h.least; most = let t = h.most in omega (arith, t); there = q }
    by (inr q) = record { steps = h.steps + 1; spent = h.spent; total = h.total; least = let t = h.least in omega (arith, t); most = let t = h.most in omega (arith, t); there = subst (λ (s : State). Q x k s) (sym (after_add code h.steps 1 st)) q }
follows_tail code wide lo hi m st (Fault kind at k) P Q g h = tt
follows_tail code wide lo hi m st (More k) P Q g h = record { steps = h.steps; least = h.least; most = let t = h.most in omega (arith, t); going = h.going }
follows_tail code wide lo hi m st Spent P Q g h = tt

module _ (code : Code) (f : ℕ) (callers : List Caller) (size : ℕ) (ws vs : Scope) (s : Variables) (ends : Ends) where
  -- the same places, said otherwise; or the one behind is a step from another
  pub tail_leads : (p q : Places) → ((p.after ≡ q.after) ⊎ ((regs : Store) (output : List ℕ) → step code (at_place f p.after regs callers output) ≡ at_place f q.after regs callers output)) → p.exit ≡ q.exit → p.again ≡ q.again
      → (x : Exit) (k : Meter) (st : State) → Leads f callers size p ws vs s ends x k st → Leads f callers size q ws vs s ends x k st ⊎ Leads f callers size q ws vs s ends x k (step code st)
  tail_leads p q (inl e) exits agains (Went t) k st h = inl (subst (λ (a : ℕ). Comes f a callers (Kept ws s size) t k st) e h)
  tail_leads p q (inr goes) exits agains (Went t) k st h = inr (record { regs = h.regs; is = ap (λ (u : State). step code u) h.is ∙ goes h.regs k.output; ok = h.ok })
  tail_leads p q e exits agains (Broke t) k st h = inl (subst (λ (a : ℕ). Comes f a callers (Kept vs ends.exit size) t k st) exits h)
  tail_leads p q e exits agains (Continued from t) k st h = inl (subst (λ (a : ℕ). Comes f a callers (Kept vs ends.again size) t k st) agains h)
  tail_leads p q e exits agains (Gave v) k st h = inl h

module _ (code : Code) (f : ℕ) (r : Routine) (there : IsRoutine code f r) (wide : ℕ) where
  -- ---- one instruction

  -- an instruction that goes on behind
  pub then_on : {X : Type 0} (lo hi at : ℕ) (i : Instr) (regs after_it : Store) (callers : List Caller) (m : Meter) (o : Outcome X) (Q : X → Meter → State → Type 0) → instr_at (Some r) at ≡ Some i → effect code.shapes i regs ≡ goes_on after_it []
      → Follows code wide lo hi m (at_place f (at + 1) after_it callers m.output) o Q → Follows code wide lo (hi + 1) m (at_place f at regs callers m.output) o Q
  then_on lo hi at i regs after_it callers m o Q stands does h =
      follows_step code wide lo (hi + 1) lo hi m (at_place f at regs callers m.output) (at_place f (at + 1) after_it callers m.output) o Q (quiet_step code f r there at i regs after_it callers m.output stands does) (omega arith) (omega arith) h

  -- a jump
  pub then_far : {X : Type 0} (lo hi lo2 at to : ℕ) (regs : Store) (callers : List Caller) (m : Meter) (o : Outcome X) (Q : X → Meter → State → Type 0) → instr_at (Some r) at ≡ Some (instr.Jump to) → lo2 ≤ lo + wide
      → Follows code wide lo2 hi m (at_place f to regs callers m.output) o Q → Follows code wide lo (hi + 1) m (at_place f at regs callers m.output) o Q
  then_far lo hi lo2 at to regs callers m o Q stands least h =
      follows_step code wide lo (hi + 1) lo2 hi m (at_place f at regs callers m.output) (at_place f to regs callers m.output) o Q (far_step code f r there at to (instr.Jump to) regs callers m.output stands refl) least (omega arith) h

  -- a branch, where the register is true, and where it is false
  pub branch_falls : {X : Type 0} (lo hi at d t : ℕ) (regs : Store) (callers : List Caller) (m : Meter) (o : Outcome X) (Q : X → Meter → State → Type 0) → instr_at (Some r) at ≡ Some (instr.Branch d t) → slot regs d ≡ Some (Truth true)
      → Follows code wide lo hi m (at_place f (at + 1) regs callers m.output) o Q → Follows code wide lo (hi + 1) m (at_place f at regs callers m.output) o Q
  branch_falls lo hi at d t regs callers m o Q stands e h = then_on lo hi at (instr.Branch d t) regs regs callers m o Q stands (branch_on code.shapes regs d t e) h

  pub branch_goes : {X : Type 0} (lo hi at d t : ℕ) (regs : Store) (callers : List Caller) (m : Meter) (o : Outcome X) (Q : X → Meter → State → Type 0) → instr_at (Some r) at ≡ Some (instr.Branch d t) → slot regs d ≡ Some (Truth false)
      → Follows code wide lo hi m (at_place f t regs callers m.output) o Q → Follows code wide lo (hi + 1) m (at_place f at regs callers m.output) o Q
  branch_goes lo hi at d t regs callers m o Q stands e h =
      follows_step code wide lo (hi + 1) lo hi m (at_place f at regs callers m.output) (at_place f t regs callers m.output) o Q (far_step code f r there at t (instr.Branch d t) regs callers m.output stands (branch_off code.shapes regs d t e)) (omega arith) (omega arith) h

  -- ---- releases

  pub then_cleared : {X : Type 0} (lo hi at : ℕ) (rs : List ℕ) (regs : Store) (callers : List Caller) (m : Meter) (o : Outcome X) (Q : X → Meter → State → Type 0) → StandAt r.body at (clear rs)
      → Follows code wide lo hi m (at_place f (at + length (clear rs)) (cleared regs rs) callers m.output) o Q → Follows code wide lo (hi + 1) m (at_place f at regs callers m.output) o Q
  then_cleared lo hi at [] regs callers m o Q stands h =
      let same : at + 0 ≡ at = omega arith in
      follows_more code wide lo hi lo (hi + 1) m (at_place f at regs callers m.output) o Q (omega arith) (omega arith) (subst (λ (p : ℕ). Follows code wide lo hi m (at_place f p regs callers m.output) o Q) same h)
  then_cleared lo hi at (q ∷ rs) regs callers m o Q stands h = then_on lo hi at (instr.Clear (q ∷ rs)) regs (cleared regs (q ∷ rs)) callers m o Q stands.0 refl h

  -- ---- ticks

  -- a tick, for which 16 steps may be made
  pub then_paid : {X : Type 0} (lo hi total at : ℕ) (regs : Store) (callers : List Caller) (m : Meter) (next : Run X) (Q : X → Meter → State → Type 0) → suc lo ≤ total → hi ≤ 16
      → ((k : Meter) → k.output ≡ m.output → suc k.ticks ≡ m.ticks → Follows code wide lo hi k (at_place f at regs callers k.output) (next k) Q) → Follows code wide total 0 m (at_place f at regs callers m.output) (spend true next m) Q
  then_paid lo hi total at regs callers m next Q least most h =
      follows_more code wide (suc lo) 0 total 0 m (at_place f at regs callers m.output) (spend true next m) Q least (omega arith)
      (follows_spend code wide lo 0 m (at_place f at regs callers m.output) next Q refl
      (λ t e. follows_more code wide lo hi lo 16 (record m { ticks = t }) (at_place f at regs callers m.output) (next (record m { ticks = t })) Q (omega arith) most (h (record m { ticks = t }) refl (sym e))))

  -- ---- forks

  -- the run of a piece of code, wherever it stands: it leads behind itself, or so far behind its end
  abbrev pub Runs : ℕ → ℕ → Meter → Outcome Exit → Store → List Caller → ℕ → (ws vs : Scope) → Variables → Ends → (exit again : ℕ) → List Step → Type 0
  Runs lo hi m o regs callers size ws vs s ends exit again steps =
      (p : ℕ) → StandAt r.body p steps → Follows code wide lo hi m (at_place f p regs callers m.output) o (Leads f callers size (record { after = p + length steps; exit = p + length steps + exit; again = p + length steps + again }) ws vs s ends)

  module _ (lo hi at d : ℕ) (regs : Store) (callers : List Caller) (m : Meter) (o : Outcome Exit) (size : ℕ) (ws vs : Scope) (s : Variables) (ends : Ends) (exit again : ℕ) where
    -- the places of a fork of this length
    abbrev pub Forked : ℕ → Exit → Meter → State → Type 0
    Forked long = Leads f callers size (record { after = at + long; exit = at + long + exit; again = at + long + again }) ws vs s ends

    -- the places of a piece of this length at this place, so far behind whose end the others are
    abbrev pub Piece : (at long exit again : ℕ) → Places
    Piece at long exit again = record { after = at + long; exit = at + long + exit; again = at + long + again }

    -- a piece whose end is that of the fork, or a jump before it
    ends_so : (p : Places) (long : ℕ) (st : State) → ((p.after ≡ at + long) ⊎ ((regs2 : Store) (output : List ℕ) → step code (at_place f p.after regs2 callers output) ≡ at_place f (at + long) regs2 callers output)) → p.exit ≡ at + long + exit → p.again ≡ at + long + again
        → Follows code wide lo hi m st o (Leads f callers size p ws vs s ends) → Follows code wide lo (hi + 1) m st o (Forked long)
    ends_so p long st after exits agains h =
        follows_tail code wide lo hi m st o (Leads f callers size p ws vs s ends) (Forked long) (tail_leads code f callers size ws vs s ends p (Piece at long exit again) after exits agains) h

    pub fork_on : (first second : List Step) → StandAt r.body at (fork d first second) → slot regs d ≡ Some (Truth true) → Runs lo hi m o regs callers size ws vs s ends (over second + exit) (over second + again) first
        → Follows code wide lo (hi + 2) m (at_place f at regs callers m.output) o (Forked (length (fork d first second)))
    fork_on [] [] h e run =
        follows_more code wide lo (hi + 1) lo (hi + 2) m (at_place f at regs callers m.output) o (Forked 0) (omega arith) (omega arith)
        (ends_so (Piece at 0 (0 + exit) (0 + again)) 0 (at_place f at regs callers m.output) (inl refl) (omega arith) (omega arith) (run at tt))
    fork_on (q ∷ first) [] h e run =
        let long = length (q ∷ first) in
        follows_more code wide lo (hi + 1 + 1) lo (hi + 2) m (at_place f at regs callers m.output) o (Forked (suc long)) (omega arith) (omega arith)
        (branch_falls lo (hi + 1) at d (suc at + long) regs callers m o (Forked (suc long)) h.0 e
        (ends_so (Piece (at + 1) long (0 + exit) (0 + again)) (suc long) (at_place f (at + 1) regs callers m.output) (inl (omega arith)) (omega arith) (omega arith) (run (at + 1) h.1)))
    fork_on first (q ∷ second) h e run =
        let far = length (q ∷ second) in
        let to = suc (at + 1 + length first) + far in
        let total = length (fork d first (q ∷ second)) in
        let jump : instr_at (Some r) (at + 1 + length first) ≡ Some (instr.Jump to) = (stand_back r.body (at + 1) first (GoesOn far ∷ q ∷ second) h.1).0 in
        let long = length-append first (GoesOn far ∷ q ∷ second) in
        let place : to ≡ at + total = omega (arith, long) in
        follows_more code wide lo (hi + 1 + 1) lo (hi + 2) m (at_place f at regs callers m.output) o (Forked total) (omega arith) (omega arith)
        (branch_falls lo (hi + 1) at d (suc at + (length first + 1)) regs callers m o (Forked total) h.0 e
        (ends_so (Piece (at + 1) (length first) (suc far + exit) (suc far + again)) total (at_place f (at + 1) regs callers m.output)
        (inr (λ regs2 output. far_step code f r there (at + 1 + length first) to (instr.Jump to) regs2 callers output jump refl ∙ ap (λ (p : ℕ). at_place f p regs2 callers output) place))
        (omega (arith, long)) (omega (arith, long))
        (run (at + 1) (stand_front r.body (at + 1) first (GoesOn far ∷ q ∷ second) h.1))))

    pub fork_off : (first second : List Step) → StandAt r.body at (fork d first second) → slot regs d ≡ Some (Truth false) → Runs lo hi m o regs callers size ws vs s ends exit again second
        → Follows code wide lo (hi + 2) m (at_place f at regs callers m.output) o (Forked (length (fork d first second)))
    fork_off [] [] h e run =
        follows_more code wide lo (hi + 1) lo (hi + 2) m (at_place f at regs callers m.output) o (Forked 0) (omega arith) (omega arith)
        (ends_so (Piece at 0 exit again) 0 (at_place f at regs callers m.output) (inl refl) refl refl (run at tt))
    fork_off (q ∷ first) [] h e run =
        let long = length (q ∷ first) in
        follows_more code wide lo (hi + 1 + 1) lo (hi + 2) m (at_place f at regs callers m.output) o (Forked (suc long)) (omega arith) (omega arith)
        (branch_goes lo (hi + 1) at d (suc at + long) regs callers m o (Forked (suc long)) h.0 e
        (ends_so (Piece (suc at + long) 0 exit again) (suc long) (at_place f (suc at + long) regs callers m.output) (inl (omega arith)) (omega arith) (omega arith) (run (suc at + long) tt)))
    fork_off first (q ∷ second) h e run =
        let far = length (q ∷ second) in
        let total = length (fork d first (q ∷ second)) in
        let to = suc at + (length first + 1) in
        let long = length-append first (GoesOn far ∷ q ∷ second) in
        let back = (stand_back r.body (at + 1) first (GoesOn far ∷ q ∷ second) h.1).1 in
        let here : at + 1 + length first + 1 ≡ to = omega arith in
        follows_more code wide lo (hi + 1 + 1) lo (hi + 2) m (at_place f at regs callers m.output) o (Forked total) (omega arith) (omega arith)
        (branch_goes lo (hi + 1) at d to regs callers m o (Forked total) h.0 e
        (ends_so (Piece to far exit again) total (at_place f to regs callers m.output) (inl (omega (arith, long))) (omega (arith, long)) (omega (arith, long))
        (run to (stand_moved r.body (at + 1 + length first + 1) to (q ∷ second) here back))))
