-- The test of a declared type: a call of its routine, which tests the definition and then the clauses.
use Rattle.std.proofs.Common.{◌≡◌, ◌<◌, ◌≤◌, ℕ, zero, suc, ◌+◌, ◌-◌, List, [], ◌∷◌, ◌++◌, length, Bool, true, false, Option, Some, None, refl, ◌∙◌, ap, subst, arith}
use Rattle.std.specs.Prelude.{◌≢◌, max}
use Rattle.wy_value.specs.Datum.{Datum, Truth}
use Rattle.wy_core.specs.CoreTree as tree
use Rattle.wy_core.specs.formed.Sizes.{size_ty}
use Rattle.wy_code_spec.specs.wy_live.Sets.{with}
use Rattle.wy_code.specs.declared.instructions.Instr.{Instr}
use Rattle.wy_code.specs.declared.instructions.Instr.TheVariants as instr
use Rattle.wy_code.specs.declared.routines.Routine.{Routine}
use Rattle.wy_code.specs.declared.routines.Code.{Code}
use Rattle.wy_code_spec.specs.declared.tables.context.Context.{Context}
use Rattle.wy_code.specs.declared.pieces.steps.Step.{Step}
use Rattle.wy_code.specs.declared.pieces.steps.Step.TheVariants.{Does}
use Rattle.wy_code.specs.pieces.Steps.{dropped, fork}
use Rattle.wy_code_spec.specs.compiled.TypeTests.{test, named_test}
use Rattle.wy_code_spec.specs.compiled.Programs.{clauses_steps, variable_of, taken, type_steps_at, type_routine}
use Rattle.wy_vc_spec.specs.wy_sem.Meter.{Meter, Outcome, Done, Fault, More, Spent, ◌>>=◌, choose}
use Rattle.wy_vc_spec.specs.wy_sem.Expressions.{Store, slot, put}
use Rattle.wy_vc_spec.specs.wy_sem.TypeTests.{Test, answer, both}
use Rattle.wy_code_spec.specs.step.Step.{State, Caller, Effect, GoesOn as goes_on, Calls, Returns, effect, there as where_there, stepped, entered, empties, entry_registers, instr_at, step}
use Rattle.wy_gen_laws.specs.Places.{StandAt, IsRoutine}
use Rattle.wy_gen_laws.specs.Follows.{Follows, at_place, Comes}
use Rattle.wy_gen_laws.proofs.PlaceLemmas.{stand_front, stand_back, placed_stand}
use Rattle.wy_gen_laws.proofs.StoreLemmas.{put_here, put_other, put_size}
use Rattle.wy_gen_laws.proofs.FollowLemmas.{one_step, quiet_step, follows_step, follows_end, follows_more, follows_then, follows_at, follows_choose}
use Rattle.wy_gen_laws.proofs.SpareLemmas.{leaves_then}
use Rattle.wy_gen_laws.proofs.InstructionLemmas.{share_does, move_does}
use Rattle.wy_gen_laws.proofs.PieceLemmas.{stays_last, fork_on, fork_off}
use Rattle.wy_gen_laws.specs.expressions.Standing.{with_table}
use Rattle.wy_gen_laws.specs.expressions.Rests.{Told}
use Rattle.wy_gen_laws.proofs.expressions_lemmas.PartLemmas.{room_at}
use Rattle.wy_gen_laws.proofs.tests_lemmas.StructureLemmas.{IsTested}
use Rattle.wy_gen_laws.proofs.tests_lemmas.ClauseLemmas.{Inner}
use Rattle.wy_gen_laws.proofs.expressions_lemmas.OperandLemmas.{bind_done}

many_empties : (n : ℕ) → length (empties n) ≡ n
many_empties zero = refl
many_empties (suc n) = ap suc (many_empties n)

module _ (mach : Code) (f : ℕ) (r : Routine) (there : IsRoutine mach f r) (wide : ℕ) (callers : List Caller) where
  -- an instruction that goes on behind, and then what follows, wherever that comes
  plain_then : {X : Type 0} (lo hi at : ℕ) (i : Instr) (regs after_it : Store) (m : Meter) (o : Outcome X) (Q : X → Meter → State → Type 0) → instr_at (Some r) at ≡ Some i → effect mach.shapes i regs ≡ goes_on after_it []
      → Follows mach wide lo hi m (at_place f (at + 1) after_it callers m.output) o Q → Follows mach wide lo (hi + 1) m (at_place f at regs callers m.output) o Q
  plain_then lo hi at i regs after_it m o Q stands does h =
      follows_step mach wide lo (hi + 1) lo hi m (at_place f at regs callers m.output) (at_place f (at + 1) after_it callers m.output) o Q (quiet_step mach f r there at i regs after_it callers m.output stands does) (omega arith) (omega arith) h

  -- the argument goes into the variable
  taken_then : {X : Type 0} (x lo hi : ℕ) (rest : List Step) (entry : Store) (d : Datum) (m : Meter) (o : Outcome X) (Q : X → Meter → State → Type 0) → slot entry 0 ≡ Some d → length entry ≡ r.registers → StandAt r.body 0 (taken x ++ rest)
      → ((p : ℕ) (regs : Store) → p + length rest ≡ length (taken x ++ rest) → StandAt r.body p rest → slot regs x ≡ Some d → length regs ≡ r.registers → Follows mach wide lo hi m (at_place f p regs callers m.output) o Q)
      → Follows mach wide lo (hi + 1) m (at_place f 0 entry callers m.output) o Q
  taken_then zero lo hi rest entry d m o Q held whole stands h =
      follows_more mach wide lo hi lo (hi + 1) m (at_place f 0 entry callers m.output) o Q (omega arith) (omega arith) (h 0 entry (omega arith) stands held whole)
  taken_then (suc x) lo hi rest entry d m o Q held whole stands h =
      let regs = put (put entry 0 None) (suc x) (Some d) in
      let room : suc x < r.registers = room_at mach f r there 0 (suc x) (instr.Move (suc x) 0) (0 ∷ []) stands.0 refl in
      let size : length (put entry 0 None) ≡ length entry = put_size entry 0 None in
      plain_then lo hi 0 (instr.Move (suc x) 0) entry regs m o Q stands.0 (move_does mach.shapes entry (suc x) 0 d held)
      (h (0 + 1) regs (omega arith) stands.1 (put_here (put entry 0 None) (suc x) (Some d) (omega (arith, room, size, whole))) (put_size (put entry 0 None) (suc x) (Some d) ∙ size ∙ whole))

module _ (c : Context) (routines : List Routine) (wide : ℕ) (n : ℕ) (a : tree.Alias ℕ) (here : IsRoutine (with_table c routines) (length c.results + n) (type_routine c a)) (d : Datum) where
  abbrev mach : Code
  mach = with_table c routines

  abbrev F : ℕ
  F = length c.results + n

  abbrev R : Routine
  R = type_routine c a

  -- the register of the value, and the first one behind the variables
  abbrev x : ℕ
  x = variable_of a.variable

  abbrev z : ℕ
  z = max 1 (length a.variables)

  abbrev CL : List Step
  CL = clauses_steps c a.clauses (with [] x) z

  -- the clauses are followed wherever their code stands in the routine
  abbrev pub ClausesFollow : ℕ → Test → Type 0
  ClausesFollow lo B = (p : ℕ) (regs : Store) (callers : List Caller) (m : Meter) → Inner (variable_of a.variable) (max 1 (length a.variables)) (type_routine c a).registers d true regs → StandAt (type_routine c a).body p (clauses_steps c a.clauses (with [] (variable_of a.variable)) (max 1 (length a.variables)))
      → Follows (with_table c routines) wide lo 0 m (at_place (length c.results + n) p regs callers m.output) (B m) (Comes (length c.results + n) (p + length (clauses_steps c a.clauses (with [] (variable_of a.variable)) (max 1 (length a.variables)))) callers (Inner (variable_of a.variable) (max 1 (length a.variables)) (type_routine c a).registers d))

  abbrev last_steps : List Step
  last_steps = dropped x (suc z) ++ Does (instr.Return z) ∷ []

  abbrev mid_steps : List Step
  mid_steps = fork z CL [] ++ last_steps

  abbrev asked : List Step
  asked = test c a.ty x z (suc z)

  call_effect : (g q : ℕ) (regs : Store) → slot regs g ≡ Some d → effect c.table (instr.Call q F (g ∷ [])) regs ≡ Calls q F (d ∷ []) (put regs g None)
  call_effect g q regs held = ap (λ (o : Option Datum). where_there o (λ v. Calls q F (v ∷ []) (put regs g None))) held

  module _ (x_below : x < z) (A B : Test) (lo : ℕ) (small : size_ty a.ty + lo ≤ wide) (one : IsTested c routines wide A a.ty d) (two : ClausesFollow lo B) (f : ℕ) (r : Routine) (there : IsRoutine (with_table c routines) f r) (v q g at : ℕ) (regs : Store) (callers : List Caller)
      (held : slot regs v ≡ Some d) (va : v < g) (qa : q < g) (other : v ≢ q) (whole : length regs ≡ r.registers) (stands : StandAt r.body at (named_test c n v q g)) where
    -- the registers of the caller before and behind the call
    abbrev regs1 : Store
    regs1 = put regs g (Some d)

    abbrev regs2 : Store
    regs2 = put regs1 g None

    abbrev back : Caller
    back = record { frame = record { routine = f; at = at + 1 + 1; registers = regs2 }; target = q }

    abbrev cs : List Caller
    cs = back ∷ callers

    abbrev Q : Bool → Meter → State → Type 0
    Q = Comes f (at + 2) callers (Told q g regs)

    g_room : g < r.registers
    g_room = room_at mach f r there at g (instr.Share g v) (v ∷ []) stands.0 refl

    told : (b : Bool) → Told q g regs b (put regs2 q (Some (Truth b)))
    told b = record {
      value = put_here regs2 q (Some (Truth b)) (let a = put_size regs1 g None in let e = put_size regs g (Some d) in let l = g_room in omega (arith, a, e, l, qa, whole));
      kept = λ t l o. put_other regs2 q t (Some (Truth b)) o ∙ put_other regs1 g t None (λ e. absurd (omega (arith, l, e))) ∙ put_other regs g t (Some d) (λ e. absurd (omega (arith, l, e)));
      size = put_size regs2 q (Some (Truth b)) ∙ put_size regs1 g None ∙ put_size regs g (Some d);
    }

    -- the value is released, and the answer returned
    leaving : (p : ℕ) (last : Store) (m : Meter) (b : Bool) → Inner x z R.registers d b last → StandAt R.body p last_steps → Follows mach wide 0 3 m (at_place F p last cs m.output) (Done b m) Q
    leaving p last m b inner stood =
        let last1 = put (put last x None) (suc z) (Some d) in
        let last2 = put last1 (suc z) None in
        let said : slot last2 z ≡ Some (Truth b) = put_other last1 (suc z) z None (λ e. absurd (omega (arith, e))) ∙ put_other (put last x None) (suc z) z (Some d) (λ e. absurd (omega (arith, e))) ∙ put_other last x z None (λ e. absurd (omega (arith, e, x_below))) ∙ inner.answer in
        let gives : step mach (at_place F (p + 1 + 1) last2 cs m.output) ≡ at_place f (at + 1 + 1) (put regs2 q (Some (Truth b))) callers m.output =
        one_step mach F R here (p + 1 + 1) (instr.Return z) last2 cs m.output stood.1.1.0 ∙ ap (λ (o : Option Datum). stepped mach (record { routine = F; at = p + 1 + 1; registers = last2 }) cs m.output (where_there o Returns)) said in
        let goal : at + 1 + 1 ≡ at + 2 = omega arith in
        plain_then mach F R here wide cs 0 2 p (instr.Move (suc z) x) last last1 m (Done b m) Q stood.0 (move_does mach.shapes last (suc z) x d inner.held)
        (plain_then mach F R here wide cs 0 1 (p + 1) (instr.Clear (suc z ∷ [])) last1 last2 m (Done b m) Q stood.1.0 refl
        (follows_step mach wide 0 1 0 0 m (at_place F (p + 1 + 1) last2 cs m.output) (at_place f (at + 1 + 1) (put regs2 q (Some (Truth b))) callers m.output) (Done b m) Q gives (omega arith) (omega arith)
        (follows_end mach wide 0 0 m (at_place f (at + 1 + 1) (put regs2 q (Some (Truth b))) callers m.output) b Q (record { regs = put regs2 q (Some (Truth b)); is = ap (λ (p : ℕ). at_place f p (put regs2 q (Some (Truth b))) callers m.output) goal; ok = told b }))))

    -- the clauses, where the definition said yes
    choosing : (p : ℕ) (last : Store) (m : Meter) (b : Bool) → Inner x z R.registers d b last → StandAt R.body p (fork z CL []) → Follows mach wide lo 2 m (at_place F p last cs m.output) (choose b B (answer false) m) (Comes F (p + length (fork z CL [])) cs (Inner x z R.registers d))
    choosing p last m b inner stood =
        let O = Comes F (p + length (fork z CL [])) cs (Inner x z R.registers d) in
        follows_choose mach wide lo 2 m (at_place F p last cs m.output) b B (answer false) O
        (λ yes. let so = subst (λ (t : Bool). Inner x z R.registers d t last) yes inner in
        fork_on mach F R here wide lo 0 p z CL [] last cs m (B m) (Inner x z R.registers d) stood so.answer (λ e h. two e last cs m so h))
        (λ no. let so = subst (λ (t : Bool). Inner x z R.registers d t last) no inner in
        follows_more mach wide 0 2 lo 2 m (at_place F p last cs m.output) (Done false m) O (omega arith) (omega arith)
        (fork_off mach F R here wide 0 0 p z CL [] last cs m (Done false m) (Inner x z R.registers d) stood so.answer
        (λ e h. follows_at mach wide 0 0 m (at_place F e last cs m.output) (Done false m) F e (e + 0) cs (Inner x z R.registers d) (omega arith) (stays_last mach F R here wide e last cs m false (Inner x z R.registers d) so))))

    -- the whole routine, behind taking the argument
    inside : (p : ℕ) (first : Store) (m : Meter) → slot first x ≡ Some d → length first ≡ R.registers → StandAt R.body p (asked ++ mid_steps) → Follows mach wide (size_ty a.ty + lo) 3 m (at_place F p first cs m.output) (both A B m) Q
    inside p first m holds long stood =
        let e = p + length asked in
        let behind : StandAt R.body e mid_steps = stand_back R.body p asked mid_steps stood in
        let e2 = e + length (fork z CL []) in
        let O = Comes F e2 cs (Inner x z R.registers d) in
        let ending : StandAt R.body e2 last_steps = stand_back R.body e (fork z CL []) last_steps behind in
        subst (λ (o : Outcome Bool). Follows mach wide (size_ty a.ty + lo) 3 m (at_place F p first cs m.output) o Q) (bind_done (both A B m))
        (follows_then mach wide (size_ty a.ty + lo) 0 0 3 (size_ty a.ty + lo) 3 m (at_place F p first cs m.output) (both A B m) (λ b k. Done b k) F e2 cs (Inner x z R.registers d) Q (omega arith) (omega arith)
        (leaves_then mach wide (size_ty a.ty) 9 lo 2 (size_ty a.ty + lo) 0 m (at_place F p first cs m.output) (A m) (λ b. choose b B (answer false)) F e cs (Told z (suc z) first) O (omega arith) (omega arith)
        (one F R here x z (suc z) p first cs m holds (omega (arith, x_below)) (omega arith) (λ same. absurd (omega (arith, same, x_below))) long (stand_front R.body p asked mid_steps stood))
        (λ b k last le t. choosing e last k b (record { answer = t.value; held = t.kept x (omega (arith, x_below)) (λ same. absurd (omega (arith, same, x_below))) ∙ holds; size = t.size ∙ long }) (stand_front R.body e (fork z CL []) last_steps behind)))
        (λ b k last le inner. leaving e2 last k b inner ending))

    -- the call
    pub named_called : (m : Meter) → Follows (with_table c routines) wide 0 7 m (at_place f at regs callers m.output) (both A B m) (Comes f (at + 2) callers (Told q g regs))
    named_called m =
        let entry = entry_registers R (d ∷ []) in
        let whole_steps = type_steps_at c a x z in
        let stood : StandAt R.body 0 whole_steps = placed_stand whole_steps in
        let given : slot regs1 g ≡ Some d = put_here regs g (Some d) (let l = g_room in omega (arith, l, whole)) in
        let enters : step mach (at_place f (at + 1) regs1 callers m.output) ≡ at_place F 0 entry cs m.output =
        one_step mach f r there (at + 1) (instr.Call q F (g ∷ [])) regs1 callers m.output stands.1.0
        ∙ ap (λ (e : Effect). stepped mach (record { routine = f; at = at + 1; registers = regs1 }) callers m.output e) (call_effect g q regs1 given)
        ∙ ap (λ (o : Option Routine). entered o F (d ∷ []) cs m.output) here.is in
        let z_room : 0 < R.registers = room_somewhere in
        let long : length entry ≡ R.registers = let e = many_empties (R.registers - 1) in omega (arith, e, z_room) in
        plain_then mach f r there wide callers 0 6 at (instr.Share g v) regs regs1 m (both A B m) Q stands.0 (share_does mach.shapes regs g v d held)
        (follows_step mach wide 0 6 (size_ty a.ty + lo) 4 m (at_place f (at + 1) regs1 callers m.output) (at_place F 0 entry cs m.output) (both A B m) Q enters (omega (arith, small)) (omega arith)
        (taken_then mach F R here wide cs x (size_ty a.ty + lo) 3 (asked ++ mid_steps) entry d m (both A B m) Q refl long stood
        (λ p first e standing holds long2. inside p first m holds long2 standing)))
      where
        -- the last instruction names a register, so there is one
        room_somewhere : 0 < (type_routine c a).registers
        room_somewhere =
            let whole_steps = type_steps_at c a x z in
            let stood : StandAt R.body 0 (taken x ++ (asked ++ mid_steps)) = placed_stand whole_steps in
            let b1 = stand_back R.body 0 (taken x) (asked ++ mid_steps) stood in
            let b2 = stand_back R.body (0 + length (taken x)) asked mid_steps b1 in
            let b3 = stand_back R.body (0 + length (taken x) + length asked) (fork z CL []) last_steps b2 in
            let l = room_at mach F R here (0 + length (taken x) + length asked + length (fork z CL []) + 1 + 1) z (instr.Return z) [] b3.1.1.0 refl in
            omega (arith, l)
