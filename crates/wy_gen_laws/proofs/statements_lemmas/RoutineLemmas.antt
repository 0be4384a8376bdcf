-- Calls of functions and methods follow, by induction on how deep they nest.
use Rattle.std.proofs.Common.{◌≡◌, ◌<◌, ◌≤◌, ℕ, zero, suc, ◌+◌, List, [], ◌∷◌, ◌++◌, length, Bool, true, false, cond, nat_eq, Option, Some, None, refl, sym, ◌∙◌, ap, subst, arith}
use Rattle.std.specs.Prelude.{slice_get, is_some}
use Rattle.std.proofs.lemmas.Bool.Decides.{nat_tests}
use Rattle.wy_value.specs.Datum.{Datum}
use Rattle.wy_core.specs.CoreTree as tree
use Rattle.wy_core.specs.CoreTree.{Param, Core, aliases_of, routines_of}
use Rattle.wy_term.specs.declared.cond.CondKind.TheVariants as kind
use Rattle.wy_core.specs.formed.Offers.{Offers}
use Rattle.wy_core.specs.formed.Bound.{with_params}
use Rattle.wy_code_spec.specs.wy_live.Sets.{Variables}
use Rattle.wy_code_spec.specs.wy_live.Walks.{live_all, nothing}
use Rattle.wy_code.specs.declared.routines.Routine.{Routine}
use Rattle.wy_code.specs.declared.routines.Code.{Code}
use Rattle.wy_code_spec.specs.declared.tables.context.Context.{Context}
use Rattle.wy_code_spec.specs.declared.tables.targets.Target.TheVariants as target
use Rattle.wy_code_spec.specs.tables.Tables as tables
use Rattle.wy_code_spec.specs.tables.Tables.{context_of, results_of}
use Rattle.wy_code.specs.declared.pieces.steps.Step.{Step}
use Rattle.wy_code.specs.pieces.Steps.{clear}
use Rattle.wy_code_spec.specs.compiled.Ranges.{IsFramed}
use Rattle.wy_code_spec.specs.compiled.Statements.{gives_null, stmts_code}
use Rattle.wy_code_spec.specs.compiled.Programs.{unused_params, body_steps, body_routine, body_routines, type_routines, code_of}
use Rattle.wy_code_spec.proofs.compiled_lemmas.RoutineLemmas.{all_framed}
use Rattle.wy_vc_spec.specs.wy_sem.kept.Kept.{ListProper}
use Rattle.wy_vc_spec.specs.wy_sem.Meter.{Meter, Outcome, More, Run, ◌>>=◌, tick, spend}
use Rattle.wy_vc_spec.specs.wy_sem.Expressions.{Store, Setting, clauses}
use Rattle.wy_vc_spec.specs.wy_sem.Statements as sem
use Rattle.wy_vc_spec.specs.wy_sem.Statements.{Exit, Went, Broke, Continued, Gave, leave, exec_all}
use Rattle.wy_vc_spec.specs.wy_sem.Evaluation as evaluation
use Rattle.wy_vc_spec.specs.wy_sem.Evaluation.{Callee, callee, bound, entry_of, arguments, result_given, result_of, frame_of, routine_call, called, run, print_call, print_int_call}
use Rattle.wy_code_spec.specs.step.Step.{State, Stuck, Caller, entered, entry_registers, cleared}
use Rattle.wy_gen_laws.specs.Places.{StandAt, IsRoutine}
use Rattle.wy_gen_laws.specs.Follows.{Follows, at_place}
use Rattle.wy_gen_laws.proofs.PlaceLemmas.{placed_stand, stand_front, stand_back, all_at}
use Rattle.wy_gen_laws.proofs.FollowLemmas.{follows_bind, follows_more, follows_end, follows_check}
use Rattle.wy_gen_laws.specs.expressions.Standing.{with_table, AreKnown}
use Rattle.wy_gen_laws.specs.statements.Parts.{cost_all}
use Rattle.wy_gen_laws.specs.statements.Led.{Left, Leads, places}
use Rattle.wy_gen_laws.specs.statements.Routines.{StillParams, setting_of, owed_of, CallsNest, RoutineFits, RoutinesFit, RoutinesAreFollowed}
use Rattle.wy_gen_laws.proofs.statements_lemmas.StillLemmas.{follows_given, follows_clauses, follows_leave}
use Rattle.wy_gen_laws.proofs.statements_lemmas.StepLemmas.{then_cleared}
use Rattle.wy_gen_laws.proofs.statements_lemmas.ValueLemmas.{gives_nothing}
use Rattle.wy_gen_laws.proofs.statements_lemmas.EntryLemmas.{entry_kept, params_below}
use Rattle.wy_gen_laws.proofs.statements_lemmas.StatementLemmas.{statements_led}

-- ---- what numbers call

-- the function or method with a number, in the program and in the code
record Called (c : Context) (P : ℕ → tree.Routine ℕ → Type 0) (rs : List (tree.Routine ℕ)) (more : List Routine) (g k : ℕ) : Type 0 where
  pub routine : tree.Routine ℕ
  pub calls : callee rs g ≡ evaluation.Declared routine
  pub stands : slice_get (body_routines c rs ++ more) g ≡ Some (body_routine c routine)
  pub fits : P (k + g) routine

abbrev Each : (ℕ → tree.Routine ℕ → Type 0) → ℕ → List (tree.Routine ℕ) → Type 0
Each P k [] = Unit {0}
Each P k (r ∷ rs) = P k r × Each P (suc k) rs

declared_at : (c : Context) (P : ℕ → tree.Routine ℕ → Type 0) (rs : List (tree.Routine ℕ)) (more : List Routine) (g k : ℕ) (gives : Bool) → Each P k rs → tables.target (results_of rs) g ≡ target.Declared gives → Called c P rs more g k
declared_at c P [] more zero k gives h e = absurd cc
declared_at c P [] more (suc zero) k gives h e = absurd cc
declared_at c P [] more (suc (suc g)) k gives h e = absurd cc
declared_at c P (r ∷ rs) more zero k gives h e = record { routine = r; calls = refl; stands = refl; fits = subst (λ (i : ℕ). P i r) (let z : k ≡ k + 0 = omega arith in z) h.0 }
declared_at c P (r ∷ rs) more (suc g) k gives h e =
    let one = declared_at c P rs more g (suc k) gives h.1 e in
    record { routine = one.routine; calls = one.calls; stands = one.stands; fits = subst (λ (i : ℕ). P i one.routine) (let z : suc k + g ≡ k + suc g = omega arith in z) one.fits }

prints_at : (rs : List (tree.Routine ℕ)) (g : ℕ) → tables.target (results_of rs) g ≡ target.Prints → callee rs g ≡ evaluation.Print
prints_at [] zero e = refl
prints_at [] (suc zero) e = absurd cc
prints_at [] (suc (suc g)) e = absurd cc
prints_at (r ∷ rs) zero e = absurd cc
prints_at (r ∷ rs) (suc g) e = prints_at rs g e

prints_int_at : (rs : List (tree.Routine ℕ)) (g : ℕ) → tables.target (results_of rs) g ≡ target.PrintsInt → callee rs g ≡ evaluation.PrintInt
prints_int_at [] zero e = absurd cc
prints_int_at [] (suc zero) e = refl
prints_int_at [] (suc (suc g)) e = absurd cc
prints_int_at (r ∷ rs) zero e = absurd cc
prints_int_at (r ∷ rs) (suc g) e = prints_int_at rs g e

nothing_at : (rs : List (tree.Routine ℕ)) (g : ℕ) → tables.target (results_of rs) g ≡ target.Nothing → callee rs g ≡ evaluation.Undeclared
nothing_at [] zero e = absurd cc
nothing_at [] (suc zero) e = absurd cc
nothing_at [] (suc (suc g)) e = refl
nothing_at (r ∷ rs) zero e = absurd cc
nothing_at (r ∷ rs) (suc g) e = nothing_at rs g e

-- ---- one routine

module _ (place : ℕ → ℕ) (core : Core ℕ) (o : Offers) (wide g : ℕ) (r0 : tree.Routine ℕ) (fits : RoutineFits place core o wide g r0) (stands : slice_get (code_of core).routines g ≡ Some (body_routine (context_of core) r0)) (j most : ℕ) (calls : CallsNest place core wide j most) where
  abbrev c : Context
  c = context_of core

  abbrev mach : Code
  mach = with_table c (code_of core).routines

  abbrev r : Routine
  r = body_routine c r0

  abbrev w : Setting ℕ
  w = setting_of place core j

  framed : IsFramed r
  framed = all_at IsFramed (code_of core).routines g r (all_framed core) stands

  there : IsRoutine mach g r
  there = record { is = stands; room = framed.registers }

  abbrev used : Variables
  used = live_all r0.body [] nothing

  abbrev n : ℕ
  n = length r0.variables

  abbrev release : List Step
  release = clear (unused_params used r0.params)

  abbrev block : List Step
  block = stmts_code c r0.body [] nothing n 0 0

  all_there : StandAt r.body 0 (release ++ (block ++ gives_null n))
  all_there = placed_stand (body_steps c r0)

  module _ (vs : List Datum) (many : length vs ≡ length r0.params) (proper : ListProper vs) (callers : List Caller) where
    abbrev fr : sem.Frame ℕ
    fr = frame_of (owed_of place core) r0 vs

    room : length vs ≤ r.registers
    room = let h = framed.params in omega (arith, h, many)

    -- what the body gives
    result_follows : (p : ℕ) (at : ℕ) (x : Exit) (k : Meter) (st : State) → StandAt r.body p (gives_null n) → Leads g callers r.registers (record { after = p; exit = p; again = p }) (with_params [] r0.params) (with_params [] r0.params) [] nothing x k st
        → Follows mach wide 0 2 k st (result_of w fr at x k) (Left callers)
    result_follows p at (Went t) k st standing h =
        subst (λ (q : State). Follows mach wide 0 2 k q (result_of w fr at (Went t) k) (Left callers)) (sym h.is)
        (follows_bind mach wide 0 2 0 0 k (at_place g p h.regs callers k.output) (leave w fr at fr.result None k) (result_given at) Q (Left callers)
        (follows_leave mach wide 0 2 g p h.regs callers w fr k at None Q (fits.asked_frame j vs)
        (λ l same. gives_nothing c (code_of core).routines g r there wide n p (record { after = p; exit = p; again = p }) h.regs callers l [] [] [] nothing standing h.ok.size))
        (λ x l s le q. last x l s q))
      where
        Q : Exit → Meter → State → Type 0
        Q = Leads g callers r.registers (record { after = p; exit = p; again = p }) [] [] [] nothing

        last : (x : Exit) (l : Meter) (s : State) → Leads g callers r.registers (record { after = p; exit = p; again = p }) [] [] [] nothing x l s → Follows mach wide 0 0 l s (result_given at x l) (Left callers)
        last (Went t) l s q = tt
        last (Broke t) l s q = tt
        last (Continued from t) l s q = tt
        last (Gave v) l s q = follows_end mach wide 0 0 l s v (Left callers) q
    result_follows p at (Broke t) k st standing h = tt
    result_follows p at (Continued from t) k st standing h = tt
    result_follows p at (Gave v) k st standing h = follows_end mach wide 0 2 k st v (Left callers) h

    -- the body, from the first instruction on
    body_follows : (m : Meter) → m.ticks ≤ most → Follows mach wide (cost_all r0.body) 3 m (at_place g 0 (entry_registers r vs) callers m.output) (exec_all w fr r0.body (entry_of r0 vs) m >>= result_of w fr r0.at) (Left callers)
    body_follows m few =
        let p = length release in
        let scope = with_params [] r0.params in
        let regs = cleared (entry_registers r vs) (unused_params used r0.params) in
        let known : AreKnown n scope [] = record { below = params_below o n [] r0.params fits.params (λ x h. absurd h); within = λ x i. absurd (let e : false ≡ true = i in cc) } in
        let rest = stand_back r.body 0 release (block ++ gives_null n) all_there in
        let o2 = exec_all w fr r0.body (entry_of r0 vs) m >>= result_of w fr r0.at in
        then_cleared mach g r there wide (cost_all r0.body) 2 0 (unused_params used r0.params) (entry_registers r vs) callers m o2 (Left callers) (stand_front r.body 0 release (block ++ gives_null n) all_there)
        (follows_more mach wide (cost_all r0.body + 0) (0 + 2) (cost_all r0.body) 2 m (at_place g (0 + p) regs callers m.output) o2 (Left callers) (omega arith) (omega arith)
        (follows_bind mach wide (cost_all r0.body) 0 0 2 m (at_place g (0 + p) regs callers m.output) (exec_all w fr r0.body (entry_of r0 vs) m) (result_of w fr r0.at) (Leads g callers r.registers (places (0 + p) (length block) 0 0) scope scope [] nothing) (Left callers)
        (statements_led c (code_of core).routines g r there w fr n wide most calls (fits.asked_frame j vs) r0.body (fits.parts j most vs calls) (let l = fits.nodes in omega (arith, l))
        o (record { in_loop = false; has_result = is_some r0.result }) scope [] nothing 0 0 (0 + p) (entry_of r0 vs) regs callers m fits.body (record { after = known; exit = known; again = known }) (stand_front r.body (0 + p) block (gives_null n) rest)
        (entry_kept scope used r r0.variables r0.params vs fits.order room proper) few)
        (λ x k st le h. result_follows (0 + p + length block) r0.at x k st (stand_back r.body (0 + p) block (gives_null n) rest) (same x k st h))))
      where
        same : (x : Exit) (k : Meter) (st : State) → Leads g callers r.registers (places (0 + length release) (length block) 0 0) (with_params [] r0.params) (with_params [] r0.params) [] nothing x k st
            → Leads g callers r.registers (record { after = 0 + length release + length block; exit = 0 + length release + length block; again = 0 + length release + length block }) (with_params [] r0.params) (with_params [] r0.params) [] nothing x k st
        same (Went t) k st h = h
        same (Broke t) k st h = record { regs = h.regs; is = h.is ∙ ap (λ (l : ℕ). at_place g l h.regs callers k.output) (let e : 0 + length release + length block + 0 ≡ 0 + length release + length block = omega arith in e); ok = h.ok }
        same (Continued from t) k st h = record { regs = h.regs; is = h.is ∙ ap (λ (l : ℕ). at_place g l h.regs callers k.output) (let e : 0 + length release + length block + 0 ≡ 0 + length release + length block = omega arith in e); ok = h.ok }
        same (Gave v) k st h = h

    -- the arguments are of their types
    arguments_follow : {X : Type 0} (lo hi p : ℕ) (regs : Store) (ps : List Param) (us : List Datum) (m : Meter) (at : ℕ) (next : Run X) (Q : X → Meter → State → Type 0) → StillParams (owed_of place core) ps
        → ((k : Meter) → k.ticks ≡ m.ticks → Follows mach wide lo hi k (at_place g p regs callers k.output) (next k) Q) → Follows mach wide lo hi m (at_place g p regs callers m.output) (arguments (owed_of place core) at ps us next m) Q
    arguments_follow lo hi p regs [] us m at next Q still h = h m refl
    arguments_follow lo hi p regs (q ∷ ps) [] m at next Q still h = h m refl
    arguments_follow lo hi p regs (q ∷ ps) (u ∷ us) m at next Q still h =
        follows_given mach wide lo hi g p regs callers (owed_of place core) m at q.ty u (arguments (owed_of place core) at ps us next) Q still.0
        (λ k same. arguments_follow lo hi p regs ps us k at next Q still.1 (λ l also. h l (also ∙ same)))

    whole_follows : (at : ℕ) (m : Meter) → m.ticks ≤ most → Follows mach wide (cost_all r0.body) 4 m (at_place g 0 (entry_registers r vs) callers m.output)
        (arguments (owed_of place core) at r0.params vs (clauses w kind.Requires at r0.preconditions (entry_of r0 vs) (λ k. exec_all w fr r0.body (entry_of r0 vs) k >>= result_of w fr r0.at)) m) (Left callers)
    whole_follows at m few =
        arguments_follow (cost_all r0.body) 4 0 (entry_registers r vs) r0.params vs m at (clauses w kind.Requires at r0.preconditions (entry_of r0 vs) (λ k. exec_all w fr r0.body (entry_of r0 vs) k >>= result_of w fr r0.at)) (Left callers) fits.asked_params
        (λ k same. follows_clauses mach wide (cost_all r0.body) 4 g 0 (entry_registers r vs) callers w k kind.Requires at r0.preconditions (entry_of r0 vs) (λ l. exec_all w fr r0.body (entry_of r0 vs) l >>= result_of w fr r0.at) (Left callers) (fits.asked_before j)
        (λ l also. follows_more mach wide (cost_all r0.body) 3 (cost_all r0.body) 4 l (at_place g 0 (entry_registers r vs) callers l.output) (exec_all w fr r0.body (entry_of r0 vs) l >>= result_of w fr r0.at) (Left callers) (omega arith) (omega arith)
        (body_follows l (omega (arith, also, same, few)))))

  -- the call, whatever the number of its arguments
  call_entered : (at : ℕ) (vs : List Datum) (callers : List Caller) (m : Meter) → m.ticks ≤ most → ListProper vs
      → Follows mach wide (cost_all r0.body) 4 m (entered (slice_get (code_of core).routines g) g vs callers m.output) (routine_call w (owed_of place core) r0 at vs m) (Left callers)
  call_entered at vs callers m few proper =
      follows_check mach wide (cost_all r0.body) 4 m (entered (slice_get (code_of core).routines g) g vs callers m.output) (nat_eq (length vs) (length r0.params)) kind.Member at
      (arguments (owed_of place core) at r0.params vs (clauses w kind.Requires at r0.preconditions (entry_of r0 vs) (λ k. exec_all w (frame_of (owed_of place core) r0 vs) r0.body (entry_of r0 vs) k >>= result_of w (frame_of (owed_of place core) r0 vs) r0.at))) (Left callers)
      (λ ok. subst (λ (st : State). Follows mach wide (cost_all r0.body) 4 m st (arguments (owed_of place core) at r0.params vs (clauses w kind.Requires at r0.preconditions (entry_of r0 vs) (λ k. exec_all w (frame_of (owed_of place core) r0 vs) r0.body (entry_of r0 vs) k >>= result_of w (frame_of (owed_of place core) r0 vs) r0.at)) m) (Left callers))
      (sym (ap (λ (q : Option Routine). entered q g vs callers m.output) stands ∙ ap (λ (b : Bool). cond b (at_place g 0 (entry_registers r vs) callers m.output) Stuck) ok))
      (whole_follows vs (same_number (length vs) (length r0.params) ok) proper callers at m few))
    where
      same_number : (a b : ℕ) → nat_eq a b ≡ true → a ≡ b
      same_number a b e = grind (arith, nat_tests)

-- ---- all of them

module _ (place : ℕ → ℕ) (core : Core ℕ) (o : Offers) (wide : ℕ) (fit : RoutinesFit place core o wide 0 (routines_of core)) where
  abbrev Fits : ℕ → tree.Routine ℕ → Type 0
  Fits g r = RoutineFits place core o wide g r

  each_fits : (k : ℕ) (rs : List (tree.Routine ℕ)) → RoutinesFit place core o wide k rs → Each Fits k rs
  each_fits k [] h = tt
  each_fits k (r ∷ rs) h = (h.0, each_fits (suc k) rs h.1)

  -- without a tick a call waits; with one it does what is called
  no_tick : (j g at : ℕ) (vs : List Datum) (m : Meter) → m.ticks ≡ 0 → run place None core (suc j) g at vs m ≡ More m
  no_tick j g at vs m e = ap (λ (t : ℕ). tick t (called (setting_of place core j) (owed_of place core) (callee (routines_of core) g) at vs) m) e

  a_tick : (j g at : ℕ) (vs : List Datum) (m : Meter) (t : ℕ) (k : Callee ℕ) → m.ticks ≡ suc t → callee (routines_of core) g ≡ k → run place None core (suc j) g at vs m ≡ called (setting_of place core j) (owed_of place core) k at vs (record m { ticks = t })
  a_tick j g at vs m t k e is = ap (λ (i : ℕ). tick i (called (setting_of place core j) (owed_of place core) (callee (routines_of core) g) at vs) m) e ∙ ap (λ (q : Callee ℕ). called (setting_of place core j) (owed_of place core) q at vs (record m { ticks = t })) is

  nest : (j most : ℕ) → most < j → CallsNest place core wide j most
  nest zero most less = absurd (omega (arith, less))
  nest (suc j) most less = record {
    routines_follow = λ g at gives vs callers m t is e few proper.
        let one = declared_at (context_of core) Fits (routines_of core) (type_routines (context_of core) (aliases_of core)) g 0 gives (each_fits 0 (routines_of core) fit) is in
        let fits : RoutineFits place core o wide g one.routine = subst (λ (i : ℕ). RoutineFits place core o wide i one.routine) (let z : 0 + g ≡ g = omega arith in z) one.fits in
        record {
          low = cost_all one.routine.body;
          less = fits.nodes;
          follows = subst (λ (q : Outcome (Option Datum)). Follows (with_table (context_of core) (code_of core).routines) wide (cost_all one.routine.body) 4 (record m { ticks = t }) (entered (slice_get (code_of core).routines g) g vs callers m.output) q (Left callers))
              (sym (a_tick j g at vs m t (evaluation.Declared one.routine) e one.calls))
              (call_entered place core o wide g one.routine fits one.stands j t (nest j t (omega (arith, less, few, e))) at vs callers (record m { ticks = t }) (omega arith) proper);
        };
    none = λ g at vs m few e. no_tick j g at vs m e;
    prints = λ g at vs m is few. ap (λ (q : Callee ℕ). spend true (called (setting_of place core j) (owed_of place core) q at vs) m) (prints_at (routines_of core) g is);
    prints_int = λ g at vs m is few. ap (λ (q : Callee ℕ). spend true (called (setting_of place core j) (owed_of place core) q at vs) m) (prints_int_at (routines_of core) g is);
    nothing = λ g at vs m is few. ap (λ (q : Callee ℕ). spend true (called (setting_of place core j) (owed_of place core) q at vs) m) (nothing_at (routines_of core) g is);
  }

pub routines_followed : RoutinesAreFollowed
routines_followed place core o wide fit j most less = nest place core o wide fit j most less
