-- A loop, by the number of its turns, of which it has more than ticks.
use Rattle.std.proofs.Common.{◌≡◌, ◌<◌, ◌≤◌, ℕ, zero, suc, ◌+◌, ◌-◌, List, [], ◌∷◌, ◌++◌, length, Bool, true, false, Some, sym, ◌∙◌, ap, subst, arith, length-append}
use Rattle.wy_value.specs.Datum.{Truth}
use Rattle.wy_core.specs.CoreTree.{Expr, Stmts, WhileStmt}
use Rattle.wy_term.specs.declared.cond.CondKind.TheVariants as kind
use Rattle.wy_core.specs.formed.Offers.{Offers}
use Rattle.wy_core.specs.formed.Bound.{Scope, Around, looped, BoundExpr, BoundStmts}
use Rattle.wy_core.specs.formed.Sizes.{size}
use Rattle.wy_core.specs.formed.Wholes.{EachClause}
use Rattle.wy_code_spec.specs.wy_live.Sets.{Variables}
use Rattle.wy_code_spec.specs.wy_live.Walks.{before, head_live, around}
use Rattle.wy_code_spec.specs.wy_live.declared.walk.Ends.{Ends}
use Rattle.wy_code.specs.declared.instructions.Instr.TheVariants as instr
use Rattle.wy_code.specs.declared.routines.Code.{Code}
use Rattle.wy_code.specs.declared.routines.Routine.{Routine}
use Rattle.wy_code_spec.specs.declared.tables.context.Context.{Context}
use Rattle.wy_code.specs.declared.pieces.steps.Step.{Step}
use Rattle.wy_code.specs.declared.pieces.steps.Step.TheVariants.{GoesBack, GoesOnUnless}
use Rattle.wy_code.specs.pieces.Steps.{turns}
use Rattle.wy_code_spec.specs.compiled.Expressions.{code, lost, released}
use Rattle.wy_code_spec.specs.compiled.Statements.{inside, turn, stmts_code}
use Rattle.wy_vc_spec.specs.wy_sem.Meter.{Meter, Done, Run, ◌>>=◌, choose}
use Rattle.wy_vc_spec.specs.wy_sem.Expressions.{Store, slot, Setting, clauses}
use Rattle.wy_vc_spec.specs.wy_sem.Statements as sem
use Rattle.wy_vc_spec.specs.wy_sem.Statements.{Exit, Went, Broke, Continued, Gave, tested_truth, go_round, rounds, exec_all}
use Rattle.wy_code_spec.specs.step.Step.{State, Caller, cleared, instr_at}
use Rattle.wy_gen_laws.specs.Places.{StandAt, IsRoutine}
use Rattle.wy_gen_laws.specs.Follows.{Follows, at_place}
use Rattle.wy_gen_laws.proofs.PlaceLemmas.{stand_front, stand_back}
use Rattle.wy_gen_laws.proofs.FollowLemmas.{follows_bind, follows_then, follows_more, follows_end, follows_choose}
use Rattle.wy_gen_laws.specs.expressions.Standing.{with_table, AreKnown}
use Rattle.wy_gen_laws.specs.expressions.Evaluated.{IsEvaluated}
use Rattle.wy_gen_laws.specs.statements.Still.{IsStill}
use Rattle.wy_gen_laws.specs.statements.Parts.{cost_all}
use Rattle.wy_gen_laws.specs.statements.Led.{Kept, Leads, places, EndsKnown, IsLed, AreLed}
use Rattle.wy_gen_laws.proofs.statements_lemmas.SetLemmas.{joined_left, joined_right}
use Rattle.wy_gen_laws.proofs.statements_lemmas.LiveLemmas.{at_head, known_joined, known_lives, known_live}
use Rattle.wy_gen_laws.proofs.statements_lemmas.StillLemmas.{follows_clauses}
use Rattle.wy_gen_laws.proofs.statements_lemmas.StepLemmas.{then_paid, then_cleared, then_far, branch_falls, branch_goes}
use Rattle.wy_gen_laws.proofs.statements_lemmas.ValueLemmas.{GotTruth, truth_comes, arrives}
use Rattle.wy_gen_laws.proofs.statements_lemmas.ChoiceLemmas.{kept_fewer, kept_cleared}

module _ (c : Context) (routines : List Routine) (f : ℕ) (r : Routine) (there : IsRoutine (with_table c routines) f r) (w : Setting ℕ) (fr : sem.Frame ℕ) (n wide most : ℕ) where
  abbrev mach : Code
  mach = with_table c routines

  module _ (place : ℕ) (e : Expr ℕ) (invariants : List (Expr ℕ)) (body : Stmts ℕ) (se : IsEvaluated c routines f r w n wide most e) (still : EachClause (IsStill w) invariants) (led : AreLed c routines f r w fr n wide most body) (o : Offers) (a : Around) (vs : Scope) (s : Variables) (ends : Ends) (exit again at : ℕ) (callers : List Caller)
      (be : BoundExpr o n vs e) (bb : BoundStmts o n (looped a) vs body) (known : EndsKnown n vs s ends) (room : size e + cost_all body + 1 ≤ wide) where
    -- what is live at the head, and what stands where
    abbrev head : Variables
    head = head_live e body s

    abbrev both : Variables
    both = turn e body s

    abbrev gone : List Step
    gone = released both s

    abbrev test : List Step
    test = code c e both n

    abbrev block : List Step
    block = released both (inside e body s) ++ stmts_code c body head (around s head) n (length gone + 1) 0

    abbrev long : ℕ
    long = length (turns test n block ++ gone)

    abbrev Out : Exit → Meter → State → Type 0
    Out = Leads f callers r.registers (places at long exit again) vs vs s ends

    abbrev runs : ℕ → Store → Run Exit
    runs j = rounds j place (tested_truth w place e) (exec_all w fr body) (λ from. clauses w kind.Keep from invariants)

    all_long : long ≡ length test + suc (length block + 1) + length gone
    all_long =
        let l1 = length-append (turns test n block) gone in
        let l2 = length-append test (GoesOnUnless n (length block + 1) ∷ (block ++ GoesBack (length (test ++ GoesOnUnless n (length block + 1) ∷ block)) ∷ [])) in
        let l3 = length-append block (GoesBack (length (test ++ GoesOnUnless n (length block + 1) ∷ block)) ∷ []) in
        omega (arith, l1, l2, l3)

    block_long : length block ≡ length (released both (inside e body s)) + length (stmts_code c body head (around s head) n (length gone + 1) 0)
    block_long = length-append (released both (inside e body s)) (stmts_code c body head (around s head) n (length gone + 1) 0)

    head_known : AreKnown n vs head
    head_known = known_live o n (WhileStmt place e [] body) a vs s ends (be, tt, bb) known

    inner_known : EndsKnown n vs head (around s head)
    inner_known = record { after = head_known; exit = known.after; again = head_known }

    both_known : AreKnown n vs both
    both_known = known_joined n vs (inside e body s) s (known_lives o n body (looped a) vs head (around s head) bb inner_known) known.after

    module _ (stands : StandAt r.body at (turns test n block ++ gone)) where
      whole_there : StandAt r.body at (turns test n block)
      whole_there = stand_front r.body at (turns test n block) gone stands

      rest_there : StandAt r.body (at + length test) (GoesOnUnless n (length block + 1) ∷ (block ++ GoesBack (length (test ++ GoesOnUnless n (length block + 1) ∷ block)) ∷ []))
      rest_there = stand_back r.body at test (GoesOnUnless n (length block + 1) ∷ (block ++ GoesBack (length (test ++ GoesOnUnless n (length block + 1) ∷ block)) ∷ [])) whole_there

      block_there : StandAt r.body (at + length test + 1) block
      block_there = stand_front r.body (at + length test + 1) block (GoesBack (length (test ++ GoesOnUnless n (length block + 1) ∷ block)) ∷ []) rest_there.1

      back_there : instr_at (Some r) (at + length test + 1 + length block) ≡ Some (instr.Jump at)
      back_there =
          let l = length-append test (GoesOnUnless n (length block + 1) ∷ block) in
          let e2 : (at + length test + 1 + length block) - length (test ++ GoesOnUnless n (length block + 1) ∷ block) ≡ at = omega (arith, l) in
          (stand_back r.body (at + length test + 1) block (GoesBack (length (test ++ GoesOnUnless n (length block + 1) ∷ block)) ∷ []) rest_there.1).0 ∙ ap (λ (t : ℕ). Some (instr.Jump t)) e2

      gone_there : StandAt r.body (at + length (turns test n block)) gone
      gone_there = stand_back r.body at (turns test n block) gone stands

      -- where the test is false
      leaves : (lo : ℕ) (store regs : Store) (m : Meter) → slot regs n ≡ Some (Truth false) → Kept vs both r.registers store regs → Follows mach wide lo 3 m (at_place f (at + length test) regs callers m.output) (Done (Went store) m) Out
      leaves lo store regs m e2 kept =
          let target = suc (at + length test) + (length block + 1) in
          let l1 = length-append (turns test n block) gone in
          let same : at + length (turns test n block) ≡ target = omega (arith, all_long, l1) in
          follows_more mach wide lo 2 lo 3 m (at_place f (at + length test) regs callers m.output) (Done (Went store) m) Out (omega arith) (omega arith)
          (branch_goes mach f r there wide lo 1 (at + length test) n target regs callers m (Done (Went store) m) Out rest_there.0 e2
          (then_cleared mach f r there wide lo 0 target (lost both s) regs callers m (Done (Went store) m) Out (subst (λ (p : ℕ). StandAt r.body p gone) same gone_there)
          (arrives c routines f r there wide lo 0 (target + length gone) (places at long exit again) store (cleared regs (lost both s)) callers m vs vs s ends (omega (arith, all_long))
          (kept_cleared vs both s r.registers store regs (λ x h. joined_right (inside e body s) s x h) kept))))

      -- a turn's end, where the next turns follow
      again_led : (j : ℕ) → ((store regs : Store) (m : Meter) → m.ticks < j → m.ticks ≤ most → Kept vs head r.registers store regs → Follows mach wide (size e + cost_all body + 1) 0 m (at_place f at regs callers m.output) (runs j store m) Out)
          → (from p : ℕ) (store regs : Store) (k : Meter) → p ≡ at + length test + 1 + length block → k.ticks < j → k.ticks ≤ most → Kept vs head r.registers store regs → Follows mach wide 0 1 k (at_place f p regs callers k.output) (clauses w kind.Keep from invariants store (runs j store) k) Out
      again_led j next from p store regs k is less few kept =
          subst (λ (q : ℕ). Follows mach wide 0 1 k (at_place f q regs callers k.output) (clauses w kind.Keep from invariants store (runs j store) k) Out) (sym is)
          (follows_clauses mach wide 0 1 f (at + length test + 1 + length block) regs callers w k kind.Keep from invariants store (runs j store) Out still
          (λ l same. then_far mach f r there wide 0 0 (size e + cost_all body + 1) (at + length test + 1 + length block) at regs callers l (runs j store l) Out back_there (omega (arith, room))
          (next store regs l (omega (arith, same, less)) (omega (arith, same, few)) kept)))

      -- what follows the body
      round_led : (j : ℕ) → ((store regs : Store) (m : Meter) → m.ticks < j → m.ticks ≤ most → Kept vs head r.registers store regs → Follows mach wide (size e + cost_all body + 1) 0 m (at_place f at regs callers m.output) (runs j store m) Out)
          → (p : ℕ) → p + length (stmts_code c body head (around s head) n (length gone + 1) 0) ≡ at + length test + 1 + length block → (x : Exit) (k : Meter) (st : State) → k.ticks < j → k.ticks ≤ most
          → Leads f callers r.registers (places p (length (stmts_code c body head (around s head) n (length gone + 1) 0)) (length gone + 1) 0) vs vs head (around s head) x k st
          → Follows mach wide 0 1 k st (go_round place (λ from. clauses w kind.Keep from invariants) (runs j) x k) Out
      round_led j next p is (Went t) k st less few h =
          subst (λ (q : State). Follows mach wide 0 1 k q (clauses w kind.Keep place invariants t (runs j t) k) Out) (sym h.is)
          (again_led j next place (p + length (stmts_code c body head (around s head) n (length gone + 1) 0)) t h.regs k is less few h.ok)
      round_led j next p is (Continued from t) k st less few h =
          subst (λ (q : State). Follows mach wide 0 1 k q (clauses w kind.Keep from invariants t (runs j t) k) Out) (sym h.is)
          (again_led j next from (p + length (stmts_code c body head (around s head) n (length gone + 1) 0) + 0) t h.regs k (omega (arith, is)) less few h.ok)
      round_led j next p is (Broke t) k st less few h =
          subst (λ (q : State). Follows mach wide 0 1 k q (Done (Went t) k) Out) (sym h.is)
          (arrives c routines f r there wide 0 1 (p + length (stmts_code c body head (around s head) n (length gone + 1) 0) + (length gone + 1)) (places at long exit again) t h.regs callers k vs vs s ends (omega (arith, is, all_long)) h.ok)
      round_led j next p is (Gave v) k st less few h = follows_end mach wide 0 1 k st (Gave v) Out h

      -- from the head on
      turns_led : (j : ℕ) (store regs : Store) (m : Meter) → m.ticks < j → m.ticks ≤ most → Kept vs head r.registers store regs → Follows mach wide (size e + cost_all body + 1) 0 m (at_place f at regs callers m.output) (runs j store m) Out
      turns_led zero store regs m less few kept = absurd (omega (arith, less))
      turns_led (suc j) store regs m less few kept =
          then_paid mach f r there wide (size e + cost_all body) 3 (size e + cost_all body + 1) at regs callers m (λ k. tested_truth w place e store k >>= (λ t. choose t (λ i. exec_all w fr body store i >>= go_round place (λ from. clauses w kind.Keep from invariants) (runs j)) (Done (Went store)))) Out (omega arith) (omega arith)
          (λ k out ticks. follows_then mach wide (size e) 0 (cost_all body) 3 (size e + cost_all body) 3 k (at_place f at regs callers k.output) (tested_truth w place e store k) (λ t. choose t (λ i. exec_all w fr body store i >>= go_round place (λ from. clauses w kind.Keep from invariants) (runs j)) (Done (Went store))) f (at + length test) callers (GotTruth c routines f r there wide w n most vs both store) Out (omega arith) (omega arith)
          (truth_comes c routines f r there wide w n most e o vs both place at store regs callers k se be both_known (stand_front r.body at test (GoesOnUnless n (length block + 1) ∷ (block ++ GoesBack (length (test ++ GoesOnUnless n (length block + 1) ∷ block)) ∷ [])) whole_there)
          (kept_fewer vs vs head (before e both) r.registers store regs (λ x h. h) (λ x h. at_head e body s x h) kept) (omega (arith, ticks, few)))
          (λ t i last le got. follows_choose mach wide (cost_all body) 3 i (at_place f (at + length test) last callers i.output) t (λ i. exec_all w fr body store i >>= go_round place (λ from. clauses w kind.Keep from invariants) (runs j)) (Done (Went store)) Out
          (λ yes. enters (λ store2 regs2 m2 less2 few2 kept2. turns_led j store2 regs2 m2 less2 few2 kept2) store last i (omega (arith, le, ticks, less)) (omega (arith, le, ticks, few)) (got.value ∙ ap (λ (z : Bool). Some (Truth z)) yes) got.kept)
          (λ no. leaves (cost_all body) store last i (got.value ∙ ap (λ (z : Bool). Some (Truth z)) no) got.kept)))
        where
          -- where the test is true
          enters : ((store regs : Store) (m : Meter) → m.ticks < j → m.ticks ≤ most → Kept vs head r.registers store regs → Follows mach wide (size e + cost_all body + 1) 0 m (at_place f at regs callers m.output) (runs j store m) Out)
              → (store regs : Store) (m : Meter) → m.ticks < j → m.ticks ≤ most → slot regs n ≡ Some (Truth true) → Kept vs both r.registers store regs
              → Follows mach wide (cost_all body) 3 m (at_place f (at + length test) regs callers m.output) (exec_all w fr body store m >>= go_round place (λ from. clauses w kind.Keep from invariants) (runs j)) Out
          enters next store regs m less few e2 kept =
              let o2 = exec_all w fr body store m >>= go_round place (λ from. clauses w kind.Keep from invariants) (runs j) in
              let xs = released both (inside e body s) in
              let ys = stmts_code c body head (around s head) n (length gone + 1) 0 in
              let p = at + length test + 1 + length xs in
              let regs2 = cleared regs (lost both (inside e body s)) in
              let P = Leads f callers r.registers (places p (length ys) (length gone + 1) 0) vs vs head (around s head) in
              branch_falls mach f r there wide (cost_all body) 2 (at + length test) n (suc (at + length test) + (length block + 1)) regs callers m o2 Out rest_there.0 e2
              (then_cleared mach f r there wide (cost_all body) 1 (at + length test + 1) (lost both (inside e body s)) regs callers m o2 Out (stand_front r.body (at + length test + 1) xs ys block_there)
              (follows_more mach wide (cost_all body + 0) (0 + 1) (cost_all body) 1 m (at_place f p regs2 callers m.output) o2 Out (omega arith) (omega arith)
              (follows_bind mach wide (cost_all body) 0 0 1 m (at_place f p regs2 callers m.output) (exec_all w fr body store m) (go_round place (λ from. clauses w kind.Keep from invariants) (runs j)) P Out
              (led o (looped a) vs head (around s head) (length gone + 1) 0 p store regs2 callers m bb inner_known (stand_back r.body (at + length test + 1) xs ys block_there) (kept_cleared vs both (inside e body s) r.registers store regs (λ x h. joined_left (inside e body s) s x h) kept) few)
              (λ x k st le h. round_led j next p (omega (arith, block_long)) x k st (omega (arith, le, less)) (omega (arith, le, few)) h))))

  -- a loop
  pub while_led : (place : ℕ) (e : Expr ℕ) (invariants : List (Expr ℕ)) (body : Stmts ℕ) → IsEvaluated c routines f r w n wide most e → EachClause (IsStill w) invariants → AreLed c routines f r w fr n wide most body → size e + cost_all body + 2 ≤ wide
      → IsLed c routines f r w fr n wide most (WhileStmt place e invariants body)
  while_led place e invariants body se still led room o a vs s ends exit again at store regs callers m b known stands kept few =
      then_paid mach f r there wide (size e + cost_all body + 1) 0 (size e + cost_all body + 2) at regs callers m
      (clauses w kind.Entry place invariants store (λ k. rounds (suc k.ticks) place (tested_truth w place e) (exec_all w fr body) (λ from. clauses w kind.Keep from invariants) store k)) (Out place e invariants body se still led o a vs s ends exit again at callers b.0 b.2 known (omega (arith, room))) (omega arith) (omega arith)
      (λ k out ticks. follows_clauses mach wide (size e + cost_all body + 1) 0 f at regs callers w k kind.Entry place invariants store (λ l. rounds (suc l.ticks) place (tested_truth w place e) (exec_all w fr body) (λ from. clauses w kind.Keep from invariants) store l) (Out place e invariants body se still led o a vs s ends exit again at callers b.0 b.2 known (omega (arith, room))) still
      (λ l same. turns_led place e invariants body se still led o a vs s ends exit again at callers b.0 b.2 known (omega (arith, room)) stands (suc l.ticks) store regs l (omega arith) (omega (arith, same, ticks, few)) kept))
