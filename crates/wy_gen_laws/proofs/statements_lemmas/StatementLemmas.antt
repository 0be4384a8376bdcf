-- The code of a statement does what the statement does.
use Rattle.std.proofs.Common.{◌≡◌, ◌≢◌, ◌≤◌, ◌⊎◌, inl, inr, ℕ, zero, suc, ◌+◌, List, [], ◌∷◌, ◌++◌, length, true, Some, None, refl, sym, ◌∙◌, ap, subst, arith, length-append}
use Rattle.wy_lemmas.proofs.Choices.{either}
use Rattle.wy_value.specs.Datum.{Datum}
use Rattle.wy_core.specs.CoreTree.{Expr, DeclareStmt, AssignStmt, CallStmt, ReturnStmt, AssertStmt, BreakStmt, ContinueStmt, SkipStmt, FailStmt, IfStmt, WhileStmt, Stmt, Stmts, NoStmts, MoreStmts}
use Rattle.wy_term.specs.declared.cond.CondKind.TheVariants as kind
use Rattle.wy_core.specs.formed.Bound.{Scope, Has, behind}
use Rattle.wy_core.specs.formed.Sizes.{size}
use Rattle.wy_code_spec.specs.wy_live.Sets.{Variables, has}
use Rattle.wy_code_spec.specs.wy_live.Walks.{live_all}
use Rattle.wy_code.specs.declared.instructions.Instr.TheVariants as instr
use Rattle.wy_code.specs.declared.routines.Code.{Code}
use Rattle.wy_code.specs.declared.routines.Routine.{Routine}
use Rattle.wy_code_spec.specs.declared.tables.context.Context.{Context}
use Rattle.wy_code.specs.declared.pieces.steps.Step.{Step}
use Rattle.wy_code.specs.declared.pieces.steps.Step.TheVariants.{Does}
use Rattle.wy_code_spec.specs.compiled.Expressions.{code}
use Rattle.wy_code_spec.specs.compiled.Statements.{stmt_code, stmts_code}
use Rattle.wy_vc_spec.specs.wy_sem.Meter.{Meter, Done, Fault, ◌>>=◌, check}
use Rattle.wy_vc_spec.specs.wy_sem.Expressions.{Store, slot, put, Setting, eval, holds_at}
use Rattle.wy_vc_spec.specs.wy_sem.Statements as sem
use Rattle.wy_vc_spec.specs.wy_sem.Statements.{Exit, Went, Broke, Continued, Gave, leave, go_on, exec, exec_all, type_at}
use Rattle.wy_code_spec.specs.step.Step.{State}
use Rattle.wy_gen_laws.specs.Places.{IsRoutine}
use Rattle.wy_gen_laws.specs.Follows.{Follows, at_place}
use Rattle.wy_gen_laws.proofs.PlaceLemmas.{stand_front, stand_back}
use Rattle.wy_gen_laws.proofs.StoreLemmas.{put_other}
use Rattle.wy_gen_laws.proofs.FollowLemmas.{follows_bind, follows_more, follows_map, follows_end, follows_check}
use Rattle.wy_gen_laws.specs.expressions.Standing.{with_table, AreKnown}
use Rattle.wy_gen_laws.specs.expressions.Evaluated.{IsEvaluated}
use Rattle.wy_gen_laws.proofs.expressions_lemmas.KnownLemmas.{same_or_not}
use Rattle.wy_gen_laws.specs.statements.Still.{IsStill}
use Rattle.wy_gen_laws.specs.statements.Parts.{EachPart, EachPartIn, cost, cost_all}
use Rattle.wy_gen_laws.specs.statements.Led.{Kept, Places, Leads, places, CallsLead, asked, FrameStays, EndsKnown, IsLed, AreLed, StatementsAreLed}
use Rattle.wy_gen_laws.proofs.statements_lemmas.LiveLemmas.{behind_has, below_behind, known_in, known_without, known_none, known_lives}
use Rattle.wy_gen_laws.proofs.statements_lemmas.StillLemmas.{follows_still, follows_leave}
use Rattle.wy_gen_laws.proofs.statements_lemmas.StepLemmas.{then_paid, then_far}
use Rattle.wy_gen_laws.proofs.statements_lemmas.ValueLemmas.{proper_put, arrives, gives, gives_nothing, value_then, set_follows}
use Rattle.wy_gen_laws.proofs.statements_lemmas.PathLemmas.{update_follows}
use Rattle.wy_gen_laws.proofs.statements_lemmas.CallLemmas.{call_led}
use Rattle.wy_gen_laws.proofs.statements_lemmas.ChoiceLemmas.{leads_moved, if_led}
use Rattle.wy_gen_laws.proofs.statements_lemmas.LoopLemmas.{while_led}

-- a variable without a value asks nothing of its register
unset : (s : Store) (x : ℕ) (v : Datum) → slot (put s x None) x ≡ Some v → ⊥
unset [] x v e = absurd cc
unset (u ∷ s) zero v e = absurd cc
unset (u ∷ s) (suc x) v e = unset s x v e

module _ (c : Context) (routines : List Routine) (f : ℕ) (r : Routine) (there : IsRoutine (with_table c routines) f r) (w : Setting ℕ) (fr : sem.Frame ℕ) (n wide most : ℕ) (calls : CallsLead c routines w wide most) (stays : FrameStays w fr) where
  abbrev mach : Code
  mach = with_table c routines

  kept_unset : (vs : Scope) (x : ℕ) (s : Variables) (size : ℕ) (store regs : Store) → Kept vs s size store regs → Kept (x ∷ vs) s size (put store x None) regs
  kept_unset vs x s size store regs h = record { live = record { holds = λ y v i a e. by y v i a e (same_or_not y x) }; size = h.size; proper = proper_put store x None tt h.proper }
    where
      by : (y : ℕ) (v : Datum) → Has (x ∷ vs) y → has s y ≡ true → slot (put store x None) y ≡ Some v → (y ≡ x) ⊎ (y ≢ x) → slot regs y ≡ Some v
      by y v i a e (inl g) = absurd (unset store x v (subst (λ (z : ℕ). slot (put store x None) z ≡ Some v) g e))
      by y v i a e (inr other) = h.live.holds y v (either (λ g. absurd (other (sym g))) (λ k. k) i) a (sym (put_other store x y None other) ∙ e)

  -- ---- what a routine gives

  return_led : (place : ℕ) (e : Expr ℕ) → IsEvaluated c routines f r w n wide most e → IsLed c routines f r w fr n wide most (ReturnStmt place (Some e))
  return_led place e se o a vs s ends exit again at store regs callers m b known stands kept few =
      let xs = code c e [] n in
      let ys : List Step = Does (instr.Return n) ∷ [] in
      let l1 : length (xs ++ ys) ≡ length xs + 1 = length-append xs ys in
      let pl = places at (length (xs ++ ys)) exit again in
      let Q = Leads f callers r.registers pl vs vs s ends in
      then_paid mach f r there wide (size e) 1 (size e + 1) at regs callers m (λ k. eval w true e store k >>= (λ v. leave w fr place fr.result (Some v))) Q (omega arith) (omega arith)
      (λ k out ticks. value_then c routines f r there wide w n most e o vs [] n at store regs callers k 0 1 (size e) 1 (λ v. leave w fr place fr.result (Some v)) Q se b.1 (known_none n vs s known.after) (omega arith) (stand_front r.body at xs ys stands) kept (omega (arith, ticks, few)) (omega arith) (omega arith)
      (λ v i last le proper got. follows_leave mach wide 0 1 f (at + length xs) last callers w fr i place (Some v) Q stays
      (λ j same. gives c routines f r there wide n (at + length xs) pl (Some v) last callers j vs vs s ends (stand_back r.body at xs ys stands).0 got.value proper)))

  assert_led : (place : ℕ) (e : Expr ℕ) → IsStill w e → IsLed c routines f r w fr n wide most (AssertStmt place e)
  assert_led place e still o a vs s ends exit again at store regs callers m b known stands kept few =
      let Q = Leads f callers r.registers (places at 0 exit again) vs vs s ends in
      then_paid mach f r there wide 0 0 1 at regs callers m (λ k. holds_at w place e store k >>= (λ t. check t kind.Assert place (Done (Went store)))) Q (omega arith) (omega arith)
      (λ k out ticks. follows_still mach wide 0 0 f at regs callers k (holds_at w place e store k) (λ t. check t kind.Assert place (Done (Went store))) Q ((still place store).stays k)
      (λ t j same. follows_check mach wide 0 0 j (at_place f at regs callers j.output) t kind.Assert place (Done (Went store)) Q
      (λ ok. arrives c routines f r there wide 0 0 at (places at 0 exit again) store regs callers j vs vs s ends (omega arith) kept)))

  -- ---- blocks

  more_led : (st : Stmt ℕ) (rest : Stmts ℕ) → IsLed c routines f r w fr n wide most st → AreLed c routines f r w fr n wide most rest → AreLed c routines f r w fr n wide most (MoreStmts st rest)
  more_led st rest led leds o a vs s ends exit again at store regs callers m b known stands kept few =
      follows_bind mach wide (cost st) 0 (cost_all rest) 0 m (at_place f at regs callers m.output) (exec w fr st store m) (λ x. go_on x (exec_all w fr rest)) P Q
      (led o a vs s1 ends (length ys + exit) (length ys + again) at store regs callers m b.0 (record { after = known_in n ws vs s1 known.after.below rest_known; exit = known.exit; again = known.again }) (stand_front r.body at xs ys stands) kept few)
      (λ x k q le h. by x k q (omega (arith, le, few)) h)
    where
      ws : Scope
      ws = behind vs st

      s1 : Variables
      s1 = live_all rest s ends

      ys : List Step
      ys = stmts_code c rest s ends n exit again

      xs : List Step
      xs = stmt_code c st s1 ends n (length ys + exit) (length ys + again)

      l1 : length (xs ++ ys) ≡ length xs + length ys
      l1 = length-append xs ys

      inner : EndsKnown n ws s ends
      inner = let below = below_behind o n a vs st b.0 known.after.below in record { after = known_in n vs ws s below known.after; exit = known_in n vs ws ends.exit below known.exit; again = known_in n vs ws ends.again below known.again }

      rest_known : AreKnown n ws s1
      rest_known = known_lives o n rest a ws s ends b.1 inner

      P : Exit → Meter → State → Type 0
      P = Leads f callers r.registers (places at (length xs) (length ys + exit) (length ys + again)) ws vs s1 ends

      pl : Places
      pl = places at (length (xs ++ ys)) exit again

      Q : Exit → Meter → State → Type 0
      Q = Leads f callers r.registers pl vs vs s ends

      by : (x : Exit) (k : Meter) (q : State) → k.ticks ≤ most → Leads f callers r.registers (places at (length xs) (length ys + exit) (length ys + again)) ws vs s1 ends x k q
          → Follows mach wide (cost_all rest) 0 k q (go_on x (exec_all w fr rest) k) (Leads f callers r.registers (places at (length (xs ++ ys)) exit again) vs vs s ends)
      by (Went t) k q less h =
          subst (λ (u : State). Follows mach wide (cost_all rest) 0 k u (exec_all w fr rest t k) (Leads f callers r.registers (places at (length (xs ++ ys)) exit again) vs vs s ends)) (sym h.is)
          (follows_map mach wide (cost_all rest) 0 k (at_place f (at + length xs) h.regs callers k.output) (exec_all w fr rest t k) (Leads f callers r.registers (places (at + length xs) (length ys) exit again) ws ws s ends) (Leads f callers r.registers (places at (length (xs ++ ys)) exit again) vs vs s ends)
          (leds o a ws s ends exit again (at + length xs) t h.regs callers k b.1 inner (stand_back r.body at xs ys stands) h.ok less)
          (leads_moved f callers r.registers (places (at + length xs) (length ys) exit again) (places at (length (xs ++ ys)) exit again) ws ws vs s ends (λ x i. behind_has x vs st i) (λ x i. behind_has x vs st i) (omega (arith, l1)) (omega (arith, l1)) (omega (arith, l1))))
      by (Broke t) k q less h =
          follows_end mach wide (cost_all rest) 0 k q (Broke t) (Leads f callers r.registers (places at (length (xs ++ ys)) exit again) vs vs s ends)
          (record { regs = h.regs; is = h.is ∙ ap (λ (l : ℕ). at_place f l h.regs callers k.output) (let e : at + length xs + (length ys + exit) ≡ at + length (xs ++ ys) + exit = omega (arith, l1) in e); ok = h.ok })
      by (Continued from t) k q less h =
          follows_end mach wide (cost_all rest) 0 k q (Continued from t) (Leads f callers r.registers (places at (length (xs ++ ys)) exit again) vs vs s ends)
          (record { regs = h.regs; is = h.is ∙ ap (λ (l : ℕ). at_place f l h.regs callers k.output) (let e : at + length xs + (length ys + again) ≡ at + length (xs ++ ys) + again = omega (arith, l1) in e); ok = h.ok })
      by (Gave v) k q less h = follows_end mach wide (cost_all rest) 0 k q (Gave v) (Leads f callers r.registers (places at (length (xs ++ ys)) exit again) vs vs s ends) h

  -- ---- all of them

  mutual
    led : (st : Stmt ℕ) → EachPart (asked c routines f r w fr n wide most) st → cost st ≤ wide → IsLed c routines f r w fr n wide most st
    led (DeclareStmt place t x None) q room o a vs s ends exit again at store regs callers m b known stands kept few =
        then_paid mach f r there wide 0 0 1 at regs callers m (Done (Went (put store x None))) (Leads f callers r.registers (places at 0 exit again) (x ∷ vs) vs s ends) (omega arith) (omega arith)
        (λ k out ticks. arrives c routines f r there wide 0 0 at (places at 0 exit again) (put store x None) regs callers k (x ∷ vs) vs s ends (omega arith) (kept_unset vs x s r.registers store regs kept))
    led (DeclareStmt place t x (Some e)) q room o a vs s ends exit again at store regs callers m b known stands kept few =
        set_follows c routines f r there wide w n most fr x b.2.0 vs (x ∷ vs) vs (λ y h. h) s known.after ends callers (places at (length (stmt_code c (DeclareStmt place t x (Some e)) s ends n exit again)) exit again)
        e o t place at store regs m q.1 q.0 b.1 (known_without n vs s x known.after) stands refl kept few
    led (AssignStmt place x [] e) q room o a vs s ends exit again at store regs callers m b known stands kept few =
        let pl = places at (length (stmt_code c (AssignStmt place x [] e) s ends n exit again)) exit again in
        follows_more mach wide (size e + 1) 0 (0 + size e + 1) 0 m (at_place f at regs callers m.output) (exec w fr (AssignStmt place x [] e) store m) (Leads f callers r.registers pl vs vs s ends) (omega arith) (omega arith)
        (set_follows c routines f r there wide w n most fr x (known.after.below x b.0) vs vs vs (λ y h. inr h) s known.after ends callers pl
        e o (type_at fr.types x) place at store regs m q.1 (stays.types x) b.2 (known_without n vs s x known.after) stands refl kept few)
    led (AssignStmt place x (step ∷ path) e) q room o a vs s ends exit again at store regs callers m b known stands kept few =
        update_follows c routines f r there w fr n wide most o vs x s ends callers (places at (length (stmt_code c (AssignStmt place x (step ∷ path) e) s ends n exit again)) exit again)
        (step ∷ path) e (type_at fr.types x) place at store regs m q.0 q.1.0 (stays.types x) b.1 b.2 b.0 known.after stands refl kept few
    led (CallStmt place g es) q room o a vs s ends exit again at store regs callers m b known stands kept few =
        call_led c routines f r there w wide most (omega (arith, room)) calls n o vs s known.after ends callers (places at (length (stmt_code c (CallStmt place g es) s ends n exit again)) exit again) g place at es store regs m q b.1 stands refl kept few
    led (ReturnStmt place None) q room o a vs s ends exit again at store regs callers m b known stands kept few =
        then_paid mach f r there wide 0 2 1 at regs callers m (leave w fr place fr.result None) (Leads f callers r.registers (places at 2 exit again) vs vs s ends) (omega arith) (omega arith)
        (λ k out ticks. follows_leave mach wide 0 2 f at regs callers w fr k place None (Leads f callers r.registers (places at 2 exit again) vs vs s ends) stays
        (λ j same. gives_nothing c routines f r there wide n at (places at 2 exit again) regs callers j vs vs s ends stands kept.size))
    led (ReturnStmt place (Some e)) q room o a vs s ends exit again at store regs callers m b known stands kept few = return_led place e q.0 o a vs s ends exit again at store regs callers m b known stands kept few
    led (AssertStmt place e) q room o a vs s ends exit again at store regs callers m b known stands kept few = assert_led place e q o a vs s ends exit again at store regs callers m b known stands kept few
    led (BreakStmt place) q room o a vs s ends exit again at store regs callers m b known stands kept few =
        let to = suc at + exit in
        let Q = Leads f callers r.registers (places at 1 exit again) vs vs s ends in
        then_paid mach f r there wide 0 1 1 at regs callers m (Done (Broke store)) Q (omega arith) (omega arith)
        (λ k out ticks. then_far mach f r there wide 0 0 0 at to regs callers k (Done (Broke store) k) Q stands.0 (omega arith)
        (follows_end mach wide 0 0 k (at_place f to regs callers k.output) (Broke store) Q (record { regs = regs; is = ap (λ (l : ℕ). at_place f l regs callers k.output) (let e : suc at + exit ≡ at + 1 + exit = omega arith in e); ok = kept })))
    led (ContinueStmt place) q room o a vs s ends exit again at store regs callers m b known stands kept few =
        let to = suc at + again in
        let Q = Leads f callers r.registers (places at 1 exit again) vs vs s ends in
        then_paid mach f r there wide 0 1 1 at regs callers m (Done (Continued place store)) Q (omega arith) (omega arith)
        (λ k out ticks. then_far mach f r there wide 0 0 0 at to regs callers k (Done (Continued place store) k) Q stands.0 (omega arith)
        (follows_end mach wide 0 0 k (at_place f to regs callers k.output) (Continued place store) Q (record { regs = regs; is = ap (λ (l : ℕ). at_place f l regs callers k.output) (let e : suc at + again ≡ at + 1 + again = omega arith in e); ok = kept })))
    led (SkipStmt place) q room o a vs s ends exit again at store regs callers m b known stands kept few =
        then_paid mach f r there wide 0 0 1 at regs callers m (Done (Went store)) (Leads f callers r.registers (places at 0 exit again) vs vs s ends) (omega arith) (omega arith)
        (λ k out ticks. arrives c routines f r there wide 0 0 at (places at 0 exit again) store regs callers k vs vs s ends (omega arith) kept)
    led (FailStmt place) q room o a vs s ends exit again at store regs callers m b known stands kept few =
        then_paid mach f r there wide 0 0 1 at regs callers m (Fault kind.Fail place) (Leads f callers r.registers (places at 2 exit again) vs vs s ends) (omega arith) (omega arith) (λ k out ticks. tt)
    led (IfStmt place e first second) q room o a vs s ends exit again at store regs callers m b known stands kept few =
        if_led c routines f r there w fr n wide most place e first second q.0.0 (leds first q.1 (omega (arith, room))) (leds second q.2 (omega (arith, room))) o a vs s ends exit again at store regs callers m b known stands kept few
    led (WhileStmt place e invariants body) q room o a vs s ends exit again at store regs callers m b known stands kept few =
        while_led c routines f r there w fr n wide most place e invariants body q.0.0 q.1 (leds body q.2 (omega (arith, room))) room o a vs s ends exit again at store regs callers m b known stands kept few

    leds : (ss : Stmts ℕ) → EachPartIn (asked c routines f r w fr n wide most) ss → cost_all ss ≤ wide → AreLed c routines f r w fr n wide most ss
    leds NoStmts q room o a vs s ends exit again at store regs callers m b known stands kept few =
        arrives c routines f r there wide 0 0 at (places at 0 exit again) store regs callers m vs vs s ends (omega arith) kept
    leds (MoreStmts st rest) q room o a vs s ends exit again at store regs callers m b known stands kept few =
        more_led st rest (led st q.0 (omega (arith, room))) (leds rest q.1 (omega (arith, room))) o a vs s ends exit again at store regs callers m b known stands kept few

pub statements_led : StatementsAreLed
statements_led c routines f r there w fr n wide most calls stays ss q room = leds c routines f r there w fr n wide most calls stays ss q room
