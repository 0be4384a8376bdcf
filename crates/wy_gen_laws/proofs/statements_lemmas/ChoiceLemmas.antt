-- Places and scopes of what statements lead to, releases between blocks, and the two blocks of an `if`.
use Rattle.std.proofs.Common.{◌≡◌, ◌≤◌, ℕ, ◌+◌, List, [], ◌∷◌, ◌++◌, length, Bool, true, false, Some, refl, ◌∙◌, ap, arith, length-append}
use Rattle.wy_value.specs.Datum.{Truth}
use Rattle.wy_core.specs.CoreTree.{Expr, Stmts, IfStmt}
use Rattle.wy_core.specs.formed.Offers.{Offers}
use Rattle.wy_core.specs.formed.Bound.{Scope, Has, Around, BoundStmts}
use Rattle.wy_core.specs.formed.Sizes.{size}
use Rattle.wy_code_spec.specs.wy_live.Sets.{Variables, has}
use Rattle.wy_code_spec.specs.wy_live.Walks.{live_all}
use Rattle.wy_code_spec.specs.wy_live.declared.walk.Ends.{Ends}
use Rattle.wy_code.specs.declared.routines.Code.{Code}
use Rattle.wy_code.specs.declared.routines.Routine.{Routine}
use Rattle.wy_code_spec.specs.declared.tables.context.Context.{Context}
use Rattle.wy_code.specs.declared.pieces.steps.Step.{Step}
use Rattle.wy_code.specs.pieces.Steps.{over}
use Rattle.wy_code_spec.specs.compiled.Expressions.{code, lost, released, is_plain, release_unless}
use Rattle.wy_code_spec.specs.compiled.Statements.{choice, branches, stmts_code}
use Rattle.wy_vc_spec.specs.wy_sem.Meter.{Meter, Outcome, ◌>>=◌, choose}
use Rattle.wy_vc_spec.specs.wy_sem.Expressions.{Store, Setting, slot}
use Rattle.wy_vc_spec.specs.wy_sem.Statements as sem
use Rattle.wy_vc_spec.specs.wy_sem.Statements.{Exit, Went, Broke, Continued, Gave, tested_truth, exec_all}
use Rattle.wy_code_spec.specs.step.Step.{State, Caller, cleared}
use Rattle.wy_gen_laws.specs.Places.{StandAt, IsRoutine}
use Rattle.wy_gen_laws.specs.Follows.{Follows, at_place}
use Rattle.wy_gen_laws.proofs.PlaceLemmas.{stand_front, stand_back}
use Rattle.wy_gen_laws.proofs.FollowLemmas.{follows_then, follows_more, follows_map, follows_choose}
use Rattle.wy_gen_laws.proofs.InstructionLemmas.{cleared_other, cleared_size}
use Rattle.wy_gen_laws.specs.expressions.Standing.{with_table, AreKnown}
use Rattle.wy_gen_laws.specs.expressions.Evaluated.{IsEvaluated}
use Rattle.wy_gen_laws.proofs.expressions_lemmas.OperandLemmas.{are_lost, none_live}
use Rattle.wy_gen_laws.specs.statements.Parts.{cost_all}
use Rattle.wy_gen_laws.specs.statements.Led.{Kept, Places, Leads, places, EndsKnown, IsLed, AreLed}
use Rattle.wy_gen_laws.proofs.statements_lemmas.SetLemmas.{joined_left, joined_right}
use Rattle.wy_gen_laws.proofs.statements_lemmas.LiveLemmas.{known_joined, known_lives}
use Rattle.wy_gen_laws.proofs.statements_lemmas.StepLemmas.{Runs, then_paid, then_cleared, fork_on, fork_off}
use Rattle.wy_gen_laws.proofs.statements_lemmas.ValueLemmas.{GotTruth, truth_comes}

-- ---- what is held

-- fewer variables, in a smaller scope
pub kept_fewer : (vs ws : Scope) (s t : Variables) (size : ℕ) (store regs : Store) → ((x : ℕ) → Has vs x → Has ws x) → ((x : ℕ) → has t x ≡ true → has s x ≡ true) → Kept ws s size store regs → Kept vs t size store regs
kept_fewer vs ws s t size store regs f g h = record { live = record { holds = λ x v i a e. h.live.holds x v (f x i) (g x a) e }; size = h.size; proper = h.proper }

-- what only the first set has is released
pub kept_cleared : (vs : Scope) (s t : Variables) (size : ℕ) (store regs : Store) → ((x : ℕ) → has t x ≡ true → has s x ≡ true) → Kept vs s size store regs → Kept vs t size store (cleared regs (lost s t))
kept_cleared vs s t size store regs f h = record {
  live = record { holds = λ x v i a e. cleared_other regs (lost s t) x (none_live s t (lost s t) x a (are_lost s t (length s))) ∙ h.live.holds x v i (f x a) e };
  size = cleared_size regs (lost s t) ∙ h.size;
  proper = h.proper;
}

-- ---- places

-- the same places, in a smaller scope
pub leads_moved : (f : ℕ) (callers : List Caller) (size : ℕ) (p q : Places) (ws us vs : Scope) (s : Variables) (ends : Ends) → ((x : ℕ) → Has vs x → Has ws x) → ((x : ℕ) → Has vs x → Has us x) → p.after ≡ q.after → p.exit ≡ q.exit → p.again ≡ q.again
    → (x : Exit) (k : Meter) (st : State) → Leads f callers size p ws us s ends x k st → Leads f callers size q vs vs s ends x k st
leads_moved f callers size p q ws us vs s ends g i a e n (Went t) k st h = record { regs = h.regs; is = h.is ∙ ap (λ (l : ℕ). at_place f l h.regs callers k.output) a; ok = kept_fewer vs ws s s size t h.regs g (λ x b. b) h.ok }
leads_moved f callers size p q ws us vs s ends g i a e n (Broke t) k st h = record { regs = h.regs; is = h.is ∙ ap (λ (l : ℕ). at_place f l h.regs callers k.output) e; ok = kept_fewer vs us ends.exit ends.exit size t h.regs i (λ x b. b) h.ok }
leads_moved f callers size p q ws us vs s ends g i a e n (Continued from t) k st h = record { regs = h.regs; is = h.is ∙ ap (λ (l : ℕ). at_place f l h.regs callers k.output) n; ok = kept_fewer vs us ends.again ends.again size t h.regs i (λ x b. b) h.ok }
leads_moved f callers size p q ws us vs s ends g i a e n (Gave v) k st h = h

module _ (c : Context) (routines : List Routine) (f : ℕ) (r : Routine) (there : IsRoutine (with_table c routines) f r) (w : Setting ℕ) (fr : sem.Frame ℕ) (n wide most : ℕ) where
  abbrev mach : Code
  mach = with_table c routines

  -- a block behind a release
  block_led : (ss : Stmts ℕ) → AreLed c routines f r w fr n wide most ss → (o : Offers) (a : Around) (vs : Scope) (both s : Variables) (ends : Ends) (exit again p : ℕ) (store regs : Store) (callers : List Caller) (m : Meter) → BoundStmts o n a vs ss → EndsKnown n vs s ends
      → StandAt r.body p (released both (live_all ss s ends) ++ stmts_code c ss s ends n exit again) → ((x : ℕ) → has (live_all ss s ends) x ≡ true → has both x ≡ true) → Kept vs both r.registers store regs → m.ticks ≤ most
      → Follows mach wide (cost_all ss) 1 m (at_place f p regs callers m.output) (exec_all w fr ss store m) (Leads f callers r.registers (places p (length (released both (live_all ss s ends) ++ stmts_code c ss s ends n exit again)) exit again) vs vs s ends)
  block_led ss led o a vs both s ends exit again p store regs callers m b known stands fewer kept few =
      let xs = released both (live_all ss s ends) in
      let ys = stmts_code c ss s ends n exit again in
      let l1 : length (xs ++ ys) ≡ length xs + length ys = length-append xs ys in
      let gone = lost both (live_all ss s ends) in
      let Q = Leads f callers r.registers (places p (length (xs ++ ys)) exit again) vs vs s ends in
      then_cleared mach f r there wide (cost_all ss) 0 p gone regs callers m (exec_all w fr ss store m) Q (stand_front r.body p xs ys stands)
      (follows_map mach wide (cost_all ss) 0 m (at_place f (p + length xs) (cleared regs gone) callers m.output) (exec_all w fr ss store m) (Leads f callers r.registers (places (p + length xs) (length ys) exit again) vs vs s ends) Q
      (led o a vs s ends exit again (p + length xs) store (cleared regs gone) callers m b known (stand_back r.body p xs ys stands) (kept_cleared vs both (live_all ss s ends) r.registers store regs fewer kept) few)
      (leads_moved f callers r.registers (places (p + length xs) (length ys) exit again) (places p (length (xs ++ ys)) exit again) vs vs vs s ends (λ x h. h) (λ x h. h) (omega (arith, l1)) (omega (arith, l1)) (omega (arith, l1))))

  -- the register of the test's value is released, which no variable has
  kept_free : (vs : Scope) (s : Variables) (size : ℕ) (store regs : Store) → AreKnown n vs s → Kept vs s size store regs → Kept vs s size store (cleared regs (n ∷ []))
  kept_free vs s size store regs known h = record {
    live = record { holds = λ x v i a e. cleared_other regs (n ∷ []) x ((λ same. absurd (let l = known.within x a in omega (arith, l, same))), tt) ∙ h.live.holds x v i a e };
    size = cleared_size regs (n ∷ []) ∙ h.size;
    proper = h.proper;
  }

  -- the blocks of an `if` behind its test, where a block leads there from wherever it stands and from all registers that hold the variables
  module _ (lo at : ℕ) (regs : Store) (callers : List Caller) (m : Meter) (o : Outcome Exit) (vs : Scope) (both s : Variables) (ends : Ends) (exit again : ℕ) (store : Store) (known : AreKnown n vs both) (kept : Kept vs both r.registers store regs) where
    abbrev Branched : List Step → Type 0
    Branched ys = Follows mach wide lo 3 m (at_place f at regs callers m.output) o (Leads f callers r.registers (record { after = at + length ys; exit = at + length ys + exit; again = at + length ys + again }) vs vs s ends)

    abbrev Block : (exit again : ℕ) → List Step → Type 0
    Block exit again steps = (now : Store) → Kept vs both r.registers store now → Runs mach f r there wide lo 1 m o now callers r.registers vs vs s ends exit again steps

    released_first : (x y : ℕ) → x ≡ exit → y ≡ again → StandAt r.body at (release_unless false n) → Block x y [] → Branched (release_unless false n)
    released_first x y x_is y_is h run =
        follows_more mach wide lo 2 lo 3 m (at_place f at regs callers m.output) o (Leads f callers r.registers (record { after = at + 1; exit = at + 1 + exit; again = at + 1 + again }) vs vs s ends) (omega arith) (omega arith)
        (then_cleared mach f r there wide lo 1 at (n ∷ []) regs callers m o (Leads f callers r.registers (record { after = at + 1; exit = at + 1 + exit; again = at + 1 + again }) vs vs s ends) h
        (follows_map mach wide lo 1 m (at_place f (at + 1) (cleared regs (n ∷ [])) callers m.output) o (Leads f callers r.registers (record { after = at + 1 + 0; exit = at + 1 + 0 + x; again = at + 1 + 0 + y }) vs vs s ends)
        (Leads f callers r.registers (record { after = at + 1; exit = at + 1 + exit; again = at + 1 + again }) vs vs s ends)
        (run (cleared regs (n ∷ [])) (kept_free vs both r.registers store regs known kept) (at + 1) tt)
        (leads_moved f callers r.registers (record { after = at + 1 + 0; exit = at + 1 + 0 + x; again = at + 1 + 0 + y }) (record { after = at + 1; exit = at + 1 + exit; again = at + 1 + again }) vs vs vs s ends (λ z i. i) (λ z i. i) (omega arith) (omega (arith, x_is)) (omega (arith, y_is)))))

    branches_on : (plain : Bool) (first second : List Step) → StandAt r.body at (branches n plain first second) → slot regs n ≡ Some (Truth true) → Block (over second + exit) (over second + again) first → Branched (branches n plain first second)
    branches_on true [] [] h e run = fork_on mach f r there wide lo 1 at n regs callers m o r.registers vs vs s ends exit again [] [] h e (run regs kept)
    branches_on false [] [] h e run = released_first (0 + exit) (0 + again) (omega arith) (omega arith) h run
    branches_on plain (q ∷ first) [] h e run = fork_on mach f r there wide lo 1 at n regs callers m o r.registers vs vs s ends exit again (q ∷ first) [] h e (run regs kept)
    branches_on plain first (q ∷ second) h e run = fork_on mach f r there wide lo 1 at n regs callers m o r.registers vs vs s ends exit again first (q ∷ second) h e (run regs kept)

    branches_off : (plain : Bool) (first second : List Step) → StandAt r.body at (branches n plain first second) → slot regs n ≡ Some (Truth false) → Block exit again second → Branched (branches n plain first second)
    branches_off true [] [] h e run = fork_off mach f r there wide lo 1 at n regs callers m o r.registers vs vs s ends exit again [] [] h e (run regs kept)
    branches_off false [] [] h e run = released_first exit again refl refl h run
    branches_off plain (q ∷ first) [] h e run = fork_off mach f r there wide lo 1 at n regs callers m o r.registers vs vs s ends exit again (q ∷ first) [] h e (run regs kept)
    branches_off plain first (q ∷ second) h e run = fork_off mach f r there wide lo 1 at n regs callers m o r.registers vs vs s ends exit again first (q ∷ second) h e (run regs kept)

  -- both blocks of an `if`
  pub if_led : (place : ℕ) (e : Expr ℕ) (first second : Stmts ℕ) → IsEvaluated c routines f r w n wide most e → AreLed c routines f r w fr n wide most first → AreLed c routines f r w fr n wide most second → IsLed c routines f r w fr n wide most (IfStmt place e first second)
  if_led place e first second se one_led two_led o a vs s ends exit again at store regs callers m b known stands kept few =
      let both = choice first second s ends in
      let two = released both (live_all second s ends) ++ stmts_code c second s ends n exit again in
      let one = released both (live_all first s ends) ++ stmts_code c first s ends n (over two + exit) (over two + again) in
      let xs = code c e both n in
      let ys = branches n (is_plain e) one two in
      let l1 : length (xs ++ ys) ≡ length xs + length ys = length-append xs ys in
      let p = at + length xs in
      let Q = Leads f callers r.registers (places at (length (xs ++ ys)) exit again) vs vs s ends in
      let c1 = cost_all first in
      let c2 = cost_all second in
      let both_known : AreKnown n vs both = known_joined n vs (live_all first s ends) (live_all second s ends) (known_lives o n first a vs s ends b.1 known) (known_lives o n second a vs s ends b.2 known) in
      then_paid mach f r there wide (size e + (c1 + c2)) 3 (size e + (c1 + c2) + 1) at regs callers m (λ k. tested_truth w place e store k >>= (λ t. choose t (exec_all w fr first store) (exec_all w fr second store))) Q (omega arith) (omega arith)
      (λ k out ticks. follows_then mach wide (size e) 0 (c1 + c2) 3 (size e + (c1 + c2)) 3 k (at_place f at regs callers k.output) (tested_truth w place e store k) (λ t. choose t (exec_all w fr first store) (exec_all w fr second store)) f p callers (GotTruth c routines f r there wide w n most vs both store) Q (omega arith) (omega arith)
      (truth_comes c routines f r there wide w n most e o vs both place at store regs callers k se b.0 both_known (stand_front r.body at xs ys stands) kept (omega (arith, ticks, few)))
      (λ t i last le got. follows_map mach wide (c1 + c2) 3 i (at_place f p last callers i.output) (choose t (exec_all w fr first store) (exec_all w fr second store) i) (Leads f callers r.registers (record { after = p + length ys; exit = p + length ys + exit; again = p + length ys + again }) vs vs s ends) Q
      (follows_choose mach wide (c1 + c2) 3 i (at_place f p last callers i.output) t (exec_all w fr first store) (exec_all w fr second store) (Leads f callers r.registers (record { after = p + length ys; exit = p + length ys + exit; again = p + length ys + again }) vs vs s ends)
      (λ yes. follows_more mach wide c1 3 (c1 + c2) 3 i (at_place f p last callers i.output) (exec_all w fr first store i) (Leads f callers r.registers (record { after = p + length ys; exit = p + length ys + exit; again = p + length ys + again }) vs vs s ends) (omega arith) (omega arith)
      (branches_on c1 p last callers i (exec_all w fr first store i) vs both s ends exit again store both_known got.kept (is_plain e) one two (stand_back r.body at xs ys stands) (got.value ∙ ap (λ (z : Bool). Some (Truth z)) yes)
      (λ now held g standing. block_led first one_led o a vs both s ends (over two + exit) (over two + again) g store now callers i b.1 known standing (λ x h. joined_left (live_all first s ends) (live_all second s ends) x h) held (omega (arith, le, ticks, few)))))
      (λ no. follows_more mach wide c2 3 (c1 + c2) 3 i (at_place f p last callers i.output) (exec_all w fr second store i) (Leads f callers r.registers (record { after = p + length ys; exit = p + length ys + exit; again = p + length ys + again }) vs vs s ends) (omega arith) (omega arith)
      (branches_off c2 p last callers i (exec_all w fr second store i) vs both s ends exit again store both_known got.kept (is_plain e) one two (stand_back r.body at xs ys stands) (got.value ∙ ap (λ (z : Bool). Some (Truth z)) no)
      (λ now held g standing. block_led second two_led o a vs both s ends exit again g store now callers i b.2 known standing (λ x h. joined_right (live_all first s ends) (live_all second s ends) x h) held (omega (arith, le, ticks, few))))))
      (leads_moved f callers r.registers (record { after = p + length ys; exit = p + length ys + exit; again = p + length ys + again }) (places at (length (xs ++ ys)) exit again) vs vs vs s ends (λ x h. h) (λ x h. h) (omega (arith, l1)) (omega (arith, l1)) (omega (arith, l1)))))
