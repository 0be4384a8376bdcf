-- Which variables are live in front of the code of a statement: those that some path from there uses before it assigns them.
use Rattle.std.proofs.Common.{◌≡◌, ◌≢◌, ◌<◌, ◌≤◌, ◌⊎◌, inl, inr, ℕ, zero, suc, ◌+◌, List, [], ◌∷◌, ◌++◌, length, Bool, true, false, ◌&&◌, ◌||◌, ◌==◌, cond, Option, Some, None, refl, sym, ap, ◌∙◌, subst, arith}
use Rattle.wy_core.specs.CoreTree.{Expr, Step, IndexStep, FieldStep, Stmt, DeclareStmt, AssignStmt, CallStmt, ReturnStmt, AssertStmt, BreakStmt, ContinueStmt, SkipStmt, FailStmt, IfStmt, WhileStmt, Stmts, NoStmts, MoreStmts}
use Rattle.wy_code.specs.declared.instructions.Instr.{Instr}
use Rattle.wy_code.specs.declared.instructions.Instr.TheVariants as instr
use Rattle.wy_lemmas.proofs.Choices.{both_parts as and_both, or_cases, same_of, unlike as not_both, false_true as never, either}
use Rattle.wy_gen_laws.specs.wy_code_spec.declared.tables.context.Context.{Context}
use Rattle.wy_gen_laws.specs.wy_code_spec.declared.tables.targets.Target.{Target}
use Rattle.wy_gen_laws.specs.wy_code_spec.declared.tables.targets.Target.TheVariants.{Declared, Prints, PrintsInt, Nothing}
use Rattle.wy_gen_laws.specs.wy_code_spec.tables.Tables.{target}
use Rattle.wy_live.specs.Paths.{occurs, any_step_occurs, Used, UsedOrKept, Turns, IsLive, AreLive}
use Rattle.wy_live.specs.Sets.{Variables, has, with, without}
use Rattle.wy_live.specs.Walks.{before, before_steps, live, live_all, head_live, around}
use Rattle.wy_live.specs.declared.walk.Ends.{Ends}
use Rattle.wy_code.specs.declared.pieces.steps.Step.TheVariants.{Does}
use Rattle.wy_code.specs.pieces.Placing.{slot_registers}
use Rattle.wy_code.specs.pieces.Steps.{clear, over, turns, registers_from}
use Rattle.wy_gen_laws.specs.wy_code_spec.compiled.Operands.{read, standing, unless_read}
use Rattle.wy_gen_laws.specs.wy_code_spec.compiled.Expressions.{lost, released, is_plain, release_unless, count_of, code, codes}
use Rattle.wy_gen_laws.specs.wy_code_spec.compiled.Straight.{is_straight, into}
use Rattle.wy_gen_laws.specs.wy_code_spec.compiled.Statements.{store, set, index_count, slots, indices, kept, update, call_step, choice, branches, inside, turn, stmt_code, stmts_code}
use Rattle.wy_gen_sources.specs.code.Alive.{IsOne, LiveAt}
use Rattle.wy_gen_sources.specs.code.Fitting.{Fits, FitsPath, FitsStmt, FitsStmts}
use Rattle.wy_gen_sources.proofs.code_lemmas.PieceLemmas.{nat_up, less_not, none_below, Spans, front, back, tail, live_reads, live_on, live_last, turning}
use Rattle.wy_live.proofs.PathLemmas.{live_more, lives_more}
use Rattle.wy_live.proofs.LiveLemmas.{of_path, of_paths}
use Rattle.wy_live.proofs.UseLemmas.{has-before_steps}
use Rattle.wy_gen_sources.proofs.code_lemmas.SetLemmas.{other_of, Vars, before_of, without_of, with_of, joined_of, not_lost}
use Rattle.wy_gen_sources.proofs.code_lemmas.BranchLemmas.{branches_first, branches_second}
use Rattle.wy_gen_sources.proofs.code_lemmas.TestLemmas.{at_end}
use Rattle.wy_gen_sources.proofs.code_lemmas.InPlaceLemmas.{IsIts, IsLiveIn, read_its}
use Rattle.wy_gen_sources.proofs.code_lemmas.OperandLemmas.{Range}
use Rattle.wy_gen_sources.proofs.code_lemmas.ReadLemmas.{from_registers, clear_live, Low, two_ways, ReadThere, operand_live, code_live, codes_live}
use Rattle.wy_gen_sources.proofs.code_lemmas.IntoLemmas.{Passes, into_live}

pub same_or_other : (r x : ℕ) → (r ≡ x) ⊎ (r ≢ x)
same_or_other zero zero = inl refl
same_or_other zero (suc x) = inr (λ e. absurd (omega (arith, e)))
same_or_other (suc r) zero = inr (λ e. absurd (omega (arith, e)))
same_or_other (suc r) (suc x) = either (λ e. inl (ap suc e)) (λ h. inr (λ e. h (omega (arith, e)))) (same_or_other r x)

pub steps_of : (path : List (Step ℕ)) (s : Variables) (r : ℕ) → (any_step_occurs path r ≡ true) ⊎ Vars s r → Vars (before_steps path s) r
steps_of path s r h = has-before_steps path s r ∙ or_of (any_step_occurs path r) (has s r) h
  where
    or_of : (a b : Bool) → (a ≡ true) ⊎ (b ≡ true) → (a || b) ≡ true
    or_of true b h = refl
    or_of false b (inl e) = never e
    or_of false b (inr e) = e

module _ (body : List Instr) (c : Context) (n : ℕ) (R : Type 0) (U : ℕ → Type 0) (low : Low body c n U) where
  -- it is used, or it is live behind and is a variable
  abbrev G : Bool → Variables → ℕ → ℕ → Type 0
  G used s next r = (used ≡ true) ⊎ ((Vars s r ⊎ (n ≤ r)) × LiveAt body next r)

  -- a path goes on: the variable is live behind, and has to be kept till there
  abbrev On : Type 0 → Variables → ℕ → ℕ → Type 0
  On A s next r = A → Vars s r × LiveAt body next r

  reads_code : (e : Expr ℕ) → Fits c n e U → (s : Variables) (d at next r : ℕ) → n ≤ d → Spans body at (code c e s d) next → r < n → G (occurs e r) s next r → LiveAt body at r
  reads_code e fit s d at next r nd h rn way = code_live body c n e U s d at next r fit low nd h (omega (arith, rn, nd)) way

  clear_passes : (s u : Variables) (p next r : ℕ) → Spans body p (released s u) next → (Vars s r → Vars u r) → LiveAt body next r → LiveAt body p r
  clear_passes s u p next r h keep l = clear_live body (lost s u) p next r h (not_lost s u r (λ v e. not_both (has u r) (keep v) e)) l

  release_live : (plain : Bool) (d p next r : ℕ) → Spans body p (release_unless plain d) next → r ≢ d → LiveAt body next r → LiveAt body p r
  release_live true d p next r h other l = at_end body p next r h l
  release_live false d p next r h other l = clear_live body (d ∷ []) p next r h (other, tt) l

  store_live : (b plain : Bool) (x d p next r : ℕ) → Spans body p (cond b (Does (instr.Move x d) ∷ []) (release_unless plain d)) next → r ≢ x → r ≢ d → LiveAt body next r → LiveAt body p r
  store_live true plain x d p next r h one two l = live_last body p next r (instr.Move x d) h (one, (two, tt)) (inl refl) l
  store_live false plain x d p next r h one two l = release_live plain d p next r h two l

  -- a value that comes into a free register and from there into its variable
  stored_live : (x : ℕ) (e : Expr ℕ) (s : Variables) (at next r : ℕ) → Fits c n e U → Spans body at (code c e (without s x) n ++ store x s n (is_plain e)) next → r < n → Passes body c n U low (occurs e r) s x next r → LiveAt body at r
  stored_live x e s at next r fit h rn way =
      let one = code c e (without s x) n in let mid = at + length one in
      reads_code e fit (without s x) n at mid r (omega arith) (front body at one (store x s n (is_plain e)) next h) rn
      (either (λ u. inl u) (λ k. inr (inl (without_of s x r (k.0, k.1)), store_live (has s x) (is_plain e) x n mid next r (back body at one (store x s n (is_plain e)) next h) k.0 (less_not r n rn) k.2)) way)

  -- an assignment to a whole variable
  set_live : (x : ℕ) (e : Expr ℕ) (s : Variables) (at next r : ℕ) (A : Type 0) → Fits c n e U → Spans body at (set c x e s n) next → r < n → On A s next r → UsedOrKept (occurs e r) r x A → LiveAt body at r
  set_live x e s at next r A fit h rn on way =
      by (has s x && is_straight e (without s x)) refl h (either (λ u. inl u) (λ k. let l = on k.1 in inr (other_of r x k.0, l.0, l.1)) way)
    where
      by : (b : Bool) → (has s x && is_straight e (without s x)) ≡ b → Spans body at (cond b (into c e (without s x) n x) (code c e (without s x) n ++ store x s n (is_plain e))) next → Passes body c n U low (occurs e r) s x next r → LiveAt body at r
      by true is sp go = into_live body c n U low e fit s x at next r (and_both (has s x) (is_straight e (without s x)) is).1 rn sp go
      by false is sp go = stored_live x e s at next r fit sp rn go

  -- the registers that the slots of a path name: of variables that are live, and those of the other indices
  pub slots_cases : (path : List (Step ℕ)) → FitsPath c n path U → (s : Variables) (k q : ℕ) → IsOne q (slot_registers (slots c path s k)) → (Vars s q × U q) ⊎ Range k (index_count path) q
  slots_cases [] fit s k q h = absurd h
  slots_cases (IndexStep i e ∷ path) fit s k q h =
      let its = read_its c n e s U fit.0 in
      either (λ z. first (read e s) its.0 its.1 z) (λ z. either (λ v. inl v) (λ l. inr (let y = l.0 in omega (arith, y), let y = l.1 in omega (arith, y))) (slots_cases path fit.1 s (suc k) q z)) h
    where
      first : (w : Option ℕ) → IsIts U w e → IsLiveIn w s → q ≡ standing w k → (Vars s q × U q) ⊎ Range k (suc (index_count path)) q
      first None its live z = inr (omega (arith, z), omega (arith, z))
      first (Some x) its live z = inl (subst (λ (y : ℕ). Vars s y) (sym z) live, subst U (sym z) its.1)
  slots_cases (FieldStep i name ∷ path) fit s k q h = slots_cases path fit s k q h

  -- a variable that stands for an index is live where the slots are
  index_there : (w : Option ℕ) (e : Expr ℕ) (s : Variables) (d p : ℕ) → IsIts U w e → IsLiveIn w s → ((y : ℕ) → U y → Vars s y → y ≡ standing w d → LiveAt body p y) → ReadThere body c n w p
  index_there None e s d p its live at_it = tt
  index_there (Some x) e s d p its live at_it = at_it x its.1 live refl

  -- the indices of a path, where the registers that its slots name are live behind them
  indices_live : (path : List (Step ℕ)) → FitsPath c n path U → (b s : Variables) (d at next r : ℕ) → n ≤ d → ((q : ℕ) → Vars s q → Vars b q) → Spans body at (indices c path b s d) next → r < n
      → ((q : ℕ) → IsOne q (slot_registers (slots c path s d)) → LiveAt body next q) → G (any_step_occurs path r) b next r → LiveAt body at r
  indices_live [] fit b s d at next r nd within h rn slotted (inl u) = never u
  indices_live [] fit b s d at next r nd within h rn slotted (inr k) = at_end body at next r h k.1
  indices_live (IndexStep i e ∷ path) fit b s d at next r nd within h rn slotted way =
      let w = read e s in let its = read_its c n e s U fit.0 in
      let one = unless_read w (code c e (before_steps path b) d) in let mid = at + length one in
      let rest = back body at one (indices c path b s (suc d)) next h in
      let there : ReadThere body c n w mid = index_there w e s d mid its.0 its.1 (λ y u v same. indices_live path fit.1 b s (suc d) mid next y (omega (arith, nd)) within rest (low y u) (λ q z. slotted q (inr z)) (inr (inl (within y v), slotted y (inl same)))) in
      two_ways body c n (occurs e r) (any_step_occurs path r) b (before_steps path b) at mid next r (λ k. either (λ v. inl (steps_of path b r (inr v))) (λ l. inr l) k) (λ k. inl (steps_of path b r (inl k)))
      (λ g. operand_live body c n U w e its.0 (λ s2 d2 at2 next2 r2 nd2 h2 low2 way2. code_live body c n e U s2 d2 at2 next2 r2 fit.0 low nd2 h2 low2 way2) (before_steps path b) d at mid r nd (front body at one (indices c path b s (suc d)) next h) (omega (arith, rn, nd)) there g)
      (λ g. indices_live path fit.1 b s (suc d) mid next r (omega (arith, nd)) within rest rn (λ q z. slotted q (inr z)) g) way
  indices_live (FieldStep i name ∷ path) fit b s d at next r nd within h rn slotted way = indices_live path fit b s d at next r nd within h rn slotted way

  pub kept_live : (b : Bool) (x p next r : ℕ) → Spans body p (cond b [] (clear (x ∷ []))) next → r ≢ x → LiveAt body next r → LiveAt body p r
  kept_live true x p next r h other l = at_end body p next r h l
  kept_live false x p next r h other l = clear_live body (x ∷ []) p next r h (other, tt) l

  -- an assignment to a part of a variable, which is read
  update_live : (x : ℕ) (path : List (Step ℕ)) (e : Expr ℕ) (s : Variables) (at next r : ℕ) (A : Type 0) → FitsPath c n path U → Fits c n e U → Spans body at (update c x path e s n) next → r < n → On A s next r
      → Used (any_step_occurs path r || (occurs e r || (r == x))) A → LiveAt body at r
  update_live x path e s at next r A fp fe h rn on way =
      let S = with s x in let d = n + index_count path in
      let one = indices c path (before e S) s n in let two = code c e S d in
      let put : Instr = instr.Put x (slots c path s n) d in
      let mid = at + length one in let mid2 = mid + length two in
      let rest = back body at one (two ++ Does put ∷ kept x s) next h in
      let last = back body mid two (Does put ∷ kept x s) next rest in
      let at_put : (r ≡ x) ⊎ A → LiveAt body mid2 r = λ k. either (λ e2. live_reads body mid2 r put last.0.0 (inl e2))
      (λ a. either (λ e2. live_reads body mid2 r put last.0.0 (inl e2)) (λ other. live_on body mid2 (mid2 + 1) r put last.0.0 (other, (less_not r d (omega (arith, rn)), tt)) (inl refl) (kept_live (has s x) x (mid2 + 1) next r (tail body mid2 put (kept x s) next last) other (on a).1)) (same_or_other r x)) k in
      let keeps : (r ≡ x) ⊎ A → Vars S r = λ k. with_of s x r (either (λ e2. inl e2) (λ a. inr (on a).0) k) in
      let tail_way : (occurs e r ≡ true) ⊎ ((r ≡ x) ⊎ A) → LiveAt body mid r = λ k. reads_code e fe S d mid mid2 r (omega arith) (front body mid two (Does put ∷ kept x s) next rest) rn (either (λ u. inl u) (λ z. inr (inl (keeps z), at_put z)) k) in
      let before_keeps : (occurs e r ≡ true) ⊎ ((r ≡ x) ⊎ A) → Vars (before e S) r = λ k. before_of e S r (either (λ u. inl u) (λ z. inr (keeps z)) k) in
      let in_S : (q : ℕ) → Vars s q → Vars S q = λ q v. with_of s x q (inr v) in
      let slotted : (q : ℕ) → IsOne q (slot_registers (slots c path s n)) → LiveAt body mid q = λ q z.
      let l : LiveAt body mid2 q = live_reads body mid2 q put last.0.0 (inr (inr z)) in let sp = front body mid two (Does put ∷ kept x s) next rest in
      either (λ k. code_live body c n e U S d mid mid2 q fe low (omega arith) sp (let y = low q k.1 in omega (arith, y)) (inr (inl (in_S q k.0), l)))
      (λ k. code_live body c n e U S d mid mid2 q fe low (omega arith) sp k.1 (inr (inr k.0, l))) (slots_cases path fp s n q z) in
      indices_live path fp (before e S) s n at mid r (omega arith) (λ q v. before_of e S q (inr (in_S q v))) (front body at one (two ++ Does put ∷ kept x s) next h) rn slotted
      (either (λ u. either (λ z. inl z) (λ z. let k : (occurs e r ≡ true) ⊎ ((r ≡ x) ⊎ A) = either (λ w. inl w) (λ w. inr (inl (same_of r x w))) (or_cases (occurs e r) (r == x) z) in inr (inl (before_keeps k), tail_way k)) (or_cases (any_step_occurs path r) (occurs e r || (r == x)) u))
      (λ a. inr (inl (before_keeps (inr (inr a))), tail_way (inr (inr a)))) way)

  pub call_step_live : (a : Target) (g k p next r : ℕ) → Spans body p (call_step a g n k) next → r < n → LiveAt body next r → LiveAt body p r
  call_step_live (Declared true) g k p next r h rn l =
      let i : Instr = instr.Call n g (registers_from n k) in
      live_on body p (p + 1) r i h.0.0 (less_not r n rn, none_below r n (registers_from n k) rn (from_registers n n k (omega arith))) (inl refl)
      (live_last body (p + 1) next r (instr.Clear (n ∷ [])) (tail body p i (Does (instr.Clear (n ∷ [])) ∷ []) next h) (less_not r n rn, tt) (inl refl) l)
  call_step_live (Declared false) g k p next r h rn l =
      live_last body p next r (instr.Call n g (registers_from n k)) h (less_not r n rn, none_below r n (registers_from n k) rn (from_registers n n k (omega arith))) (inl refl) l
  call_step_live Prints g k p next r h rn l =
      live_on body p (p + 1) r (instr.Print n) h.0.0 tt (inl refl)
      (live_last body (p + 1) next r (instr.Clear (n ∷ [])) (tail body p (instr.Print n) (Does (instr.Clear (n ∷ [])) ∷ []) next h) (less_not r n rn, tt) (inl refl) l)
  call_step_live PrintsInt g k p next r h rn l = live_last body p next r (instr.PrintInt n) h tt (inl refl) l
  call_step_live Nothing g k p next r h rn l = at_end body p next r h l

  place_of : (p q r : ℕ) → p ≡ q → LiveAt body p r → LiveAt body q r
  place_of p q r e l = subst (λ (z : ℕ). LiveAt body z r) e l

  -- what a path needs behind it is live there
  in_after : (st : Stmt ℕ) (s : Variables) (ends : Ends) (r : ℕ) (A E Y : Type 0) → (A → Vars s r) → (E → Vars ends.exit r) → (Y → Vars ends.again r) → IsLive st r A E Y → Vars (live st s ends) r
  in_after st s ends r A E Y f g k way = of_path st s ends r (live_more st r A (Vars s r) E (Vars ends.exit r) Y (Vars ends.again r) f g k way)

  in_all : (ss : Stmts ℕ) (s : Variables) (ends : Ends) (r : ℕ) (A E Y : Type 0) → (A → Vars s r) → (E → Vars ends.exit r) → (Y → Vars ends.again r) → AreLive ss r A E Y → Vars (live_all ss s ends) r
  in_all ss s ends r A E Y f g k way = of_paths ss s ends r (lives_more ss r A (Vars s r) E (Vars ends.exit r) Y (Vars ends.again r) f g k way)

  -- what is shown of a block
  abbrev BlockLive : Stmts ℕ → ℕ → Type 1
  BlockLive ss r = (u : Variables) (ends : Ends) (exit again at to : ℕ) (X E Y : Type 0) → Spans body at (stmts_code c ss u ends n exit again) to → On X u to r → On E ends.exit (to + exit) r → On Y ends.again (to + again) r → AreLive ss r X E Y → LiveAt body at r

  -- a loop: from its head a path goes through so many turns
  turns_live : (e : Expr ℕ) (inner : Stmts ℕ) → Fits c n e U → (s : Variables) (p next r : ℕ) (A : Type 0) → r < n → BlockLive inner r
      → Spans body p (turns (code c e (turn e inner s) n) n (released (turn e inner s) (inside e inner s) ++ stmts_code c inner (head_live e inner s) (around s (head_live e inner s)) n (length (released (turn e inner s) s) + 1) 0) ++ released (turn e inner s) s) next
      → On A s next r → (k : ℕ) → Turns k (occurs e r) (λ z. AreLive inner r z A z) A → LiveAt body p r
  turns_live e inner fit s p next r A rn inner_live h on =
      let both = turn e inner s in let head = head_live e inner s in let gone = released both s in
      let block = stmts_code c inner head (around s head) n (length gone + 1) 0 in
      let start = released both (inside e inner s) in
      let inn = start ++ block in
      let test = code c e both n in
      let loop = turns test n inn in
      let long = p + length loop in
      let parts = turning body p test n inn long (front body p loop gone next h) in
      let b = parts.branch in let j = parts.jump in
      let after_all = back body p loop gone next h in
      let behind = parts.behind in
      let gone_end = after_all.1 in
      let C : ℕ → Type 0 = λ k. Turns k (occurs e r) (λ z. AreLive inner r z A z) A in
      let exits : A → Vars both r × LiveAt body b r = λ a. let o = on a in
      (joined_of (inside e inner s) s r (inr o.0), live_on body b long r (instr.Branch n long) parts.branches tt (inr (inl refl)) (clear_passes both s long next r after_all (λ v. o.0) o.1)) in
      let head_in : (k : ℕ) → C k → Vars head r = λ k way. in_after (WhileStmt 0 e [] inner) s (around s s) r A ⊥ ⊥ (λ a. (on a).0) (λ z. absurd z) (λ z. absurd z) (k, way) in
      let mid = b + 1 + length start in
      let block_span = back body (b + 1) start block j parts.inside in
      nat_up (λ k. C k → LiveAt body p r)
      (λ way. reads_code e fit both n p b r (omega arith) parts.tests rn (either (λ u. inl u) (λ a. let x = exits a in inr (inl x.0, x.1)) way))
      (λ k go way. reads_code e fit both n p b r (omega arith) parts.tests rn (either (λ u. inl u) (λ z.
      let in_inside : Vars (inside e inner s) r = in_all inner head (around s head) r (C k) A (C k) (head_in k) (λ a. (on a).0) (head_in k) z in
      let home : C k → LiveAt body j r = λ w. live_on body j p r (instr.Jump p) parts.jumps tt (inl refl) (go w) in
      inr (
        inl (joined_of (inside e inner s) s r (inl in_inside)),
        live_on body b (b + 1) r (instr.Branch n long) parts.branches tt (inl refl)
            (clear_passes both (inside e inner s) (b + 1) mid r (front body (b + 1) start block j parts.inside) (λ v. in_inside)
            (inner_live head (around s head) (length gone + 1) 0 mid j (C k) A (C k) block_span (λ w. (head_in k w, home w))
            (λ a. ((on a).0, place_of next (j + (length gone + 1)) r (omega (arith, behind, gone_end)) (on a).1)) (λ w. (head_in k w, place_of j (j + 0) r (omega arith) (home w))) z)),
      )) way))

  mutual
    -- a variable that some path from the statement on uses before it assigns it is live in front of its code
    pub stmt_live : (st : Stmt ℕ) → FitsStmt c n R st U → (s : Variables) (ends : Ends) (exit again at next r : ℕ) (A E Y : Type 0) → r < n → Spans body at (stmt_code c st s ends n exit again) next
        → On A s next r → On E ends.exit (next + exit) r → On Y ends.again (next + again) r → IsLive st r A E Y → LiveAt body at r
    stmt_live (DeclareStmt i ty x None) fit s ends exit again at next r A E Y rn h on one two way = at_end body at next r h (on way).1
    stmt_live (DeclareStmt i ty x (Some e)) fit s ends exit again at next r A E Y rn h on one two way = set_live x e s at next r A fit.1 h rn on way
    stmt_live (AssignStmt i x [] e) fit s ends exit again at next r A E Y rn h on one two way = set_live x e s at next r A fit.2 h rn on way
    stmt_live (AssignStmt i x (step ∷ path) e) fit s ends exit again at next r A E Y rn h on one two way = update_live x (step ∷ path) e s at next r A fit.1 fit.2 h rn on way
    stmt_live (CallStmt i g args) fit s ends exit again at next r A E Y rn h on one two way =
        let mid = at + length (codes c args s n) in let last = call_step (target c.results g) g n (count_of args) in
        codes_live body c n args U s n at mid r fit.1 low (omega arith) (front body at (codes c args s n) last next h) rn
        (either (λ u. inl u) (λ a. inr (inl (on a).0, call_step_live (target c.results g) g (count_of args) mid next r (back body at (codes c args s n) last next h) rn (on a).1)) way)
    stmt_live (ReturnStmt i None) fit s ends exit again at next r A E Y rn h on one two way = absurd way
    stmt_live (ReturnStmt i (Some e)) fit s ends exit again at next r A E Y rn h on one two way =
        reads_code e fit.0 [] n at (at + length (code c e [] n)) r (omega arith) (front body at (code c e [] n) (Does (instr.Return n) ∷ []) next h) rn (inl way)
    stmt_live (AssertStmt i e) fit s ends exit again at next r A E Y rn h on one two way = at_end body at next r h (on way).1
    stmt_live (BreakStmt i) fit s ends exit again at next r A E Y rn h on one two way =
        live_on body at (suc at + exit) r (instr.Jump (suc at + exit)) h.0.0 tt (inl refl) (place_of (next + exit) (suc at + exit) r (let e = h.1 in omega (arith, e)) (one way).1)
    stmt_live (ContinueStmt i) fit s ends exit again at next r A E Y rn h on one two way =
        live_on body at (suc at + again) r (instr.Jump (suc at + again)) h.0.0 tt (inl refl) (place_of (next + again) (suc at + again) r (let e = h.1 in omega (arith, e)) (two way).1)
    stmt_live (SkipStmt i) fit s ends exit again at next r A E Y rn h on one two way = at_end body at next r h (on way).1
    stmt_live (FailStmt i) fit s ends exit again at next r A E Y rn h on one two way = absurd way
    stmt_live (IfStmt i e first second) fit s ends exit again at next r A E Y rn h on one two way =
        let both = choice first second s ends in
        let clear2 = released both (live_all second s ends) in let block2 = stmts_code c second s ends n exit again in
        let code2 = clear2 ++ block2 in
        let clear1 = released both (live_all first s ends) in let block1 = stmts_code c first s ends n (over code2 + exit) (over code2 + again) in
        let code1 = clear1 ++ block1 in
        let test = code c e both n in
        let mid = at + length test in
        let rest = back body at test (branches n (is_plain e) code1 code2) next h in
        let to_s : A → Vars s r = λ a. (on a).0 in let to_e : E → Vars ends.exit r = λ w. (one w).0 in let to_y : Y → Vars ends.again r = λ w. (two w).0 in
        reads_code e fit.0 both n at mid r (omega arith) (front body at test (branches n (is_plain e) code1 code2) next h) rn
        (either (λ u. inl u) (λ w. inr (either
        (λ z. let v = in_all first s ends r A E Y to_s to_e to_y z in (
          inl (joined_of (live_all first s ends) (live_all second s ends) r (inl v)),
          branches_first body (is_plain e) mid next n code1 code2 r rest (less_not r n rn) (λ p q sp eq go.
              clear_passes both (live_all first s ends) p (p + length clear1) r (front body p clear1 block1 q sp) (λ y. v)
              (stmts_live first fit.1 s ends (over code2 + exit) (over code2 + again) (p + length clear1) q r A E Y rn (back body p clear1 block1 q sp) (λ a. ((on a).0, go (on a).1))
              (λ y. ((one y).0, place_of (next + exit) (q + (over code2 + exit)) r (omega (arith, eq)) (one y).1)) (λ y. ((two y).0, place_of (next + again) (q + (over code2 + again)) r (omega (arith, eq)) (two y).1)) z)),
        ))
        (λ z. let v = in_all second s ends r A E Y to_s to_e to_y z in (
          inl (joined_of (live_all first s ends) (live_all second s ends) r (inr v)),
          branches_second body (is_plain e) mid next n code1 code2 r rest (less_not r n rn) (λ p sp.
              clear_passes both (live_all second s ends) p (p + length clear2) r (front body p clear2 block2 next sp) (λ y. v)
              (stmts_live second fit.2 s ends exit again (p + length clear2) next r A E Y rn (back body p clear2 block2 next sp) on one two z)),
        )) w)) way)
    stmt_live (WhileStmt i e invariants inner) fit s ends exit again at next r A E Y rn h on one two way =
        turns_live e inner fit.0 s at next r A rn (λ u ends2 exit2 again2 at2 to X E2 Y2 sp o1 o2 o3 z. stmts_live inner fit.1 u ends2 exit2 again2 at2 to r X E2 Y2 rn sp o1 o2 o3 z) h on way.0 way.1

    pub stmts_live : (ss : Stmts ℕ) → FitsStmts c n R ss U → (s : Variables) (ends : Ends) (exit again at next r : ℕ) (A E Y : Type 0) → r < n → Spans body at (stmts_code c ss s ends n exit again) next
        → On A s next r → On E ends.exit (next + exit) r → On Y ends.again (next + again) r → AreLive ss r A E Y → LiveAt body at r
    stmts_live NoStmts fit s ends exit again at next r A E Y rn h on one two way = at_end body at next r h (on way).1
    stmts_live (MoreStmts st rest) fit s ends exit again at next r A E Y rn h on one two way =
        let after = stmts_code c rest s ends n exit again in
        let first = stmt_code c st (live_all rest s ends) ends n (length after + exit) (length after + again) in
        let mid = at + length first in
        let behind = back body at first after next h in
        let e2 = behind.1 in
        let to_s : A → Vars s r = λ a. (on a).0 in let to_e : E → Vars ends.exit r = λ w. (one w).0 in let to_y : Y → Vars ends.again r = λ w. (two w).0 in
        stmt_live st fit.0 (live_all rest s ends) ends (length after + exit) (length after + again) at mid r (AreLive rest r A E Y) E Y rn (front body at first after next h)
        (λ w. (in_all rest s ends r A E Y to_s to_e to_y w, stmts_live rest fit.1 s ends exit again mid next r A E Y rn behind on one two w))
        (λ w. ((one w).0, place_of (next + exit) (mid + (length after + exit)) r (omega (arith, e2)) (one w).1))
        (λ w. ((two w).0, place_of (next + again) (mid + (length after + again)) r (omega (arith, e2)) (two w).1)) way
