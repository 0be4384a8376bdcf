-- The code of a statement keeps nothing dead.
use Rattle.std.proofs.Common.{◌≡◌, ◌<◌, ◌≤◌, ◌⊎◌, inl, inr, ℕ, suc, ◌+◌, List, [], ◌∷◌, ◌++◌, length, Bool, true, false, ◌&&◌, cond, Option, Some, None, refl, sym, ◌∙◌, subst, arith}
use Rattle.wy_core.specs.CoreTree.{Expr, Exprs, Step, IndexStep, FieldStep, Stmt, DeclareStmt, AssignStmt, CallStmt, ReturnStmt, AssertStmt, BreakStmt, ContinueStmt, SkipStmt, FailStmt, IfStmt, WhileStmt, Stmts, NoStmts, MoreStmts}
use Rattle.wy_code.specs.declared.instructions.Scalar.TheVariants as scalar
use Rattle.wy_code.specs.declared.instructions.Instr.{Instr}
use Rattle.wy_code.specs.declared.instructions.Instr.TheVariants as instr
use Rattle.wy_lemmas.proofs.Choices.{both_parts as and_both, or_cases, unlike as not_both, false_true as never, either}
use Rattle.wy_gen_laws.specs.wy_code_spec.declared.tables.context.Context.{Context}
use Rattle.wy_gen_laws.specs.wy_code_spec.declared.tables.targets.Target.{Target}
use Rattle.wy_gen_laws.specs.wy_code_spec.declared.tables.targets.Target.TheVariants.{Declared, Prints, PrintsInt, Nothing}
use Rattle.wy_gen_laws.specs.wy_code_spec.tables.Tables.{target}
use Rattle.wy_live.specs.Paths.{occurs, any_step_occurs}
use Rattle.wy_live.specs.Sets.{Variables, has, with, without, joined}
use Rattle.wy_live.specs.Walks.{before, before_all, before_steps, return_live, live, live_all, alone, head_live, around}
use Rattle.wy_live.specs.declared.walk.Ends.{Ends}
use Rattle.wy_code.specs.declared.pieces.steps.Step.TheVariants.{Does}
use Rattle.wy_code.specs.pieces.Placing.{slot_registers}
use Rattle.wy_code.specs.pieces.Steps.{clear, over, turns, registers_from}
use Rattle.wy_gen_laws.specs.wy_code_spec.compiled.Operands.{read, standing, unless_read}
use Rattle.wy_gen_laws.specs.wy_code_spec.compiled.Expressions.{lost, released, is_plain, release_unless, count_of, code, codes}
use Rattle.wy_gen_laws.specs.wy_code_spec.compiled.Straight.{is_straight, into}
use Rattle.wy_gen_laws.specs.wy_code_spec.compiled.Statements.{store, set, index_count, slots, indices, kept, update, call_step, call, gives_null, give, choice, branches, inside, turn, stmt_code, stmts_code}
use Rattle.wy_gen_sources.specs.code.Large.{IsNone}
use Rattle.wy_gen_sources.specs.code.Alive.{IsOne, LiveAt}
use Rattle.wy_gen_sources.specs.code.Fitting.{Fits, FitAll, FitsOption, FitsPath, IsAction, FitsStmt, FitsStmts}
use Rattle.wy_gen_sources.proofs.code_lemmas.PieceLemmas.{nat_up, less_not, Spans, front, back, tail, ended, live_reads, live_on, turning}
use Rattle.wy_live.proofs.PathLemmas.{lives_more}
use Rattle.wy_live.proofs.LiveLemmas.{of_paths}
use Rattle.wy_live.proofs.UseLemmas.{has-before_steps}
use Rattle.wy_gen_sources.proofs.code_lemmas.SetLemmas.{Vars, before_of, with_of, joined_of, not_lost}
use Rattle.wy_gen_sources.proofs.code_lemmas.InPlaceLemmas.{IsIts, IsLiveIn, read_its}
use Rattle.wy_gen_sources.proofs.code_lemmas.ReadLemmas.{clear_live, Low}
use Rattle.wy_gen_sources.specs.code.Fitting.{MayGive}
use Rattle.wy_gen_sources.specs.code.Safe.{Gives, After}
use Rattle.wy_gen_sources.proofs.code_lemmas.SafeLemmas.{Within, safe_sooner}
use Rattle.wy_gen_sources.proofs.code_lemmas.PieceLemmas.{one_not_none, Lives, Sure, sure_less, safe_step, safe_clears, safe_jumps, safe_loops, safe_branches, safe_at, safe_returns, lives_at}
use Rattle.wy_live.proofs.LiveLemmas.{to_path, to_paths}
use Rattle.wy_gen_sources.proofs.code_lemmas.SetLemmas.{before_cases, all_cases, without_cases, with_cases, joined_cases, none_has, still_has}
use Rattle.wy_gen_sources.proofs.code_lemmas.ReadLemmas.{occurs_used, all_used}
use Rattle.wy_gen_sources.proofs.code_lemmas.OperandLemmas.{Range, in_range, ready_less, operand_safe, clear_sure}
use Rattle.wy_gen_sources.proofs.code_lemmas.BranchLemmas.{branches_first, branches_second, branches_sure}
use Rattle.wy_gen_sources.proofs.code_lemmas.ExpressionLemmas.{code_safe, codes_safe}
use Rattle.wy_gen_sources.proofs.code_lemmas.IntoLemmas.{into_safe}
use Rattle.wy_gen_sources.proofs.code_lemmas.StatementReadLemmas.{same_or_other, steps_of, slots_cases, kept_live, call_step_live, stmt_live, stmts_live}

module _ (body : List Instr) (c : Context) (n : ℕ) (R : Type 0) (U : ℕ → Type 0) (low : Low body c n U) where
  -- ---- which variables are live at all

  abbrev Kn : Variables → Type 0
  Kn s = (r : ℕ) → Vars s r → U r

  known_value : (e : Expr ℕ) → Fits c n e U → (s : Variables) → Kn s → Kn (before e s)
  known_value e fit s known r v = either (λ o. occurs_used body c n e U fit r o) (λ k. known r k) (before_cases e s r v)

  steps_cases : (path : List (Step ℕ)) (s : Variables) (r : ℕ) → Vars (before_steps path s) r → (any_step_occurs path r ≡ true) ⊎ Vars s r
  steps_cases path s r h = or_cases (any_step_occurs path r) (has s r) (sym (has-before_steps path s r) ∙ h)

  steps_used : (path : List (Step ℕ)) → FitsPath c n path U → (r : ℕ) → any_step_occurs path r ≡ true → U r
  steps_used [] fit r h = never h
  steps_used (IndexStep i e ∷ path) fit r h = either (λ k. occurs_used body c n e U fit.0 r k) (λ k. steps_used path fit.1 r k) (or_cases (occurs e r) (any_step_occurs path r) h)
  steps_used (FieldStep i name ∷ path) fit r h = steps_used path fit r h

  known_steps : (path : List (Step ℕ)) → FitsPath c n path U → (s : Variables) → Kn s → Kn (before_steps path s)
  known_steps path fit s known r v = either (λ o. steps_used path fit r o) (λ k. known r k) (steps_cases path s r v)

  known_without : (s : Variables) (x : ℕ) → Kn s → Kn (without s x)
  known_without s x known r v = known r (without_cases s x r v).1

  known_with : (s : Variables) (x : ℕ) → U x → Kn s → Kn (with s x)
  known_with s x u known r v = either (λ e. subst U (sym e) u) (λ k. known r k) (with_cases s x r v)

  known_joined : (s u : Variables) → Kn s → Kn u → Kn (joined s u)
  known_joined s u one two r v = either (λ k. one r k) (λ k. two r k) (joined_cases s u r v)

  known_none : Kn []
  known_none r v = none_has r v

  mutual
    pub known_stmt : (st : Stmt ℕ) → FitsStmt c n R st U → (s : Variables) (ends : Ends) → Kn s → Kn ends.exit → Kn ends.again → Kn (live st s ends)
    known_stmt (DeclareStmt i ty x None) fit s ends k1 k2 k3 = k1
    known_stmt (DeclareStmt i ty x (Some e)) fit s ends k1 k2 k3 = known_value e fit.1 (without s x) (known_without s x k1)
    known_stmt (AssignStmt i x [] e) fit s ends k1 k2 k3 = known_value e fit.2 (without s x) (known_without s x k1)
    known_stmt (AssignStmt i x (step ∷ path) e) fit s ends k1 k2 k3 = known_steps (step ∷ path) fit.1 (before e (with s x)) (known_value e fit.2 (with s x) (known_with s x fit.0 k1))
    known_stmt (CallStmt i g args) fit s ends k1 k2 k3 = λ r v. either (λ o. all_used body c n args U fit.1 r o) (λ k. k1 r k) (all_cases args s r v)
    known_stmt (ReturnStmt i None) fit s ends k1 k2 k3 = known_none
    known_stmt (ReturnStmt i (Some e)) fit s ends k1 k2 k3 = known_value e fit.0 [] known_none
    known_stmt (AssertStmt i e) fit s ends k1 k2 k3 = k1
    known_stmt (BreakStmt i) fit s ends k1 k2 k3 = k2
    known_stmt (ContinueStmt i) fit s ends k1 k2 k3 = k3
    known_stmt (SkipStmt i) fit s ends k1 k2 k3 = k1
    known_stmt (FailStmt i) fit s ends k1 k2 k3 = known_none
    known_stmt (IfStmt i e first second) fit s ends k1 k2 k3 =
        known_value e fit.0 (joined (live_all first s ends) (live_all second s ends)) (known_joined (live_all first s ends) (live_all second s ends) (known_stmts first fit.1 s ends k1 k2 k3) (known_stmts second fit.2 s ends k1 k2 k3))
    known_stmt (WhileStmt i e invariants inner) fit s ends k1 k2 k3 =
        known_value e fit.0 (joined (live_all inner [] (alone s)) s) (known_joined (live_all inner [] (alone s)) s (known_stmts inner fit.1 [] (alone s) known_none k1 known_none) k1)

    pub known_stmts : (ss : Stmts ℕ) → FitsStmts c n R ss U → (s : Variables) (ends : Ends) → Kn s → Kn ends.exit → Kn ends.again → Kn (live_all ss s ends)
    known_stmts NoStmts fit s ends k1 k2 k3 = k1
    known_stmts (MoreStmts st rest) fit s ends k1 k2 k3 = known_stmt st fit.0 (live_all rest s ends) ends (known_stmts rest fit.1 s ends k1 k2 k3) k2 k3

  module _ (t : Gives) (f : ℕ) (nothing : (g : ℕ) → target c.results g ≡ Declared false → t g ≡ true → ⊥) (gives : R → t f ≡ true) where
    abbrev Comes : ℕ → ℕ → (ℕ → Type 0) → Type 0
    Comes m p P = Lives body t f p P × Sure body t f m p P

    abbrev H : Expr ℕ → ℕ → ℕ → Type 0
    H e d r = (r ≡ d) × (is_plain e ≡ false)

    abbrev Full : ℕ → ℕ → (ℕ → Type 0) → Expr ℕ → ℕ → Type 0
    Full m p P e d = Lives body t f p P × Sure body t f m p (λ r. P r ⊎ H e d r)

    comes_at : (m p q : ℕ) (P : ℕ → Type 0) → p ≡ q → Comes m p P → Comes m q P
    comes_at m p q P e k = (lives_at body t f p q P e k.0, safe_at body t f m p q P e k.1)

    below : (s : Variables) → Kn s → (r : ℕ) → Vars s r → r < n
    below s known r v = low r (known r v)

    -- the value of an expression that no other waits beside
    pub value_safe : (e : Expr ℕ) → Fits c n e U → (m : ℕ) (s : Variables) (at next : ℕ) → Kn s → Spans body at (code c e s n) next → Full m next (Vars s) e n → Comes m at (Vars (before e s))
    value_safe e fit m s at next known h exit =
        ready_less body c n t f m at (Vars (before e s)) (λ r. Vars (before e s) r ⊎ ⊥) (λ r l. inl l)
        (code_safe body c n t f e U fit low m s (λ r. ⊥) n at next known (omega arith) (λ r a. absurd a) h
        ((λ r l. either (λ v. exit.0 r v) (λ z. absurd z) l), sure_less body t f m next (λ r. (Vars s r ⊎ ⊥) ⊎ H e n r) (λ r. Vars s r ⊎ H e n r) (λ r l. either (λ k. either (λ v. inl v) (λ z. absurd z) k) (λ k. inr k) l) exit.1))

    -- ---- assignments

    -- a value that isn't released is none by its form
    unsettled : {X : Type 0} (e : Expr ℕ) (r : ℕ) → is_plain e ≡ true → H e n r → X
    unsettled e r plain k = not_both (is_plain e) plain k.1

    store_leaves : (e : Expr ℕ) (b plain : Bool) (m x : ℕ) (s : Variables) (p next : ℕ) → Kn s → has s x ≡ b → is_plain e ≡ plain → Spans body p (cond b (Does (instr.Move x n) ∷ []) (release_unless plain n)) next → Comes m next (Vars s) → Full m p (Vars (without s x)) e n
    store_leaves e true plain m x s p next known is same h exit =
        let i : Instr = instr.Move x n in
        let there = comes_at m next (p + 1) (Vars s) (let z = h.1 in omega (arith, z)) exit in
        let live : Lives body t f p (λ r. Vars (without s x) r ⊎ H e n r) = λ r l. either (λ v. let w = without_cases s x r v in live_on body p (p + 1) r i h.0.0 (w.0, (less_not r n (below s known r w.1), tt)) (inl refl) (there.0 r w.1)) (λ k. live_reads body p r i h.0.0 (inl k.0)) l in (
          (λ r l. live r (inl l)),
          safe_step body t f m p i (λ r. Vars (without s x) r ⊎ H e n r) (Vars s) h.0.0 live (λ y w. w)
              (λ r l. either (λ z. either (λ v. (without_cases s x r v).1) (λ k. absurd (z.1.1.0 k.0)) z.0) (λ z. subst (λ (y : ℕ). has s y ≡ true) (sym z.0) is) l) there.1,
        )
    store_leaves e false true m x s p next known is same h exit =
        let there = comes_at m next p (Vars s) (sym (ended body p next h)) exit in
        ((λ r v. there.0 r (without_cases s x r v).1), sure_less body t f m p (λ r. Vars (without s x) r ⊎ H e n r) (Vars s) (λ r l. either (λ v. (without_cases s x r v).1) (λ k. unsettled e r same k) l) there.1)
    store_leaves e false false m x s p next known is same h exit =
        let i : Instr = instr.Clear (n ∷ []) in
        let there = comes_at m next (p + 1) (Vars s) (let z = h.1 in omega (arith, z)) exit in (
          (λ r v. let w = (without_cases s x r v).1 in live_on body p (p + 1) r i h.0.0 (less_not r n (below s known r w), tt) (inl refl) (there.0 r w)),
          safe_clears body t f m p (n ∷ []) (λ r. Vars (without s x) r ⊎ H e n r) (Vars s) h.0.0 (λ r l. either (λ v. (without_cases s x r v).1) (λ k. absurd (l.1.0 k.0)) l.0) there.1,
        )

    -- the value comes into a free register, and from there into the variable
    stored_safe : (x : ℕ) (e : Expr ℕ) → Fits c n e U → (m : ℕ) (s : Variables) (at next : ℕ) → Kn s → Spans body at (code c e (without s x) n ++ store x s n (is_plain e)) next → Comes m next (Vars s) → Comes m at (Vars (before e (without s x)))
    stored_safe x e fit m s at next known h exit =
        let one = code c e (without s x) n in let mid = at + length one in
        value_safe e fit m (without s x) at mid (known_without s x known) (front body at one (store x s n (is_plain e)) next h)
        (store_leaves e (has s x) (is_plain e) m x s mid next known refl refl (back body at one (store x s n (is_plain e)) next h) exit)

    set_safe : (x : ℕ) (e : Expr ℕ) → Fits c n e U → (m : ℕ) (s : Variables) (at next : ℕ) → Kn s → Spans body at (set c x e s n) next → Comes m next (Vars s) → Sure body t f m at (Vars (before e (without s x)))
    set_safe x e fit m s at next known h exit = (by (has s x && is_straight e (without s x)) refl h).1
      where
        by : (b : Bool) → (has s x && is_straight e (without s x)) ≡ b → Spans body at (cond b (into c e (without s x) n x) (code c e (without s x) n ++ store x s n (is_plain e))) next → Comes m at (Vars (before e (without s x)))
        by true is sp = let both = and_both (has s x) (is_straight e (without s x)) is in into_safe body c n U low t f e fit m s x at next both.1 both.0 known sp exit
        by false is sp = stored_safe x e fit m s at next known sp exit

    -- one index, whose register is read behind the others
    index_safe : (w : Option ℕ) (e : Expr ℕ) → IsIts U w e → (m : ℕ) (s b T : Variables) (A : ℕ → Type 0) (d at mid next : ℕ) (rs : List ℕ) → IsLiveIn w s → Fits c n e U → Kn T → n ≤ d → ((r : ℕ) → A r → (n ≤ r) × (r < d)) → ((r : ℕ) → Vars s r → Vars T r)
        → Spans body at (unless_read w (code c e T d)) mid
        → ((A2 : ℕ → Type 0) → ((r : ℕ) → A2 r → (n ≤ r) × (r < suc d)) → Comes m next (λ r. (Vars b r ⊎ A2 r) ⊎ IsOne r rs) → Comes m mid (λ r. Vars T r ⊎ A2 r))
        → Comes m next (λ r. (Vars b r ⊎ A r) ⊎ IsOne r (standing w d ∷ rs)) → Comes m at (λ r. Vars (before e T) r ⊎ A r)
    index_safe None e its m s b T A d at mid next rs live fit known nd around within h behind exit =
        let A2 : ℕ → Type 0 = λ r. A r ⊎ (r ≡ d) in
        let k = behind A2 (λ r a. either (λ z. let w = around r z in (w.0, let y = w.1 in omega (arith, y))) (λ z. (omega (arith, z, nd), omega (arith, z))) a)
        (ready_less body c n t f m next (λ r. (Vars b r ⊎ A2 r) ⊎ IsOne r rs) (λ r. (Vars b r ⊎ A r) ⊎ IsOne r (d ∷ rs))
        (λ r l. either (λ z. either (λ v. inl (inl v)) (λ a. either (λ y. inl (inr y)) (λ y. inr (inl y)) a) z) (λ z. inr (inr z)) l) exit) in
        code_safe body c n t f e U fit low m T A d at mid known nd around h
        ((λ r l. k.0 r (either (λ v. inl v) (λ a. inr (inl a)) l)), sure_less body t f m mid (λ r. (Vars T r ⊎ A r) ⊎ H e d r) (λ r. Vars T r ⊎ A2 r) (λ r l. either (λ z. either (λ v. inl v) (λ a. inr (inl a)) z) (λ z. inr (inr z.0)) l) k.1)
    index_safe (Some x) e its m s b T A d at mid next rs live fit known nd around within h behind exit =
        let k = behind A (λ r a. let w = around r a in (w.0, let y = w.1 in omega (arith, y)))
        (ready_less body c n t f m next (λ r. (Vars b r ⊎ A r) ⊎ IsOne r rs) (λ r. (Vars b r ⊎ A r) ⊎ IsOne r (x ∷ rs)) (λ r l. either (λ z. inl z) (λ z. inr (inr z)) l) exit) in
        operand_safe body c n t f U low (Some x) e its (code_safe body c n t f e U fit low) m T A d at mid known nd around h
        (ready_less body c n t f m mid (λ r. (Vars T r ⊎ A r) ⊎ (r ≡ x)) (λ r. Vars T r ⊎ A r) (λ r l. either (λ z. z) (λ z. inl (subst (λ (y : ℕ). Vars T y) (sym z) (within x live))) l) k)

    -- the indices of a path, whose registers are read behind them
    indices_safe : (path : List (Step ℕ)) → FitsPath c n path U → (m : ℕ) (b s : Variables) (A : ℕ → Type 0) (d at next : ℕ) → Kn b → ((r : ℕ) → Vars s r → Vars b r) → n ≤ d → ((r : ℕ) → A r → (n ≤ r) × (r < d)) → Spans body at (indices c path b s d) next
        → Comes m next (λ r. (Vars b r ⊎ A r) ⊎ IsOne r (slot_registers (slots c path s d))) → Comes m at (λ r. Vars (before_steps path b) r ⊎ A r)
    indices_safe [] fit m b s A d at next known within nd around h exit =
        comes_at m next at (λ r. Vars b r ⊎ A r) (sym (ended body at next h)) (ready_less body c n t f m next (λ r. Vars b r ⊎ A r) (λ r. (Vars b r ⊎ A r) ⊎ ⊥) (λ r l. inl l) exit)
    indices_safe (IndexStep i e ∷ path) fit m b s A d at next known within nd around h exit =
        let T = before_steps path b in
        let w = read e s in let its = read_its c n e s U fit.0 in
        let one = unless_read w (code c e T d) in let mid = at + length one in
        index_safe w e its.0 m s b T A d at mid next (slot_registers (slots c path s (suc d))) its.1 fit.0 (known_steps path fit.1 b known) nd around (λ r v. steps_of path b r (inr (within r v))) (front body at one (indices c path b s (suc d)) next h)
        (λ A2 around2 exit2. indices_safe path fit.1 m b s A2 (suc d) mid next known within (omega (arith, nd)) around2 (back body at one (indices c path b s (suc d)) next h) exit2) exit
    indices_safe (FieldStep i name ∷ path) fit m b s A d at next known within nd around h exit = indices_safe path fit m b s A d at next known within nd around h exit

    kept_sure : (b : Bool) (m x : ℕ) (s : Variables) (p next : ℕ) → has s x ≡ b → Spans body p (cond b [] (clear (x ∷ []))) next → Sure body t f m next (Vars s) → Sure body t f m p (λ r. Vars s r ⊎ (r ≡ x))
    kept_sure true m x s p next is h safe = safe_at body t f m next p (λ r. Vars s r ⊎ (r ≡ x)) (sym (ended body p next h)) (sure_less body t f m next (λ r. Vars s r ⊎ (r ≡ x)) (Vars s) (λ r l. either (λ v. v) (λ e. subst (λ (y : ℕ). has s y ≡ true) (sym e) is) l) safe)
    kept_sure false m x s p next is h safe = clear_sure body c n t f m p next (x ∷ []) (λ r. Vars s r ⊎ (r ≡ x)) (Vars s) h (λ r l none. either (λ v. v) (λ e. absurd (none.0 e)) l) safe

    update_safe : (x : ℕ) (path : List (Step ℕ)) (e : Expr ℕ) → U x → FitsPath c n path U → Fits c n e U → (m : ℕ) (s : Variables) (at next : ℕ) → Kn s → Spans body at (update c x path e s n) next → Comes m next (Vars s) → Sure body t f m at (Vars (before_steps path (before e (with s x))))
    update_safe x path e ux fp fe m s at next known h exit =
        let S = with s x in let k = index_count path in let d = n + k in
        let one = indices c path (before e S) s n in let two = code c e S d in
        let put : Instr = instr.Put x (slots c path s n) d in
        let rs = slot_registers (slots c path s n) in
        let mid = at + length one in let mid2 = mid + length two in
        let rest = back body at one (two ++ Does put ∷ kept x s) next h in
        let last = back body mid two (Does put ∷ kept x s) next rest in
        let end = tail body mid2 put (kept x s) next last in
        let known_S = known_with s x ux known in
        -- the registers of the indices that are evaluated
        let A : ℕ → Type 0 = λ r. IsOne r rs × (n ≤ r) in
        let around : (r : ℕ) → A r → (n ≤ r) × (r < d) = λ r a. (a.1, either (λ v. let y = low r v.1 in let z = a.1 in absurd (omega (arith, y, z))) (λ l. l.1) (slots_cases body c n R U low path fp s n r a.0)) in
        let P : ℕ → Type 0 = λ r. (Vars S r ⊎ A r) ⊎ H e d r in
        let live_S : (r : ℕ) → Vars S r → LiveAt body mid2 r = λ r v. either (λ z. live_reads body mid2 r put last.0.0 (inl z))
        (λ other. let w = either (λ z. absurd (other z)) (λ z. z) (with_cases s x r v) in
        live_on body mid2 (mid2 + 1) r put last.0.0 (other, (less_not r d (let y = below s known r w in omega (arith, y)), tt)) (inl refl) (kept_live body c n R U low (has s x) x (mid2 + 1) next r end other (exit.0 r w))) (same_or_other r x) in
        let live_P : Lives body t f mid2 P = λ r l. either (λ z. either (λ v. live_S r v) (λ y. live_reads body mid2 r put last.0.0 (inr (inr y.0))) z) (λ z. live_reads body mid2 r put last.0.0 (inr (inl z.0))) l in
        let after_put : Within (After t put P) (λ r. Vars s r ⊎ (r ≡ x)) = λ r l. either (λ z. either (λ y. either (λ v. either (λ w. inr w) (λ w. inl w) (with_cases s x r v)) (λ y2. absurd (one_not_none r rs y2.0 z.1.1.1)) y) (λ y. absurd (z.1.1.0 y.0)) z.0) (λ z. inr z) l in
        let at_put = safe_step body t f m mid2 put P (λ r. Vars s r ⊎ (r ≡ x)) last.0.0 live_P (λ y w. w) after_put (kept_sure (has s x) m x s (mid2 + 1) next refl end exit.1) in
        let at_value = code_safe body c n t f e U fe low m S A d mid mid2 known_S (omega arith) around (front body mid two (Does put ∷ kept x s) next rest) ((λ r l. live_P r (inl l)), at_put) in
        let within : (r : ℕ) → Vars s r → Vars (before e S) r = λ r v. before_of e S r (inr (with_of s x r (inr v))) in
        (ready_less body c n t f m at (Vars (before_steps path (before e S))) (λ r. Vars (before_steps path (before e S)) r ⊎ ⊥) (λ r l. inl l)
        (indices_safe path fp m (before e S) s (λ r. ⊥) n at mid (known_value e fe S known_S) within (omega arith) (λ r a. absurd a) (front body at one (two ++ Does put ∷ kept x s) next h)
        (ready_less body c n t f m mid (λ r. (Vars (before e S) r ⊎ ⊥) ⊎ IsOne r rs) (λ r. Vars (before e S) r ⊎ A r)
        (λ r l. either (λ z. either (λ v. inl v) (λ y. absurd y) z) (λ z. either (λ v. inl (within r v.0)) (λ y. inr (z, y.0)) (slots_cases body c n R U low path fp s n r z)) l) at_value))).1

    -- ---- calls

    call_step_ready : (a : Target) (g k m : ℕ) (s : Variables) (p next : ℕ) → target c.results g ≡ a → IsAction a k → Kn s → Spans body p (call_step a g n k) next → Comes m next (Vars s) → Comes m p (λ r. Vars s r ⊎ Range n k r)
    call_step_ready (Declared true) g k m s p next is act known h exit =
        let i : Instr = instr.Call n g (registers_from n k) in let j : Instr = instr.Clear (n ∷ []) in
        let two = tail body p i (Does j ∷ []) next h in
        let e : next ≡ p + 1 + 1 = (let z = two.1 in omega (arith, z)) in
        let none_of : (r : ℕ) → Vars s r ⊎ Range n k r → IsNone r (registers_from n k) → Vars s r = λ r l none. either (λ v. v) (λ z. absurd (one_not_none r (registers_from n k) (in_range n k r z) none)) l in
        let live : Lives body t f p (λ r. Vars s r ⊎ Range n k r) = λ r l. either (λ v. call_step_live body c n R U low (Declared true) g k p next r h (below s known r v) (exit.0 r v)) (λ z. live_reads body p r i h.0.0 (in_range n k r z)) l in (
          live,
          safe_step body t f m p i (λ r. Vars s r ⊎ Range n k r) (λ r. Vars s r ⊎ (r ≡ n)) h.0.0 live
              (λ y w. ((λ r l none. less_not r n (below s known r (none_of r l none))), w))
              (λ r l. either (λ z. inl (none_of r z.0 z.1)) (λ z. inr z.0) l)
              (safe_clears body t f m (p + 1) (n ∷ []) (λ r. Vars s r ⊎ (r ≡ n)) (Vars s) two.0.0 (λ r l. either (λ v. v) (λ z. absurd (l.1.0 z)) l.0) (safe_at body t f m next (p + 1 + 1) (Vars s) e exit.1)),
        )
    call_step_ready (Declared false) g k m s p next is act known h exit =
        let i : Instr = instr.Call n g (registers_from n k) in
        let e : next ≡ p + 1 = (let z = h.1 in omega (arith, z)) in
        let none_of : (r : ℕ) → Vars s r ⊎ Range n k r → IsNone r (registers_from n k) → Vars s r = λ r l none. either (λ v. v) (λ z. absurd (one_not_none r (registers_from n k) (in_range n k r z) none)) l in
        let live : Lives body t f p (λ r. Vars s r ⊎ Range n k r) = λ r l. either (λ v. call_step_live body c n R U low (Declared false) g k p next r h (below s known r v) (exit.0 r v)) (λ z. live_reads body p r i h.0.0 (in_range n k r z)) l in (
          live,
          safe_step body t f m p i (λ r. Vars s r ⊎ Range n k r) (Vars s) h.0.0 live
              (λ y w. ((λ r l none. less_not r n (below s known r (none_of r l none))), w))
              (λ r l. either (λ z. none_of r z.0 z.1) (λ z. absurd (nothing g is z.1)) l) (safe_at body t f m next (p + 1) (Vars s) e exit.1),
        )
    call_step_ready Prints g k m s p next is act known h exit =
        let i : Instr = instr.Print n in let j : Instr = instr.Clear (n ∷ []) in
        let two = tail body p i (Does j ∷ []) next h in
        let e : next ≡ p + 1 + 1 = (let z = two.1 in omega (arith, z)) in
        let only : (r : ℕ) → Range n k r → r ≡ n = λ r z. let a = z.0 in let b = z.1 in omega (arith, a, b, act) in
        let live : Lives body t f p (λ r. Vars s r ⊎ Range n k r) = λ r l. either (λ v. call_step_live body c n R U low Prints g k p next r h (below s known r v) (exit.0 r v)) (λ z. live_reads body p r i h.0.0 (inl (only r z))) l in (
          live,
          safe_step body t f m p i (λ r. Vars s r ⊎ Range n k r) (λ r. Vars s r ⊎ Range n k r) h.0.0 live (λ y w. w) (λ r l. either (λ z. z.0) (λ z. absurd z) l)
              (safe_clears body t f m (p + 1) (n ∷ []) (λ r. Vars s r ⊎ Range n k r) (Vars s) two.0.0 (λ r l. either (λ v. v) (λ z. absurd (l.1.0 (only r z))) l.0) (safe_at body t f m next (p + 1 + 1) (Vars s) e exit.1)),
        )
    call_step_ready PrintsInt g k m s p next is act known h exit =
        let i : Instr = instr.PrintInt n in
        let e : next ≡ p + 1 = (let z = h.1 in omega (arith, z)) in
        let only : (r : ℕ) → Range n k r → r ≡ n = λ r z. let a = z.0 in let b = z.1 in omega (arith, a, b, act) in
        let live : Lives body t f p (λ r. Vars s r ⊎ Range n k r) = λ r l. either (λ v. call_step_live body c n R U low PrintsInt g k p next r h (below s known r v) (exit.0 r v)) (λ z. live_reads body p r i h.0.0 (inl (only r z))) l in
        (live, safe_step body t f m p i (λ r. Vars s r ⊎ Range n k r) (Vars s) h.0.0 live (λ y w. w) (λ r l. either (λ z. either (λ v. v) (λ y. absurd (z.1.0 (only r y))) z.0) (λ z. absurd z) l) (safe_at body t f m next (p + 1) (Vars s) e exit.1))
    call_step_ready Nothing g k m s p next is act known h exit = absurd act

    call_safe : (g : ℕ) (args : Exprs ℕ) → IsAction (target c.results g) (count_of args) → FitAll c n args U → (m : ℕ) (s : Variables) (at next : ℕ) → Kn s → Spans body at (call c g args s n) next → Comes m next (Vars s) → Sure body t f m at (Vars (before_all args s))
    call_safe g args act fit m s at next known h exit =
        let one = codes c args s n in let last = call_step (target c.results g) g n (count_of args) in let mid = at + length one in
        (ready_less body c n t f m at (Vars (before_all args s)) (λ r. Vars (before_all args s) r ⊎ ⊥) (λ r l. inl l)
        (codes_safe body c n t f args U fit low m s (λ r. ⊥) n at mid known (omega arith) (λ r a. absurd a) (front body at one last next h)
        (ready_less body c n t f m mid (λ r. (Vars s r ⊎ ⊥) ⊎ Range n (count_of args) r) (λ r. Vars s r ⊎ Range n (count_of args) r) (λ r l. either (λ z. either (λ v. inl v) (λ y. absurd y) z) (λ z. inr z) l)
        (call_step_ready (target c.results g) g (count_of args) m s mid next refl act known (back body at one last next h) exit)))).1

    -- ---- ways out

    pub gives_null_sure : (m at next : ℕ) → Spans body at (gives_null n) next → Sure body t f m at (Vars [])
    gives_null_sure m at next h =
        let i : Instr = instr.Const n scalar.Null in
        safe_step body t f m at i (Vars []) (Vars []) h.0.0 (λ r v. none_has r v) (λ y w. w) (λ r l. either (λ z. z.0) (λ z. absurd z) l)
        (safe_returns body t f m (at + 1) n (Vars []) h.0.1.0 (λ r v. none_has r v) (λ l. none_has n l))

    give_sure : (value : Option (Expr ℕ)) → FitsOption c n value U → MayGive R value → (m at next : ℕ) → Spans body at (give c value n) next → Sure body t f m at (Vars (return_live value))
    give_sure None fit may m at next h = gives_null_sure m at next h
    give_sure (Some e) fit may m at next h =
        let i : Instr = instr.Return n in
        let one = code c e [] n in let mid = at + length one in
        let last = back body at one (Does i ∷ []) next h in
        (value_safe e fit m [] at mid known_none (front body at one (Does i ∷ []) next h)
        ((λ r v. none_has r v), safe_returns body t f m mid n (λ r. Vars [] r ⊎ H e n r) last.0.0 (λ r l. either (λ v. none_has r v) (λ z. live_reads body mid r i last.0.0 (inl z.0)) l) (λ l. gives may))).1

    -- ---- blocks

    -- what is live in front of a block
    block_lives : (ss : Stmts ℕ) → FitsStmts c n R ss U → (s : Variables) (ends : Ends) (exit again at next : ℕ) → Kn s → Kn ends.exit → Kn ends.again → Spans body at (stmts_code c ss s ends n exit again) next
        → Lives body t f next (Vars s) → Lives body t f (next + exit) (Vars ends.exit) → Lives body t f (next + again) (Vars ends.again) → Lives body t f at (Vars (live_all ss s ends))
    block_lives ss fit s ends exit again at next k1 k2 k3 h l1 l2 l3 r v =
        stmts_live body c n R U low ss fit s ends exit again at next r (Vars s r) (Vars ends.exit r) (Vars ends.again r) (low r (known_stmts ss fit s ends k1 k2 k3 r v)) h (λ z. (z, l1 r z)) (λ z. (z, l2 r z)) (λ z. (z, l3 r z)) (to_paths ss s ends r v)

    -- what is shown of a block
    abbrev BlockSafe : Stmts ℕ → Type 0
    BlockSafe ss = (m : ℕ) (s : Variables) (ends : Ends) (exit again at next : ℕ) → Kn s → Kn ends.exit → Kn ends.again → Spans body at (stmts_code c ss s ends n exit again) next
        → Comes m next (Vars s) → Comes m (next + exit) (Vars ends.exit) → Comes m (next + again) (Vars ends.again) → Sure body t f m at (Vars (live_all ss s ends))

    -- what the other block alone uses is released in front
    opened_sure : (ss : Stmts ℕ) → BlockSafe ss → (both : Variables) (m : ℕ) (s : Variables) (ends : Ends) (exit again at next : ℕ) → Kn s → Kn ends.exit → Kn ends.again → Spans body at (released both (live_all ss s ends) ++ stmts_code c ss s ends n exit again) next
        → Comes m next (Vars s) → Comes m (next + exit) (Vars ends.exit) → Comes m (next + again) (Vars ends.again) → Sure body t f m at (Vars both)
    opened_sure ss is both m s ends exit again at next k1 k2 k3 h e1 e2 e3 =
        let one = released both (live_all ss s ends) in let rest = stmts_code c ss s ends n exit again in let mid = at + length one in
        clear_sure body c n t f m at mid (lost both (live_all ss s ends)) (Vars both) (Vars (live_all ss s ends)) (front body at one rest next h) (λ r v none. still_has both (live_all ss s ends) r v none)
        (is m s ends exit again mid next k1 k2 k3 (back body at one rest next h) e1 e2 e3)

    opened_live : (ss : Stmts ℕ) → FitsStmts c n R ss U → (both : Variables) (s : Variables) (ends : Ends) (exit again at next r : ℕ) → Kn s → Kn ends.exit → Kn ends.again → Spans body at (released both (live_all ss s ends) ++ stmts_code c ss s ends n exit again) next
        → (Vars s r → LiveAt body next r) → (Vars ends.exit r → LiveAt body (next + exit) r) → (Vars ends.again r → LiveAt body (next + again) r) → Vars (live_all ss s ends) r → LiveAt body at r
    opened_live ss fit both s ends exit again at next r k1 k2 k3 h l1 l2 l3 v =
        let one = released both (live_all ss s ends) in let rest = stmts_code c ss s ends n exit again in let mid = at + length one in
        clear_live body (lost both (live_all ss s ends)) at mid r (front body at one rest next h) (not_lost both (live_all ss s ends) r (λ w e. not_both (has (live_all ss s ends) r) v e))
        (stmts_live body c n R U low ss fit s ends exit again mid next r (Vars s r) (Vars ends.exit r) (Vars ends.again r) (low r (known_stmts ss fit s ends k1 k2 k3 r v)) (back body at one rest next h) (λ z. (z, l1 z)) (λ z. (z, l2 z)) (λ z. (z, l3 z)) (to_paths ss s ends r v))

    if_safe : (e : Expr ℕ) (first second : Stmts ℕ) → Fits c n e U → FitsStmts c n R first U → FitsStmts c n R second U → BlockSafe first → BlockSafe second
        → (m : ℕ) (s : Variables) (ends : Ends) (exit again at next : ℕ) → Kn s → Kn ends.exit → Kn ends.again → Spans body at (stmt_code c (IfStmt 0 e first second) s ends n exit again) next
        → Comes m next (Vars s) → Comes m (next + exit) (Vars ends.exit) → Comes m (next + again) (Vars ends.again) → Sure body t f m at (Vars (before e (choice first second s ends)))
    if_safe e first second fe f1 f2 one two m s ends exit again at next k1 k2 k3 h e1 e2 e3 =
        let l1 = live_all first s ends in let l2 = live_all second s ends in
        let both = choice first second s ends in
        let code2 = released both l2 ++ stmts_code c second s ends n exit again in
        let code1 = released both l1 ++ stmts_code c first s ends n (over code2 + exit) (over code2 + again) in
        let test = code c e both n in
        let mid = at + length test in
        let rest = back body at test (branches n (is_plain e) code1 code2) next h in
        let known_both = known_joined l1 l2 (known_stmts first f1 s ends k1 k2 k3) (known_stmts second f2 s ends k1 k2 k3) in
        let live_both : Lives body t f mid (Vars both) = λ r v. either
        (λ w. branches_first body (is_plain e) mid next n code1 code2 r rest (less_not r n (below both known_both r v)) (λ p q sp eq go. opened_live first f1 both s ends (over code2 + exit) (over code2 + again) p q r k1 k2 k3 sp (λ z. go (e1.0 r z))
        (λ z. subst (λ (y : ℕ). LiveAt body y r) (omega (arith, eq)) (e2.0 r z)) (λ z. subst (λ (y : ℕ). LiveAt body y r) (omega (arith, eq)) (e3.0 r z)) w))
        (λ w. branches_second body (is_plain e) mid next n code1 code2 r rest (less_not r n (below both known_both r v)) (λ p sp. opened_live second f2 both s ends exit again p next r k1 k2 k3 sp (λ z. e1.0 r z) (λ z. e2.0 r z) (λ z. e3.0 r z) w))
        (joined_cases l1 l2 r v) in
        (value_safe e fe m both at mid known_both (front body at test (branches n (is_plain e) code1 code2) next h) (
          live_both,
          branches_sure body t f m mid next n (is_plain e) code1 code2 (Vars both) (Vars s) rest live_both e1.0
              (λ p q sp eq lq sq. opened_sure first one both m s ends (over code2 + exit) (over code2 + again) p q k1 k2 k3 sp (lq, sq)
              (comes_at m (next + exit) (q + (over code2 + exit)) (Vars ends.exit) (omega (arith, eq)) e2) (comes_at m (next + again) (q + (over code2 + again)) (Vars ends.again) (omega (arith, eq)) e3))
              (λ p sp. opened_sure second two both m s ends exit again p next k1 k2 k3 sp e1 e2 e3) e1.1,
        )).1

    while_safe : (e : Expr ℕ) (inner : Stmts ℕ) → Fits c n e U → FitsStmts c n R inner U → BlockSafe inner → (m : ℕ) (s : Variables) (ends : Ends) (exit again at next : ℕ) → Kn s → Kn ends.exit → Kn ends.again
        → Spans body at (stmt_code c (WhileStmt 0 e [] inner) s ends n exit again) next → Comes m next (Vars s) → Sure body t f m at (Vars (head_live e inner s))
    while_safe e inner fe fi block_safe m s ends exit again p next k1 k2 k3 h e1 =
        let both = turn e inner s in let head = head_live e inner s in let gone_code = released both s in
        let ins = inside e inner s in
        let block = stmts_code c inner head (around s head) n (length gone_code + 1) 0 in
        let start = released both ins in
        let inn = start ++ block in
        let test = code c e both n in
        let loop = turns test n inn in
        let long = p + length loop in
        let parts = turning body p test n inn long (front body p loop gone_code next h) in
        let b = parts.branch in let j = parts.jump in
        let after_all = back body p loop gone_code next h in
        let behind = parts.behind in let gone_end = after_all.1 in
        let once = live_all inner [] (alone s) in
        let known_head : Kn head = known_value e fe (joined once s) (known_joined once s (known_stmts inner fi [] (alone s) known_none k1 known_none) k1) in
        let known_ins : Kn ins = known_stmts inner fi head (around s head) known_head k1 known_head in
        let known_both = known_joined ins s known_ins k1 in
        let head_lives : (r : ℕ) → Vars head r → LiveAt body p r = λ r v.
        stmt_live body c n R U low (WhileStmt 0 e [] inner) (fe, fi) s (around s s) exit again p next r (Vars s r) ⊥ ⊥ (low r (known_head r v)) h (λ z. (z, e1.0 r z)) (λ z. absurd z) (λ z. absurd z)
        (let w = to_path (WhileStmt 0 e [] inner) s (around s s) r v in w) in
        let live_j : Lives body t f j (Vars head) = λ r v. live_on body j p r (instr.Jump p) parts.jumps tt (inl refl) (head_lives r v) in
        let place_x : next ≡ j + (length gone_code + 1) = omega (arith, behind, gone_end) in
        let place_j : j ≡ j + 0 = omega arith in
        let live_both : Lives body t f b (Vars both) = λ r v. either
        (λ w. live_on body b (b + 1) r (instr.Branch n long) parts.branches tt (inl refl)
        (opened_live inner fi both head (around s head) (length gone_code + 1) 0 (b + 1) j r known_head k1 known_head parts.inside (λ z. live_j r z) (λ z. subst (λ (y : ℕ). LiveAt body y r) place_x (e1.0 r z)) (λ z. subst (λ (y : ℕ). LiveAt body y r) place_j (live_j r z)) w))
        (λ w. live_on body b long r (instr.Branch n long) parts.branches tt (inr (inl refl)) (clear_live body (lost both s) long next r after_all (not_lost both s r (λ y z. not_both (has s r) w z)) (e1.0 r w)))
        (joined_cases ins s r v) in
        let grown : (r : ℕ) → Vars head r → Vars (before e both) r = λ r v. before_of e both r (either (λ o. inl o) (λ w. inr (joined_of ins s r (either
        (λ y. inl (of_paths inner head (around s head) r (lives_more inner r (Vars [] r) (Vars head r) (Vars s r) (Vars s r) (Vars [] r) (Vars head r) (λ z. none_has r z) (λ z. z) (λ z. none_has r z) (to_paths inner [] (alone s) r y))))
        (λ y. inr y) (joined_cases once s r w)))) (before_cases e (joined once s) r v)) in
        let P0 : ℕ → Type 0 = Vars (before e both) in
        let reads_head : Lives body t f p P0 = (value_safe e fe 0 both p b known_both parts.tests (live_both, tt)).0 in
        let rounds : (k : ℕ) → Sure body t f k next (Vars s) → Sure body t f k p P0 = nat_up (λ k. Sure body t f k next (Vars s) → Sure body t f k p P0) (λ z. tt) (λ k less safe.
        let at_long : Sure body t f (suc k) long (Vars both) = clear_sure body c n t f (suc k) long next (lost both s) (Vars both) (Vars s) after_all (λ r v none. still_has both s r v none) safe in
        let at_j : Sure body t f (suc k) j (Vars head) = safe_loops body t f k j p (Vars head) P0 parts.jumps reads_head (λ r v. grown r v) (less (safe_sooner t f body k next (Vars s) safe)) in
        let opened = opened_sure inner block_safe both (suc k) head (around s head) (length gone_code + 1) 0 (b + 1) j known_head k1 known_head parts.inside (live_j, at_j)
        (comes_at (suc k) next (j + (length gone_code + 1)) (Vars s) place_x (e1.0, safe)) (comes_at (suc k) j (j + 0) (Vars head) place_j (live_j, at_j)) in
        let live_b : Lives body t f b (λ r. Vars both r ⊎ H e n r) = λ r l. either (λ v. live_both r v) (λ z. live_reads body b r (instr.Branch n long) parts.branches (inl z.0)) l in
        (value_safe e fe (suc k) both p b known_both parts.tests (
          live_both,
          safe_branches body t f (suc k) b n long (λ r. Vars both r ⊎ H e n r) (Vars both) (Vars both) parts.branches live_b
              (λ r l. either (λ v. v) (λ z. absurd (l.1 z.0)) l.0) (λ r l. either (λ v. v) (λ z. absurd (l.1 z.0)) l.0) opened at_long,
        )).1) in
        sure_less body t f m p (Vars head) P0 (λ r v. grown r v) (rounds m e1.1)

    mutual
      -- the code of a statement keeps nothing dead, where what is live at each way out of it is so
      pub stmt_safe : (st : Stmt ℕ) → FitsStmt c n R st U → (m : ℕ) (s : Variables) (ends : Ends) (exit again at next : ℕ) → Kn s → Kn ends.exit → Kn ends.again → Spans body at (stmt_code c st s ends n exit again) next
          → Comes m next (Vars s) → Comes m (next + exit) (Vars ends.exit) → Comes m (next + again) (Vars ends.again) → Sure body t f m at (Vars (live st s ends))
      stmt_safe (DeclareStmt i ty x None) fit m s ends exit again at next k1 k2 k3 h e1 e2 e3 = safe_at body t f m next at (Vars s) (sym (ended body at next h)) e1.1
      stmt_safe (DeclareStmt i ty x (Some e)) fit m s ends exit again at next k1 k2 k3 h e1 e2 e3 = set_safe x e fit.1 m s at next k1 h e1
      stmt_safe (AssignStmt i x [] e) fit m s ends exit again at next k1 k2 k3 h e1 e2 e3 = set_safe x e fit.2 m s at next k1 h e1
      stmt_safe (AssignStmt i x (step ∷ path) e) fit m s ends exit again at next k1 k2 k3 h e1 e2 e3 = update_safe x (step ∷ path) e fit.0 fit.1 fit.2 m s at next k1 h e1
      stmt_safe (CallStmt i g args) fit m s ends exit again at next k1 k2 k3 h e1 e2 e3 = call_safe g args fit.0 fit.1 m s at next k1 h e1
      stmt_safe (ReturnStmt i value) fit m s ends exit again at next k1 k2 k3 h e1 e2 e3 = give_sure value fit.0 fit.1 m at next h
      stmt_safe (AssertStmt i e) fit m s ends exit again at next k1 k2 k3 h e1 e2 e3 = safe_at body t f m next at (Vars s) (sym (ended body at next h)) e1.1
      stmt_safe (BreakStmt i) fit m s ends exit again at next k1 k2 k3 h e1 e2 e3 =
          let there = comes_at m (next + exit) (suc at + exit) (Vars ends.exit) (let e = h.1 in omega (arith, e)) e2 in
          safe_jumps body t f m at (suc at + exit) (Vars ends.exit) (Vars ends.exit) h.0.0 there.0 (λ r v. v) there.1
      stmt_safe (ContinueStmt i) fit m s ends exit again at next k1 k2 k3 h e1 e2 e3 =
          let there = comes_at m (next + again) (suc at + again) (Vars ends.again) (let e = h.1 in omega (arith, e)) e3 in
          safe_jumps body t f m at (suc at + again) (Vars ends.again) (Vars ends.again) h.0.0 there.0 (λ r v. v) there.1
      stmt_safe (SkipStmt i) fit m s ends exit again at next k1 k2 k3 h e1 e2 e3 = safe_at body t f m next at (Vars s) (sym (ended body at next h)) e1.1
      stmt_safe (FailStmt i) fit m s ends exit again at next k1 k2 k3 h e1 e2 e3 = gives_null_sure m at next h
      stmt_safe (IfStmt i e first second) fit m s ends exit again at next k1 k2 k3 h e1 e2 e3 =
          if_safe e first second fit.0 fit.1 fit.2 (λ m2 s2 ends2 x2 a2 at2 n2 q1 q2 q3 sp c1 c2 c3. stmts_safe first fit.1 m2 s2 ends2 x2 a2 at2 n2 q1 q2 q3 sp c1 c2 c3) (λ m2 s2 ends2 x2 a2 at2 n2 q1 q2 q3 sp c1 c2 c3. stmts_safe second fit.2 m2 s2 ends2 x2 a2 at2 n2 q1 q2 q3 sp c1 c2 c3)
          m s ends exit again at next k1 k2 k3 h e1 e2 e3
      stmt_safe (WhileStmt i e invariants inner) fit m s ends exit again at next k1 k2 k3 h e1 e2 e3 =
          while_safe e inner fit.0 fit.1 (λ m2 s2 ends2 x2 a2 at2 n2 q1 q2 q3 sp c1 c2 c3. stmts_safe inner fit.1 m2 s2 ends2 x2 a2 at2 n2 q1 q2 q3 sp c1 c2 c3) m s ends exit again at next k1 k2 k3 h e1

      pub stmts_safe : (ss : Stmts ℕ) → FitsStmts c n R ss U → (m : ℕ) (s : Variables) (ends : Ends) (exit again at next : ℕ) → Kn s → Kn ends.exit → Kn ends.again → Spans body at (stmts_code c ss s ends n exit again) next
          → Comes m next (Vars s) → Comes m (next + exit) (Vars ends.exit) → Comes m (next + again) (Vars ends.again) → Sure body t f m at (Vars (live_all ss s ends))
      stmts_safe NoStmts fit m s ends exit again at next k1 k2 k3 h e1 e2 e3 = safe_at body t f m next at (Vars s) (sym (ended body at next h)) e1.1
      stmts_safe (MoreStmts st rest) fit m s ends exit again at next k1 k2 k3 h e1 e2 e3 =
          let after = stmts_code c rest s ends n exit again in
          let first = stmt_code c st (live_all rest s ends) ends n (length after + exit) (length after + again) in
          let mid = at + length first in
          let behind = back body at first after next h in
          let size = behind.1 in
          stmt_safe st fit.0 m (live_all rest s ends) ends (length after + exit) (length after + again) at mid (known_stmts rest fit.1 s ends k1 k2 k3) k2 k3 (front body at first after next h)
          (block_lives rest fit.1 s ends exit again mid next k1 k2 k3 behind e1.0 e2.0 e3.0, stmts_safe rest fit.1 m s ends exit again mid next k1 k2 k3 behind e1 e2 e3)
          (comes_at m (next + exit) (mid + (length after + exit)) (Vars ends.exit) (omega (arith, size)) e2) (comes_at m (next + again) (mid + (length after + again)) (Vars ends.again) (omega (arith, size)) e3)
