-- The code of a quantifier keeps nothing dead.
use Rattle.std.proofs.Common.{◌≡◌, ◌≢◌, ◌<◌, ◌≤◌, ◌⊎◌, inl, inr, ℕ, suc, ◌+◌, List, [], ◌∷◌, ◌++◌, length, Bool, true, false, not, Some, pos, refl, sym, subst, arith}
use Rattle.std.specs.Prelude.{slice_get}
use Rattle.wy_core.specs.CoreTree.{Expr}
use Rattle.wy_code.specs.declared.instructions.Scalar.TheVariants as scalar
use Rattle.wy_code.specs.declared.instructions.Arithmetic.TheVariants as arithmetic
use Rattle.wy_code.specs.declared.instructions.Comparison.TheVariants as comparison
use Rattle.wy_code.specs.declared.instructions.Instr.{Instr}
use Rattle.wy_code.specs.declared.instructions.Instr.TheVariants as instr
use Rattle.wy_lemmas.proofs.Choices.{either}
use Rattle.wy_gen_laws.specs.wy_code_spec.declared.tables.context.Context.{Context}
use Rattle.wy_live.specs.Sets.{Variables}
use Rattle.wy_live.specs.Walks.{before, turned}
use Rattle.wy_code.specs.declared.pieces.steps.Step.{Step}
use Rattle.wy_code.specs.declared.pieces.steps.Step.TheVariants.{Does, GoesOn, GoesOnUnless}
use Rattle.wy_code.specs.pieces.Steps.{clear}
use Rattle.wy_gen_laws.specs.wy_code_spec.compiled.Expressions.{lost, released, is_plain, turn_end, said, ends, quantify, code}
use Rattle.wy_gen_sources.specs.code.Large.{IsNone}
use Rattle.wy_gen_sources.specs.code.Safe.{Gives}
use Rattle.wy_gen_sources.specs.code.Fitting.{Fits}
use Rattle.wy_gen_sources.proofs.code_lemmas.SafeLemmas.{safe_sooner}
use Rattle.wy_gen_sources.proofs.code_lemmas.PieceLemmas.{nat_up, less_not, Spans, front, back, tail, live_reads, live_on, Lives, Sure, sure_less, safe_step, safe_jumps, safe_loops, safe_branches, safe_at, lives_on, lives_at}
use Rattle.wy_gen_sources.proofs.code_lemmas.SetLemmas.{Vars, before_of, turned_cases, still_has}
use Rattle.wy_gen_sources.proofs.code_lemmas.ReadLemmas.{low_more, occurs_used, turns_of, quantifier, branch_live, kept_lost, code_live}
use Rattle.wy_gen_sources.proofs.code_lemmas.OperandLemmas.{base_low, clear_sure}

module _ (body : List Instr) (c : Context) (n : ℕ) (t : Gives) (f : ℕ) where
  -- live variables, and the registers of the expressions around
  abbrev B : Variables → (ℕ → Type 0) → ℕ → Type 0
  B s A r = Vars s r ⊎ A r

  -- a value that may be a list or a record
  abbrev H : Expr ℕ → ℕ → ℕ → Type 0
  H e d r = (r ≡ d) × (is_plain e ≡ false)

  abbrev Comes : ℕ → ℕ → (ℕ → Type 0) → Type 0
  Comes m p P = Lives body t f p P × Sure body t f m p P

  abbrev Full : ℕ → ℕ → (ℕ → Type 0) → Expr ℕ → ℕ → Type 0
  Full m p P e d = Lives body t f p P × Sure body t f m p (λ r. P r ⊎ H e d r)

  abbrev Kn : Variables → (ℕ → Type 0) → Type 0
  Kn s U = (r : ℕ) → Vars s r → U r

  abbrev Ar : ℕ → (ℕ → Type 0) → Type 0
  Ar d A = (r : ℕ) → A r → (n ≤ r) × (r < d)

  abbrev Lo : (ℕ → Type 0) → Type 0
  Lo U = (x : ℕ) → U x → x < n

  abbrev Sf : Expr ℕ → (ℕ → Type 0) → Type 1
  Sf e U = (m : ℕ) (s : Variables) (A : ℕ → Type 0) (d at next : ℕ) → Kn s U → n ≤ d → Ar d A → Spans body at (code c e s d) next → Full m next (B s A) e d → Comes m at (B (before e s) A)

  -- the ends of a quantifier: that behind all turns, and that behind a turn that ends it
  ends_sure : (all : Bool) (m d : ℕ) (rs : List ℕ) (p next : ℕ) (P Q : ℕ → Type 0) → Spans body p (ends all d (clear rs)) next → ((r : ℕ) → Q r → r < d) → ((r : ℕ) → P r → IsNone r rs → Q r) → Comes m next Q
      → Sure body t f m p P × Sure body t f m (suc (suc (p + length (clear rs)))) P
  ends_sure all m d rs p next P Q h low less exit =
      let one : Instr = instr.Const d (scalar.Bool all) in let two : Instr = instr.Const d (scalar.Bool (not all)) in
      let other_end = said d (not all) (clear rs) in
      let rest : List Step = Does one ∷ GoesOn (length other_end) ∷ other_end in
      let q = p + length (clear rs) in
      let first = back body p (clear rs) rest next h in
      let second = tail body q one (GoesOn (length other_end) ∷ other_end) next first in
      let to : suc (q + 1) + length other_end ≡ next = (let e = second.1 in omega (arith, e)) in
      let jump : slice_get body (q + 1) ≡ Some (instr.Jump next) = subst (λ (z : ℕ). slice_get body (q + 1) ≡ Some (instr.Jump z)) to second.0.0 in
      let live_jump : Lives body t f (q + 1) Q = λ r l. live_on body (q + 1) next r (instr.Jump next) jump tt (inl refl) (exit.0 r l) in
      let live_const : Lives body t f q Q = lives_on body t f q one Q first.0.0 (λ r l. (less_not r d (low r l), tt)) (inl refl) live_jump in
      let third : Spans body (q + 1 + 1) other_end next = (second.0.1, let e = second.1 in omega (arith, e)) in
      let q2 = q + 1 + 1 + length (clear rs) in
      let last = back body (q + 1 + 1) (clear rs) (Does two ∷ []) next third in
      let e2 : next ≡ q2 + 1 = (let z = last.1 in omega (arith, z)) in
      let live_two : Lives body t f q2 Q = lives_on body t f q2 two Q last.0.0 (λ r l. (less_not r d (low r l), tt)) (inl refl) (lives_at body t f next (q2 + 1) Q e2 exit.0) in (
        clear_sure body c n t f m p q rs P Q (front body p (clear rs) rest next h) less
            (safe_step body t f m q one Q Q first.0.0 live_const (λ x w. w) (λ r l. either (λ z. z.0) (λ z. absurd z) l)
            (safe_jumps body t f m (q + 1) next Q Q jump exit.0 (λ r l. l) exit.1)),
        safe_at body t f m (q + 1 + 1) (suc (suc q)) P (omega arith)
            (clear_sure body c n t f m (q + 1 + 1) q2 rs P Q (front body (q + 1 + 1) (clear rs) (Does two ∷ []) next third) less
            (safe_step body t f m q2 two Q Q last.0.0 live_two (λ x w. w) (λ r l. either (λ z. z.0) (λ z. absurd z) l) (safe_at body t f m next (q2 + 1) Q e2 exit.1))),
      )

  -- behind what the body says
  turn_branch : (m d k p next out : ℕ) (P : ℕ → Type 0) → ((r : ℕ) → P r → r < d)
      → Spans body p (GoesOnUnless (suc (suc d)) k ∷ Does (instr.Const (suc (suc d)) (scalar.Int (pos 1))) ∷ Does (instr.Arith d arithmetic.Add d (suc (suc d))) ∷ []) next → suc p + k ≡ out → Comes m next P → Sure body t f m out P
      → Comes m p (λ r. P r ⊎ (r ≡ suc (suc d)))
  turn_branch m d k p next out P low h to exit other =
      let c1 : Instr = instr.Const (suc (suc d)) (scalar.Int (pos 1)) in
      let a1 : Instr = instr.Arith d arithmetic.Add d (suc (suc d)) in
      let branch : slice_get body p ≡ Some (instr.Branch (suc (suc d)) out) = subst (λ (z : ℕ). slice_get body p ≡ Some (instr.Branch (suc (suc d)) z)) to h.0.0 in
      let e : next ≡ p + 1 + 1 + 1 = (let z = h.1 in omega (arith, z)) in
      let live_a : Lives body t f (p + 1 + 1) P = lives_on body t f (p + 1 + 1) a1 P h.0.1.1.0 (λ r l. (less_not r d (low r l), tt)) (inl refl) (lives_at body t f next (p + 1 + 1 + 1) P e exit.0) in
      let live_c : Lives body t f (p + 1) P = lives_on body t f (p + 1) c1 P h.0.1.0 (λ r l. (less_not r (suc (suc d)) (let z = low r l in omega (arith, z)), tt)) (inl refl) live_a in
      let live : Lives body t f p (λ r. P r ⊎ (r ≡ suc (suc d))) = λ r l. either (λ b. live_on body p (p + 1) r (instr.Branch (suc (suc d)) out) branch tt (inl refl) (live_c r b)) (λ z. live_reads body p r (instr.Branch (suc (suc d)) out) branch (inl z)) l in (
        live,
        safe_branches body t f m p (suc (suc d)) out (λ r. P r ⊎ (r ≡ suc (suc d))) P P branch live (λ r l. either (λ b. b) (λ z. absurd (l.1 z)) l.0) (λ r l. either (λ b. b) (λ z. absurd (l.1 z)) l.0)
            (safe_step body t f m (p + 1) c1 P P h.0.1.0 live_c (λ x w. w) (λ r l. either (λ z. z.0) (λ z. absurd z) l)
            (safe_step body t f m (p + 1 + 1) a1 P P h.0.1.1.0 live_a (λ x w. w) (λ r l. either (λ z. z.0) (λ z. absurd z) l) (safe_at body t f m next (p + 1 + 1 + 1) P e exit.1))) other,
      )

  turn_end_ready : (all : Bool) (m d : ℕ) (gone_code : List Step) (p next out : ℕ) (P : ℕ → Type 0) → ((r : ℕ) → P r → r < d) → Spans body p (turn_end all d gone_code) next → out ≡ next + 3 + length gone_code → Comes m next P → Sure body t f m out P
      → Comes m p (λ r. P r ⊎ (r ≡ suc (suc d)))
  turn_end_ready true m d gone_code p next out P low h to exit other = turn_branch m d (length gone_code + 5) p next out P low h (let e = h.1 in omega (arith, e, to)) exit other
  turn_end_ready false m d gone_code p next out P low h to exit other =
      let i : Instr = instr.Not (suc (suc d)) (suc (suc d)) in
      let rest : List Step = GoesOnUnless (suc (suc d)) (length gone_code + 5) ∷ Does (instr.Const (suc (suc d)) (scalar.Int (pos 1))) ∷ Does (instr.Arith d arithmetic.Add d (suc (suc d))) ∷ [] in
      let two = tail body p i rest next h in
      let k = turn_branch m d (length gone_code + 5) (p + 1) next out P low two (let e = two.1 in omega (arith, e, to)) exit other in
      let live : Lives body t f p (λ r. P r ⊎ (r ≡ suc (suc d))) = λ r l. either (λ b. live_on body p (p + 1) r i h.0.0 (less_not r (suc (suc d)) (let z = low r b in omega (arith, z)), tt) (inl refl) (k.0 r (inl b))) (λ z. live_reads body p r i h.0.0 (inl z)) l in
      (live, safe_step body t f m p i (λ r. P r ⊎ (r ≡ suc (suc d))) (λ r. P r ⊎ (r ≡ suc (suc d))) h.0.0 live (λ x w. w) (λ r l. either (λ z. z.0) (λ z. absurd z) l) k.1)

  module _ (U : ℕ → Type 0) (low : Lo U) (x : ℕ) (fresh : U x → ⊥) (xn : x < n) (inner : Expr ℕ) (fit : Fits c n inner (λ r. U r ⊎ (r ≡ x))) (inner_safe : Sf inner (λ r. U r ⊎ (r ≡ x))) where
    pub turned_known : (s : Variables) → Kn s U → Kn (turned x inner s) U
    turned_known s known r v = either (λ z. either (λ u. u) (λ e. absurd (z.0 e)) (occurs_used body c n inner (λ q. U q ⊎ (q ≡ x)) fit r z.1)) (λ k. known r k) (turned_cases x inner s r v)

    -- the variable of the quantifier is none of these
    not_x : (s : Variables) (A : ℕ → Type 0) (d r : ℕ) → Kn s U → Ar d A → B (turned x inner s) A r → r ≢ x
    not_x s A d r known around (inl v) e = fresh (subst U e (turned_known s known r v))
    not_x s A d r known around (inr a) e = let k = (around r a).0 in absurd (omega (arith, k, xn, e))

    pub quantify_ready : (all : Bool) (X : ℕ → Type 0) (m : ℕ) (s : Variables) (A : ℕ → Type 0) (d p next : ℕ) → ((r : ℕ) → X r → (r ≡ d) ⊎ (r ≡ suc d)) → Kn s U → n ≤ d → Ar d A
        → Spans body p (quantify all x d (code c inner (turned x inner s) (suc (suc d))) (released (turned x inner s) s)) next → Comes m next (B s A) → Comes m p (λ r. B (turned x inner s) A r ⊎ X r)
    quantify_ready all X m s A d p next two_of known nd around h exit =
        let T = turned x inner s in let rs = lost T s in let inn = code c inner T (suc (suc d)) in
        let V : ℕ → Type 0 = λ r. U r ⊎ (r ≡ x) in
        let P : ℕ → Type 0 = B T A in let AtBounds : ℕ → Type 0 = λ r. P r ⊎ X r in
        let InTurn : ℕ → Type 0 = λ r. P r × (r ≢ d) in
        let compare_it : Instr = instr.Compare (suc (suc d)) comparison.Less d (suc d) in
        let share : Instr = instr.Share x d in
        let long = p + length (turns_of body c n all x d inn rs) in
        let parts = quantifier body c n all x d inn rs p next h in
        let b = parts.branch in let j = parts.jump in
        let low_V = low_more body c n U x low xn in
        let known_T = turned_known s known in
        let lows = base_low body c n t f s A U d known low nd around in
        let lows_T = base_low body c n t f T A U d known_T low nd around in
        let nd2 : n ≤ suc (suc d) = omega (arith, nd) in
        let live_1 : Lives body t f (p + 1) P = λ r l. branch_live body c n all x d inn rs p next r h (lows_T r l)
        (either (λ v. either (λ z. inl (λ q e sp. (z.0, code_live body c n inner V T (suc (suc d)) q e r fit low_V nd2 sp (let w = lows_T r l in omega (arith, w)) (inl z.1))))
        (λ k. inr (kept_lost body c n x inner U s r low xn fit (inl k), exit.0 r (inl k))) (turned_cases x inner s r v))
        (λ a. inr (kept_lost body c n x inner U s r low xn fit (inr (around r a).0), exit.0 r (inr a))) l) in
        let live_p : Lives body t f p AtBounds = λ r l. either (λ k. live_on body p (p + 1) r compare_it parts.tests.0.0 (less_not r (suc (suc d)) (let w = lows_T r k in omega (arith, w)), tt) (inl refl) (live_1 r k))
        (λ k. live_reads body p r compare_it parts.tests.0.0 (either (λ e. inl e) (λ e. inr (inl e)) (two_of r k))) l in
        let first_at : p + 1 ≡ b = (let z = parts.tests.1 in omega (arith, z)) in
        let live_b = lives_at body t f (p + 1) b P first_at live_1 in
        let live_j : Lives body t f j P = λ r l. live_on body j p r (instr.Jump p) parts.jumps tt (inl refl) (live_p r (inl l)) in
        let i1 = tail body (b + 1) share (inn ++ turn_end all d (clear rs)) j parts.inside in
        let p3 = b + 1 + 1 in let p4 = p3 + length inn in
        let span_ends = back body p (turns_of body c n all x d inn rs) (ends all d (clear rs)) next h in
        let behind = parts.behind in (
          live_p,
          nat_up (λ k. Sure body t f k next (B s A) → Sure body t f k p AtBounds) (λ z. tt) (λ k less safe.
              let es = ends_sure all (suc k) d rs long next P (B s A) span_ends lows (λ r l none. either (λ v. inl (still_has T s r v none)) (λ a. inr a) l) (exit.0, safe) in
              let at_j : Sure body t f (suc k) j P = safe_loops body t f k j p P AtBounds parts.jumps live_p (λ r l. inl l) (less (safe_sooner t f body k next (B s A) safe)) in
              let te = turn_end_ready all (suc k) d (clear rs) p4 j (suc (suc (long + length (clear rs)))) P lows_T (back body p3 inn (turn_end all d (clear rs)) j i1) (omega (arith, behind)) (live_j, at_j) es.1 in
              let body_in = inner_safe (suc k) T A (suc (suc d)) p3 p4 (λ r v. inl (known_T r v)) nd2 (λ r a. let w = around r a in (w.0, let l = w.1 in omega (arith, l))) (front body p3 inn (turn_end all d (clear rs)) j i1)
              ((λ r l. te.0 r (inl l)), sure_less body t f (suc k) p4 (λ r. B T A r ⊎ H inner (suc (suc d)) r) (λ r. P r ⊎ (r ≡ suc (suc d))) (λ r l. either (λ z. inl z) (λ z. inr z.0) l) te.1) in
              let to_inner : (r : ℕ) → P r → B (before inner T) A r = λ r l. either (λ v. inl (before_of inner T r (inr v))) (λ a. inr a) l in
              let at_3 : Sure body t f (suc k) p3 P = sure_less body t f (suc k) p3 P (B (before inner T) A) (λ r l. to_inner r l) body_in.1 in
              let live_share : Lives body t f (b + 1) InTurn = λ r l. live_on body (b + 1) p3 r share parts.inside.0.0 (not_x s A d r known around l.0, tt) (inl refl) (body_in.0 r (to_inner r l.0)) in
              let at_2 : Sure body t f (suc k) (b + 1) InTurn = safe_step body t f (suc k) (b + 1) share InTurn P parts.inside.0.0 live_share (λ y w. w) (λ r l. either (λ z. z.0.0) (λ z. absurd (z.1.1 refl)) l) at_3 in
              let live_r : Lives body t f b InTurn = λ r l. live_b r l.0 in
              let at_b : Sure body t f (suc k) b InTurn = safe_branches body t f (suc k) b (suc (suc d)) long InTurn InTurn P parts.branches live_r (λ r l. l.0) (λ r l. l.0.0) at_2 es.0 in
              safe_step body t f (suc k) p compare_it AtBounds InTurn parts.tests.0.0 live_p (λ y w. w)
              (λ r l. either (λ z. (either (λ y. y) (λ y. either (λ e. absurd (z.1.1.0 e)) (λ e. absurd (z.1.1.1.0 e)) (two_of r y)) z.0, z.1.1.0)) (λ z. absurd z) l)
              (safe_at body t f (suc k) b (p + 1) InTurn (sym first_at) at_b)) m exit.1,
        )
