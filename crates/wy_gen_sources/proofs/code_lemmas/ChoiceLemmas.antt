-- What the code of operators, tests, calls and lists keeps.
use Rattle.std.proofs.Common.{◌≡◌, ◌≢◌, ◌<◌, ◌≤◌, ◌⊎◌, inl, inr, ℕ, suc, ◌+◌, List, [], ◌∷◌, ◌++◌, length, Bool, true, false, cond, Some, refl, sym, subst, arith, Option, None}
use Rattle.std.specs.Prelude.{slice_get}
use Rattle.wy_core.specs.Types.{Ty}
use Rattle.wy_core.specs.CoreTree.{Expr, BinaryExpr}
use Rattle.wy_core.specs.declared.expressions.Op.{Op}
use Rattle.wy_core.specs.declared.expressions.Op.TheVariants as op
use Rattle.wy_code.specs.declared.instructions.Scalar.{Scalar}
use Rattle.wy_code.specs.declared.instructions.Arithmetic.{Arithmetic}
use Rattle.wy_code.specs.declared.instructions.Arithmetic.TheVariants as arithmetic
use Rattle.wy_code.specs.declared.instructions.Comparison.{Comparison}
use Rattle.wy_code.specs.declared.instructions.Comparison.TheVariants as comparison
use Rattle.wy_code.specs.declared.instructions.Instr.{Instr}
use Rattle.wy_code.specs.declared.instructions.Instr.TheVariants as instr
use Rattle.wy_lemmas.proofs.Choices.{unlike as not_both, either}
use Rattle.wy_gen_laws.specs.wy_code_spec.declared.tables.context.Context.{Context}
use Rattle.wy_gen_laws.specs.wy_code_spec.declared.tables.targets.Target.{Target}
use Rattle.wy_gen_laws.specs.wy_code_spec.declared.tables.targets.Target.TheVariants.{Declared, Prints, PrintsInt, Nothing}
use Rattle.wy_live.specs.Sets.{Variables, has, with}
use Rattle.wy_live.specs.Walks.{before}
use Rattle.wy_code.specs.declared.pieces.steps.Step.TheVariants.{Does}
use Rattle.wy_code.specs.pieces.Steps.{dropped, fork, registers_from}
use Rattle.wy_gen_laws.specs.wy_code_spec.compiled.TypeTests.{test}
use Rattle.wy_gen_laws.specs.wy_code_spec.compiled.Operands.{variable_in, read, read_first, standing, unless_read, plain_or_read}
use Rattle.wy_gen_laws.specs.wy_code_spec.compiled.Expressions.{lost, released, is_plain, arith as arith_code, compare, equal, call, is_test, tested, list, code}
use Rattle.wy_gen_sources.specs.code.Large.{IsNone}
use Rattle.wy_gen_sources.specs.code.Alive.{LiveAt}
use Rattle.wy_gen_sources.specs.code.Safe.{Gives}
use Rattle.wy_gen_sources.specs.code.Fitting.{IsValue, Fits}
use Rattle.wy_gen_sources.proofs.code_lemmas.PieceLemmas.{one_not_none, less_not, none_below, Spans, front, back, tail, live_reads, live_on, live_first, live_second, Lives, Sure, sure_less, safe_step, safe_at, safe_fork, safe_where, lives_on, lives_at}
use Rattle.wy_gen_sources.proofs.code_lemmas.SetLemmas.{Vars, before_cases, with_cases, still_has, not_lost}
use Rattle.wy_gen_sources.proofs.code_lemmas.TestLemmas.{With, test_live, live_turned, sure_turned, dropped_safe, test_safe}
use Rattle.wy_gen_sources.proofs.code_lemmas.InPlaceLemmas.{IsLiveIn, variable_its, read_its, first_its}
use Rattle.wy_gen_sources.proofs.code_lemmas.ReadLemmas.{from_registers, clear_live, code_live}
use Rattle.wy_gen_sources.proofs.code_lemmas.OperandLemmas.{Range, Stands, ready_less, in_range, code_some, fork_reads, base_low, known_before, operands_ready, clear_sure, pair_safe, arith_ready, compare_ready, equal_ready}

module _ (body : List Instr) (c : Context) (n : ℕ) (t : Gives) (f : ℕ) where
  -- live variables, and the registers of the expressions around
  abbrev B : Variables → (ℕ → Type 0) → ℕ → Type 0
  B s A r = Vars s r ⊎ A r

  -- a value that may be a list or a record
  abbrev H : Expr ℕ → ℕ → ℕ → Type 0
  H e d r = (r ≡ d) × (is_plain e ≡ false)

  abbrev Comes : ℕ → ℕ → (ℕ → Type 0) → Type 0
  Comes m p P = Lives body t f p P × Sure body t f m p P

  abbrev Leaves : ℕ → ℕ → (ℕ → Type 0) → (ℕ → Type 0) → Type 0
  Leaves m p P Q = Lives body t f p P × Sure body t f m p (λ r. P r ⊎ Q r)

  abbrev Full : ℕ → ℕ → (ℕ → Type 0) → Expr ℕ → ℕ → Type 0
  Full m p P e d = Lives body t f p P × Sure body t f m p (λ r. P r ⊎ H e d r)

  abbrev Kn : Variables → (ℕ → Type 0) → Type 0
  Kn s U = (r : ℕ) → Vars s r → U r

  abbrev Ar : ℕ → (ℕ → Type 0) → Type 0
  Ar d A = (r : ℕ) → A r → (n ≤ r) × (r < d)

  abbrev Lo : (ℕ → Type 0) → Type 0
  Lo U = (x : ℕ) → U x → x < n

  abbrev Sf : Expr ℕ → (ℕ → Type 0) → Type 1
  Sf e U = (m : ℕ) (s : Variables) (A : ℕ → Type 0) (d at next : ℕ) → Kn s U → n ≤ d → Ar d A → Spans body at (code c e s d) next → Full m next (B s A) e d → Comes m at (B (before e s) A)

  module _ (U : ℕ → Type 0) (low : Lo U) where
    -- what is released where the right operand is left out
    skipped_sure : (b : Expr ℕ) (m : ℕ) (s : Variables) (A : ℕ → Type 0) (p next : ℕ) → Spans body p (released (before b s) s) next → Sure body t f m next (B s A) → Sure body t f m p (B (before b s) A)
    skipped_sure b m s A p next h safe = clear_sure body c n t f m p next (lost (before b s) s) (B (before b s) A) (B s A) h (λ r l none. either (λ v. inl (still_has (before b s) s r v none)) (λ a. inr a) l) safe

    -- a register that is live in front of an expression, by way of it
    through : (b : Expr ℕ) → Fits c n b U → (s : Variables) (A : ℕ → Type 0) (d p q next r : ℕ) → Kn s U → n ≤ d → Ar d A → Spans body p (code c b s d) q → Lives body t f next (B s A) → (LiveAt body next r → LiveAt body q r) → B (before b s) A r → LiveAt body p r
    through b fit s A d p q next r known nd around h live go l =
        code_live body c n b U s d p q r fit low nd h (base_low body c n t f (before b s) A U d (known_before body c n t f b U s fit known) low nd around r l)
        (either (λ v. either (λ o. inl o) (λ k. inr (inl k, go (live r (inl k)))) (before_cases b s r v)) (λ a. inr (inr (around r a).0, go (live r (inr a)))) l)

    -- what is live behind isn't released there
    not_skipped : (b : Expr ℕ) → Fits c n b U → (s : Variables) (A : ℕ → Type 0) (d r : ℕ) → Kn s U → Ar d A → B s A r → IsNone r (lost (before b s) s)
    not_skipped b fit s A d r known around (inl k) = not_lost (before b s) s r (λ v e. not_both (has s r) k e)
    not_skipped b fit s A d r known around (inr a) = not_lost (before b s) s r (λ v e. let l = low r (known_before body c n t f b U s fit known r v) in let w = (around r a).0 in absurd (omega (arith, l, w)))

    and_safe : (a b : Expr ℕ) → Sf a U → Sf b U → Fits c n b U → (m : ℕ) (s : Variables) (A : ℕ → Type 0) (d at next : ℕ) → Kn s U → n ≤ d → Ar d A
        → Spans body at (code c a (before b s) d ++ (fork d (code c b s d) [] ++ released (before b s) s)) next → Full m next (B s A) b d → Comes m at (B (before a (before b s)) A)
    and_safe a b one two fit m s A d at next known nd around h exit =
        let T = before b s in
        let mid = at + length (code c a T d) in
        let xs = fork d (code c b s d) [] in
        let q = mid + length xs in
        let rest = back body at (code c a T d) (xs ++ released T s) next h in
        let choice = front body mid xs (released T s) next rest in
        let last = back body mid xs (released T s) next rest in
        let some : code c b s d ≡ [] → ⊥ = code_some body c n b U s d fit in
        -- behind the right operand, in front of the release
        let live_q : Lives body t f q (B s A) = λ r l. clear_live body (lost T s) q next r last (not_skipped b fit s A d r known around l) (exit.0 r l) in
        let safe_q : Sure body t f m q (λ r. B s A r ⊎ H b d r) = clear_sure body c n t f m q next (lost T s) (λ r. B s A r ⊎ H b d r) (λ r. B s A r ⊎ H b d r) last (λ r l none. l) exit.1 in
        let live : Lives body t f mid (B T A) = λ r l. live_first body mid q d (code c b s d) [] r choice (λ p e sp go. through b fit s A d p e q r known nd around sp live_q go l) in
        let at_d : LiveAt body mid d = fork_reads body c n mid q d (code c b s d) [] choice (λ e g. some e) in
        one m T A d at mid (known_before body c n t f b U s fit known) nd around (front body at (code c a T d) (xs ++ released T s) next h) (
          live,
          safe_where body t f m mid q d (code c b s d) (λ r. B T A r ⊎ H a d r) (B T A) (B T A) choice some
              (λ r l. either (λ k. live r k) (λ k. subst (λ (z : ℕ). LiveAt body mid z) (sym k.0) at_d) l)
              (λ r l. either (λ k. k) (λ k. absurd (l.1 k.0)) l.0) (λ r l. either (λ k. k) (λ k. absurd (l.1 k.0)) l.0)
              (λ p sp. (two m s A d p q known nd around sp (live_q, safe_q)).1)
              (skipped_sure b m s A q next last (sure_less body t f m next (B s A) (λ r. B s A r ⊎ H b d r) (λ r l. inl l) exit.1)),
        )

    or_safe : (a b : Expr ℕ) → Sf a U → Sf b U → Fits c n b U → (m : ℕ) (s : Variables) (A : ℕ → Type 0) (d at next : ℕ) → Kn s U → n ≤ d → Ar d A
        → Spans body at (code c a (before b s) d ++ fork d (released (before b s) s) (code c b s d)) next → Full m next (B s A) b d → Comes m at (B (before a (before b s)) A)
    or_safe a b one two fit m s A d at next known nd around h exit =
        let T = before b s in
        let mid = at + length (code c a T d) in
        let rest = back body at (code c a T d) (fork d (released T s) (code c b s d)) next h in
        let some : code c b s d ≡ [] → ⊥ = code_some body c n b U s d fit in
        let live : Lives body t f mid (B T A) = λ r l. live_second body mid next d (released T s) (code c b s d) r rest (λ p sp. through b fit s A d p next next r known nd around sp exit.0 (λ z. z) l) in
        let at_d : LiveAt body mid d = fork_reads body c n mid next d (released T s) (code c b s d) rest (λ e g. some g) in
        one m T A d at mid (known_before body c n t f b U s fit known) nd around (front body at (code c a T d) (fork d (released T s) (code c b s d)) next h) (
          live,
          safe_fork body t f m mid next d (released T s) (code c b s d) (λ r. B T A r ⊎ H a d r) (B T A) (B T A) (B s A) rest
              (λ r l. either (λ k. live r k) (λ k. subst (λ (z : ℕ). LiveAt body mid z) (sym k.0) at_d) l)
              (λ e g. absurd (some g)) (λ r l. either (λ k. k) (λ k. absurd (l.1 k.0)) l.0) (λ r l. either (λ k. k) (λ k. absurd (l.1 k.0)) l.0) exit.0
              (λ p q sp lq sq. skipped_sure b m s A p q sp sq)
              (λ p sp. (two m s A d p next known nd around sp exit).1)
              (sure_less body t f m next (B s A) (λ r. B s A r ⊎ H b d r) (λ r l. inl l) exit.1),
        )

    none_more : (m p : ℕ) (P : ℕ → Type 0) → Comes m p P → Leaves m p P (λ r. ⊥)
    none_more m p P k = (k.0, sure_less body t f m p (λ r. P r ⊎ ⊥) P (λ r l. either (λ z. z) (λ z. absurd z) l) k.1)

    arith_safe : (o : Arithmetic) (a b : Expr ℕ) → Fits c n a U → Sf a U → Sf b U → Fits c n b U → (m : ℕ) (s : Variables) (A : ℕ → Type 0) (d at next : ℕ) → Kn s U → n ≤ d → Ar d A
        → Spans body at (unless_read (read_first a b s) (code c a (before b s) d) ++ (unless_read (variable_in b) (code c b s (suc d)) ++ arith_code o d (standing (read_first a b s) d) (standing (variable_in b) (suc d)))) next
        → Comes m next (B s A) → Comes m at (B (before a (before b s)) A)
    arith_safe o a b fit_a one two fit m s A d at next known nd around h exit =
        let w = read_first a b s in let v = variable_in b in let k = first_its c n a b s U fit_a in
        pair_safe body c n t f U low w v a b k.0 (variable_its c n b U fit) one two fit m s A d at next (arith_code o d (standing w d) (standing v (suc d))) k.1 known nd around h
        (λ p sp. arith_ready body c n t f U low w v a b o m s A d p next known nd around sp (none_more m next (B s A) exit))

    compare_safe : (o : Comparison) (a b : Expr ℕ) → Fits c n a U → Sf a U → Sf b U → Fits c n b U → (m : ℕ) (s : Variables) (A : ℕ → Type 0) (d at next : ℕ) → Kn s U → n ≤ d → Ar d A
        → Spans body at (unless_read (read_first a b s) (code c a (before b s) d) ++ (unless_read (variable_in b) (code c b s (suc d)) ++ compare o d (standing (read_first a b s) d) (standing (variable_in b) (suc d)))) next
        → Comes m next (B s A) → Comes m at (B (before a (before b s)) A)
    compare_safe o a b fit_a one two fit m s A d at next known nd around h exit =
        let w = read_first a b s in let v = variable_in b in let k = first_its c n a b s U fit_a in
        pair_safe body c n t f U low w v a b k.0 (variable_its c n b U fit) one two fit m s A d at next (compare o d (standing w d) (standing v (suc d))) k.1 known nd around h
        (λ p sp. compare_ready body c n t f U low w v a b o m s A d p next known nd around sp (none_more m next (B s A) exit))

    equal_safe : (a b : Expr ℕ) → Fits c n a U → Sf a U → Sf b U → Fits c n b U → (m : ℕ) (s : Variables) (A : ℕ → Type 0) (d at next : ℕ) → Kn s U → n ≤ d → Ar d A
        → Spans body at (unless_read (read a s) (code c a (before b s) d) ++ (unless_read (read b s) (code c b s (suc d)) ++ equal (plain_or_read (read b s) (is_plain b)) d (standing (read a s) d) (standing (read b s) (suc d)))) next
        → Comes m next (B s A) → Comes m at (B (before a (before b s)) A)
    equal_safe a b fit_a one two fit m s A d at next known nd around h exit =
        let w = read a s in let v = read b s in let plain = plain_or_read v (is_plain b) in
        let k = read_its c n a s U fit_a in let l = read_its c n b s U fit in
        pair_safe body c n t f U low w v a b k.0 l.0 one two fit m s A d at next (equal plain d (standing w d) (standing v (suc d))) (inl k.1) known nd around h
        (λ p sp. equal_ready body c n t f U low w v a b plain refl m s A d p next k.1 l.1 known nd around sp (none_more m next (B s A) exit))

    pub binary_safe : (i : ℕ) (o : Op) (a b : Expr ℕ) → Fits c n a U → Sf a U → Sf b U → Fits c n b U → (m : ℕ) (s : Variables) (A : ℕ → Type 0) (d at next : ℕ) → Kn s U → n ≤ d → Ar d A
        → Spans body at (code c (BinaryExpr i o a b) s d) next → Full m next (B s A) (BinaryExpr i o a b) d → Comes m at (B (before a (before b s)) A)
    binary_safe i op.Add a b fit_a one two fit m s A d at next known nd around h exit = arith_safe arithmetic.Add a b fit_a one two fit m s A d at next known nd around h (exit.0, sure_less body t f m next (B s A) (λ r. B s A r ⊎ H (BinaryExpr i op.Add a b) d r) (λ r l. inl l) exit.1)
    binary_safe i op.Sub a b fit_a one two fit m s A d at next known nd around h exit = arith_safe arithmetic.Sub a b fit_a one two fit m s A d at next known nd around h (exit.0, sure_less body t f m next (B s A) (λ r. B s A r ⊎ H (BinaryExpr i op.Sub a b) d r) (λ r l. inl l) exit.1)
    binary_safe i op.Mul a b fit_a one two fit m s A d at next known nd around h exit = arith_safe arithmetic.Mul a b fit_a one two fit m s A d at next known nd around h (exit.0, sure_less body t f m next (B s A) (λ r. B s A r ⊎ H (BinaryExpr i op.Mul a b) d r) (λ r l. inl l) exit.1)
    binary_safe i op.Div a b fit_a one two fit m s A d at next known nd around h exit = arith_safe arithmetic.Div a b fit_a one two fit m s A d at next known nd around h (exit.0, sure_less body t f m next (B s A) (λ r. B s A r ⊎ H (BinaryExpr i op.Div a b) d r) (λ r l. inl l) exit.1)
    binary_safe i op.Mod a b fit_a one two fit m s A d at next known nd around h exit = arith_safe arithmetic.Mod a b fit_a one two fit m s A d at next known nd around h (exit.0, sure_less body t f m next (B s A) (λ r. B s A r ⊎ H (BinaryExpr i op.Mod a b) d r) (λ r l. inl l) exit.1)
    binary_safe i op.Equal a b fit_a one two fit m s A d at next known nd around h exit = equal_safe a b fit_a one two fit m s A d at next known nd around h (exit.0, sure_less body t f m next (B s A) (λ r. B s A r ⊎ H (BinaryExpr i op.Equal a b) d r) (λ r l. inl l) exit.1)
    binary_safe i op.Less a b fit_a one two fit m s A d at next known nd around h exit = compare_safe comparison.Less a b fit_a one two fit m s A d at next known nd around h (exit.0, sure_less body t f m next (B s A) (λ r. B s A r ⊎ H (BinaryExpr i op.Less a b) d r) (λ r l. inl l) exit.1)
    binary_safe i op.LessEqual a b fit_a one two fit m s A d at next known nd around h exit = compare_safe comparison.LessEqual a b fit_a one two fit m s A d at next known nd around h (exit.0, sure_less body t f m next (B s A) (λ r. B s A r ⊎ H (BinaryExpr i op.LessEqual a b) d r) (λ r l. inl l) exit.1)
    binary_safe i op.Greater a b fit_a one two fit m s A d at next known nd around h exit = compare_safe comparison.Greater a b fit_a one two fit m s A d at next known nd around h (exit.0, sure_less body t f m next (B s A) (λ r. B s A r ⊎ H (BinaryExpr i op.Greater a b) d r) (λ r l. inl l) exit.1)
    binary_safe i op.GreaterEqual a b fit_a one two fit m s A d at next known nd around h exit = compare_safe comparison.GreaterEqual a b fit_a one two fit m s A d at next known nd around h (exit.0, sure_less body t f m next (B s A) (λ r. B s A r ⊎ H (BinaryExpr i op.GreaterEqual a b) d r) (λ r l. inl l) exit.1)
    binary_safe i op.And a b fit_a one two fit m s A d at next known nd around h exit = and_safe a b one two fit m s A d at next known nd around h exit
    binary_safe i op.Or a b fit_a one two fit m s A d at next known nd around h exit = or_safe a b one two fit m s A d at next known nd around h exit

    -- ---- one instruction without operands

    pub const_ready : (m : ℕ) (s : Variables) (A : ℕ → Type 0) (d at next : ℕ) (k : Scalar) → Kn s U → n ≤ d → Ar d A → Spans body at (Does (instr.Const d k) ∷ []) next → Comes m next (B s A) → Comes m at (B s A)
    const_ready m s A d at next k known nd around h exit =
        let e : next ≡ at + 1 = (let z = h.1 in omega (arith, z)) in
        let live : Lives body t f at (B s A) = lives_on body t f at (instr.Const d k) (B s A) h.0.0 (λ r b. (less_not r d (base_low body c n t f s A U d known low nd around r b), tt)) (inl refl) (lives_at body t f next (at + 1) (B s A) e exit.0) in
        (live, safe_step body t f m at (instr.Const d k) (B s A) (B s A) h.0.0 live (λ x w. w) (λ r l. either (λ z. z.0) (λ z. absurd z) l) (safe_at body t f m next (at + 1) (B s A) e exit.1))

    -- a variable is shared where it is live behind, or else moved
    pub var_sure : (b : Bool) (x : ℕ) (m : ℕ) (s : Variables) (A : ℕ → Type 0) (d at : ℕ) → has s x ≡ b → slice_get body at ≡ Some (cond b (instr.Share d x) (instr.Move d x)) → Lives body t f at (B (with s x) A)
        → Sure body t f m (at + 1) (λ r. B s A r ⊎ ((r ≡ d) × (false ≡ false))) → Sure body t f m at (B (with s x) A)
    var_sure true x m s A d at e is live safe = safe_step body t f m at (instr.Share d x) (B (with s x) A) (λ r. B s A r ⊎ ((r ≡ d) × (false ≡ false))) is live (λ k w. w)
        (λ r l. either (λ z. inl (either (λ v. inl (either (λ w. subst (λ (y : ℕ). has s y ≡ true) (sym w) e) (λ w. w) (with_cases s x r v))) (λ a. inr a) z.0)) (λ z. inr (z.0, refl)) l) safe
    var_sure false x m s A d at e is live safe = safe_step body t f m at (instr.Move d x) (B (with s x) A) (λ r. B s A r ⊎ ((r ≡ d) × (false ≡ false))) is live (λ k w. w)
        (λ r l. either (λ z. inl (either (λ v. inl (either (λ w. absurd (z.1.1.0 w)) (λ w. w) (with_cases s x r v))) (λ a. inr a) z.0)) (λ z. inr (z.0, refl)) l) safe

    -- ---- a test of a type, behind which the value is released

    -- what the test says may be any value
    is_test_ready : (ty : Ty) (a : Expr ℕ) (m : ℕ) (s : Variables) (A : ℕ → Type 0) (d p next : ℕ) → Kn s U → n ≤ d → Ar d A → Spans body p (is_test c ty d) next → Leaves m next (B s A) (λ r. (r ≡ d) × (false ≡ false)) → Comes m p (λ r. B s A r ⊎ (r ≡ d))
    is_test_ready ty a m s A d p next known nd around h exit =
        let one = test c ty d (suc d) (suc (suc d)) in
        let last : Instr = instr.Move d (suc d) in
        let rest = dropped d (suc (suc d)) ++ Does last ∷ [] in
        let mid = p + length one in
        let two = back body p one rest next h in
        let three = tail body mid (instr.Move (suc (suc d)) d) (Does (instr.Clear (suc (suc d) ∷ [])) ∷ Does last ∷ []) next two in
        let four = tail body (mid + 1) (instr.Clear (suc (suc d) ∷ [])) (Does last ∷ []) next three in
        let q = mid + 1 + 1 in
        let e : next ≡ q + 1 = (let z = four.1 in omega (arith, z)) in
        let lows = base_low body c n t f s A U d known low nd around in
        let answered : ℕ → Type 0 = With (B s A) (suc d) in
        let live : Lives body t f q answered = λ r l. either (λ b. live_on body q (q + 1) r last four.0.0 (less_not r d (lows r b), (less_not r (suc d) (let z = lows r b in omega (arith, z)), tt)) (inl refl) (lives_at body t f next (q + 1) (B s A) e exit.0 r b)) (λ w. live_reads body q r last four.0.0 (inl w)) l in
        let safe : Sure body t f m q answered = safe_step body t f m q last answered (λ r. B s A r ⊎ ((r ≡ d) × (false ≡ false))) four.0.0 live (λ x w. w)
        (λ r l. either (λ z. either (λ b. inl b) (λ w. absurd (z.1.1.0 w)) z.0) (λ z. inr (z.0, refl)) l)
        (safe_at body t f m next (q + 1) (λ r. B s A r ⊎ ((r ≡ d) × (false ≡ false))) e exit.1) in
        let apart : (r : ℕ) → answered r → (r ≢ d) × (r ≢ suc (suc d)) = λ r l. either (λ b. let z = lows r b in (less_not r d z, less_not r (suc (suc d)) (omega (arith, z)))) (λ w. ((λ g. absurd (omega (arith, w, g))), (λ g. absurd (omega (arith, w, g))))) l in
        let facts = dropped_safe body c t f m mid next d (suc (suc d)) (Does last ∷ []) answered two apart live safe in
        let un : (r : ℕ) → B s A r ⊎ (r ≡ d) → (r < suc (suc d)) × (r ≢ suc d) = λ r l. either (λ b. let z = lows r b in (omega (arith, z), less_not r (suc d) (omega (arith, z)))) (λ w. (omega (arith, w), λ g. absurd (omega (arith, w, g)))) l in
        let live_mid : Lives body t f mid (With (With (B s A) d) (suc d)) = live_turned body c t f mid (suc d) d (B s A) facts.1 in (
          (λ r l. test_live body c ty d (suc d) (suc (suc d)) p mid r (front body p one rest next h) (un r l).0 (un r l).1 (live_mid r (inl l))),
          test_safe body c t f ty m p mid d (suc d) (suc (suc d)) (With (B s A) d) (front body p one rest next h) un (omega arith) live_mid (sure_turned body c t f m mid (suc d) d (B s A) facts.0),
        )

    -- the variable is live behind, so it stays in its register
    kept_test_ready : (ty : Ty) (x m : ℕ) (s : Variables) (A : ℕ → Type 0) (d p next : ℕ) → Kn s U → n ≤ d → Ar d A → Spans body p (tested c ty (Some x) d) next → Leaves m next (B s A) (λ r. (r ≡ d) × (false ≡ false)) → Comes m p (B s A)
    kept_test_ready ty x m s A d p next known nd around h exit =
        let one = test c ty x (suc d) (suc (suc d)) in
        let last : Instr = instr.Move d (suc d) in
        let mid = p + length one in
        let first = front body p one (Does last ∷ []) next h in
        let rest = back body p one (Does last ∷ []) next h in
        let e : next ≡ mid + 1 = (let z = rest.1 in omega (arith, z)) in
        let lows = base_low body c n t f s A U d known low nd around in
        let un : (r : ℕ) → B s A r → (r < suc (suc d)) × (r ≢ suc d) = λ r l. let z = lows r l in (omega (arith, z), less_not r (suc d) (omega (arith, z))) in
        let answered : ℕ → Type 0 = With (B s A) (suc d) in
        let live : Lives body t f mid answered = λ r l. either (λ b. live_on body mid (mid + 1) r last rest.0.0 (less_not r d (lows r b), ((un r b).1, tt)) (inl refl) (lives_at body t f next (mid + 1) (B s A) e exit.0 r b)) (λ w. live_reads body mid r last rest.0.0 (inl w)) l in
        let safe : Sure body t f m mid answered = safe_step body t f m mid last answered (λ r. B s A r ⊎ ((r ≡ d) × (false ≡ false))) rest.0.0 live (λ x w. w)
        (λ r l. either (λ z. either (λ b. inl b) (λ w. absurd (z.1.1.0 w)) z.0) (λ z. inr (z.0, refl)) l)
        (safe_at body t f m next (mid + 1) (λ r. B s A r ⊎ ((r ≡ d) × (false ≡ false))) e exit.1) in (
          (λ r l. test_live body c ty x (suc d) (suc (suc d)) p mid r first (un r l).0 (un r l).1 (live r (inl l))),
          test_safe body c t f ty m p mid x (suc d) (suc (suc d)) (B s A) first un (omega arith) live safe,
        )

    -- the value, or such a variable
    pub tested_ready : (ty : Ty) (w : Option ℕ) (a : Expr ℕ) (m : ℕ) (s : Variables) (A : ℕ → Type 0) (d p next : ℕ) → IsLiveIn w s → Kn s U → n ≤ d → Ar d A → Spans body p (tested c ty w d) next → Leaves m next (B s A) (λ r. (r ≡ d) × (false ≡ false))
        → Comes m p (λ r. B s A r ⊎ Stands body c n t f w a d r)
    tested_ready ty None a m s A d p next live known nd around h exit =
        ready_less body c n t f m p (λ r. B s A r ⊎ H a d r) (λ r. B s A r ⊎ (r ≡ d)) (λ r l. either (λ z. inl z) (λ z. inr z.0) l) (is_test_ready ty a m s A d p next known nd around h exit)
    tested_ready ty (Some x) a m s A d p next live known nd around h exit =
        ready_less body c n t f m p (λ r. B s A r ⊎ (r ≡ x)) (B s A) (λ r l. either (λ z. z) (λ e. inl (subst (λ (y : ℕ). has s y ≡ true) (sym e) live)) l) (kept_test_ready ty x m s A d p next known nd around h exit)

    -- ---- calls, lists and records

    -- the register of the value and those behind it stand for the operands
    pub call_ready : (a : Target) → IsValue a → (g k m : ℕ) (s : Variables) (A : ℕ → Type 0) (d p next : ℕ) → Kn s U → n ≤ d → Ar d A → Spans body p (call a g d k) next → Leaves m next (B s A) (λ r. (r ≡ d) × (false ≡ false)) → Comes m p (λ r. B s A r ⊎ Range d k r)
    call_ready (Declared gives) v g k m s A d p next known nd around h exit =
        let i : Instr = instr.Call d g (registers_from d k) in
        let lows = base_low body c n t f s A U d known low nd around in
        operands_ready body c n t f m p next i (B s A) (Range d k) (λ r. (r ≡ d) × (false ≡ false)) h
        (λ r b. (less_not r d (lows r b), none_below r d (registers_from d k) (lows r b) (from_registers d d k (omega arith)))) (inl refl) (λ r x. in_range d k r x) (λ r x none. absurd (one_not_none r (registers_from d k) (in_range d k r x) none))
        (λ r z. (z.0, refl))
        (λ q w. ((λ r l none. either (λ b. less_not r d (lows r b)) (λ x. absurd (one_not_none r (registers_from d k) (in_range d k r x) none)) l), w)) exit
    call_ready Prints v g k m s A d p next known nd around h exit = absurd v
    call_ready PrintsInt v g k m s A d p next known nd around h exit = absurd v
    call_ready Nothing v g k m s A d p next known nd around h exit = absurd v

    pub list_ready : (k m : ℕ) (s : Variables) (A : ℕ → Type 0) (d p next : ℕ) → Kn s U → n ≤ d → Ar d A → Spans body p (list k d) next → Leaves m next (B s A) (λ r. (r ≡ d) × (false ≡ false)) → Comes m p (λ r. B s A r ⊎ Range d k r)
    list_ready k m s A d p next known nd around h exit =
        let i : Instr = instr.Array d (registers_from d k) in
        let lows = base_low body c n t f s A U d known low nd around in
        operands_ready body c n t f m p next i (B s A) (Range d k) (λ r. (r ≡ d) × (false ≡ false)) h
        (λ r b. (less_not r d (lows r b), none_below r d (registers_from d k) (lows r b) (from_registers d d k (omega arith)))) (inl refl) (λ r x. in_range d k r x) (λ r x none. absurd (one_not_none r (registers_from d k) (in_range d k r x) none.1))
        (λ r z. (z, refl)) (λ q w. w) exit

    pub record_ready : (j k m : ℕ) (s : Variables) (A : ℕ → Type 0) (d p next : ℕ) → Kn s U → n ≤ d → Ar d A → Spans body p (Does (instr.Record d j (registers_from d k)) ∷ []) next → Leaves m next (B s A) (λ r. (r ≡ d) × (false ≡ false)) → Comes m p (λ r. B s A r ⊎ Range d k r)
    record_ready j k m s A d p next known nd around h exit =
        let i : Instr = instr.Record d j (registers_from d k) in
        let lows = base_low body c n t f s A U d known low nd around in
        operands_ready body c n t f m p next i (B s A) (Range d k) (λ r. (r ≡ d) × (false ≡ false)) h
        (λ r b. (less_not r d (lows r b), none_below r d (registers_from d k) (lows r b) (from_registers d d k (omega arith)))) (inl refl) (λ r x. in_range d k r x) (λ r x none. absurd (one_not_none r (registers_from d k) (in_range d k r x) none.1))
        (λ r z. (z, refl)) (λ q w. w) exit

    -- the first of the operands, and the others behind it
    pub first_of_range : (s : Variables) (A : ℕ → Type 0) (d k r : ℕ) → (Vars s r ⊎ (A r ⊎ (r ≡ d))) ⊎ Range (suc d) k r → B s A r ⊎ Range d (suc k) r
    first_of_range s A d k r (inl (inl v)) = inl (inl v)
    first_of_range s A d k r (inl (inr (inl a))) = inl (inr a)
    first_of_range s A d k r (inl (inr (inr e))) = inr (omega (arith, e), omega (arith, e))
    first_of_range s A d k r (inr x) = inr (let l = x.0 in omega (arith, l), let l = x.1 in omega (arith, l))

    pub more_of_one : (s u : Variables) (A : ℕ → Type 0) (e : Expr ℕ) (m d p : ℕ) → Comes m p (λ r. Vars s r ⊎ (A r ⊎ (r ≡ d))) → Full m p (B s A) e d
    more_of_one s u A e m d p k = (
      (λ r l. k.0 r (either (λ v. inl v) (λ a. inr (inl a)) l)),
      sure_less body t f m p (λ r. B s A r ⊎ H e d r) (λ r. Vars s r ⊎ (A r ⊎ (r ≡ d))) (λ r l. either (λ b. either (λ v. inl v) (λ a. inr (inl a)) b) (λ x. inr (inr x.0)) l) k.1,
    )
