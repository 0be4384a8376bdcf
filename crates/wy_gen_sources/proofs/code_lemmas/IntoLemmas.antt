-- A value that comes straight into the register of its variable: what is live in front of its code, and that it keeps nothing dead.
use Rattle.std.proofs.Common.{◌≡◌, ◌≢◌, ◌<◌, ◌⊎◌, inl, inr, ℕ, suc, ◌+◌, List, [], ◌∷◌, ◌++◌, length, Bool, true, false, ◌||◌, cond, Option, Some, None, pos, refl, sym, subst, arith}
use Rattle.std.specs.Prelude.{is_some}
use Rattle.wy_core.specs.CoreTree.{Expr, NullExpr, BoolExpr, IntExpr, VarExpr, CallExpr, NegExpr, NotExpr, LenExpr, BinaryExpr, IsExpr, IndexExpr, FieldExpr, ListExpr, RepeatExpr, RecordExpr, QuantExpr}
use Rattle.wy_core.specs.declared.expressions.Op.{Op}
use Rattle.wy_core.specs.declared.expressions.Op.TheVariants as op
use Rattle.wy_code.specs.declared.instructions.Scalar.{Scalar}
use Rattle.wy_code.specs.declared.instructions.Scalar.TheVariants as scalar
use Rattle.wy_code.specs.declared.instructions.Arithmetic.{Arithmetic}
use Rattle.wy_code.specs.declared.instructions.Arithmetic.TheVariants as arithmetic
use Rattle.wy_code.specs.declared.instructions.Comparison.{Comparison}
use Rattle.wy_code.specs.declared.instructions.Comparison.TheVariants as comparison
use Rattle.wy_code.specs.declared.instructions.Instr.{Instr}
use Rattle.wy_code.specs.declared.instructions.Instr.TheVariants as instr
use Rattle.wy_lemmas.proofs.Choices.{same_of, unlike as not_both, false_true as never, either}
use Rattle.wy_gen_laws.specs.wy_code_spec.declared.tables.context.Context.{Context}
use Rattle.wy_gen_laws.specs.wy_code_spec.tables.Tables.{number_of}
use Rattle.wy_live.specs.Paths.{occurs}
use Rattle.wy_live.specs.Sets.{Variables, has, with, without}
use Rattle.wy_live.specs.Walks.{before}
use Rattle.wy_code.specs.declared.pieces.steps.Step.TheVariants.{Does}
use Rattle.wy_gen_laws.specs.wy_code_spec.compiled.Operands.{variable_in, read, read_first, standing, unless_read}
use Rattle.wy_gen_laws.specs.wy_code_spec.compiled.Expressions.{code}
use Rattle.wy_gen_laws.specs.wy_code_spec.compiled.Straight.{is_straight, negated_into, into}
use Rattle.wy_gen_sources.specs.code.Large.{IsNone}
use Rattle.wy_gen_sources.specs.code.Alive.{IsOne, reads, changes, nexts, LiveAt}
use Rattle.wy_gen_sources.specs.code.Safe.{Gives, gone, Into, After, Onward, Safe}
use Rattle.wy_gen_sources.specs.code.Fitting.{Fits}
use Rattle.wy_gen_sources.proofs.code_lemmas.PieceLemmas.{less_not, Spans, front, back, tail, live_reads, live_on, live_last, Lives, Sure, sure_less, safe_step, lives_on}
use Rattle.wy_gen_sources.proofs.code_lemmas.SetLemmas.{Vars, with_cases, without_cases, without_of}
use Rattle.wy_gen_sources.proofs.code_lemmas.InPlaceLemmas.{IsIts, IsLiveIn, Waits, variable_its, read_its, first_its}
use Rattle.wy_gen_sources.proofs.code_lemmas.ReadLemmas.{Low, Goes, goes_on, Lively, there_of, standing_below, operand_live, operands_live, code_live}
use Rattle.wy_gen_sources.proofs.code_lemmas.OperandLemmas.{Stands, stands_at, ready_less, operands_ready, operand_safe, pair_safe}
use Rattle.wy_gen_sources.proofs.code_lemmas.ExpressionLemmas.{stands_below, code_safe}

module _ (body : List Instr) (c : Context) (n : ℕ) (U : ℕ → Type 0) (low : Low body c n U) where
  -- it is used, or it is another variable, which is live behind
  abbrev pub Passes : Bool → Variables → ℕ → ℕ → ℕ → Type 0
  Passes used S x next r = (used ≡ true) ⊎ ((r ≢ x) × Vars S r × LiveAt body next r)

  -- in front of the last instruction, which changes the variable alone
  ahead : (used : Bool) (S : Variables) (x p next r : ℕ) (i : Instr) → Spans body p (Does i ∷ []) next → (r ≢ x → IsNone r (changes i)) → IsOne (p + 1) (nexts p i) → Passes used S x next r → Goes body c n used (without S x) p r
  ahead used S x p next r i h none to (inl u) = inl u
  ahead used S x p next r i h none to (inr k) = inr (inl (without_of S x r (k.0, k.1)), live_last body p next r i h (none k.0) to k.2)

  lively : (a : Expr ℕ) → Fits c n a U → Lively body c n a
  lively a fit s d at next r nd h l way = code_live body c n a U s d at next r fit low nd h l way

  -- one operand and the instruction
  one_way : (w : Option ℕ) (a : Expr ℕ) → IsIts U w a → Fits c n a U → (S : Variables) (x at next r : ℕ) (i : Instr) → r < n → Spans body at (unless_read w (code c a (without S x) n) ++ Does i ∷ []) next
      → IsOne (standing w n) (reads i) → (r ≢ x → IsNone r (changes i)) → ((p : ℕ) → IsOne (p + 1) (nexts p i)) → Passes (occurs a r) S x next r → LiveAt body at r
  one_way w a its fit S x at next r i rn h read none to way =
      let one = unless_read w (code c a (without S x) n) in let mid = at + length one in
      let last = back body at one (Does i ∷ []) next h in
      operand_live body c n U w a its (lively a fit) (without S x) n at mid r (omega arith) (front body at one (Does i ∷ []) next h) rn (there_of body c n w n mid (live_reads body mid (standing w n) i last.0.0 read))
      (ahead (occurs a r) S x mid next r i last none (to mid) way)

  -- two operands and the instruction
  two_way : (w v : Option ℕ) (a b : Expr ℕ) → IsIts U w a → IsIts U v b → Fits c n a U → Fits c n b U → (S : Variables) (x at next r : ℕ) (i : Instr) → Waits c n w v b (without S x) → r < n
      → Spans body at (unless_read w (code c a (before b (without S x)) n) ++ (unless_read v (code c b (without S x) (suc n)) ++ Does i ∷ [])) next
      → IsOne (standing w n) (reads i) → IsOne (standing v (suc n)) (reads i) → (r ≢ x → IsNone r (changes i)) → ((p : ℕ) → IsOne (p + 1) (nexts p i)) → Passes (occurs a r || occurs b r) S x next r → LiveAt body at r
  two_way w v a b its too fit_a fit_b S x at next r i waits rn h one two none to way =
      let s = without S x in
      let xs = unless_read w (code c a (before b s) n) in let ys = unless_read v (code c b s (suc n)) in
      let mid = at + length xs in let p = mid + length ys in
      let second = back body at xs (ys ++ Does i ∷ []) next h in
      let last = back body mid ys (Does i ∷ []) next second in
      operands_live body c n U low w v a b its too (lively a fit_a) (lively b fit_b) s n at mid p r (omega arith) waits (front body at xs (ys ++ Does i ∷ []) next h) (front body mid ys (Does i ∷ []) next second)
      (there_of body c n w n p (live_reads body p (standing w n) i last.0.0 one)) (there_of body c n v (suc n) p (live_reads body p (standing v (suc n)) i last.0.0 two)) rn
      (ahead (occurs a r || occurs b r) S x p next r i last none (to p) way)

  -- an operator of numbers
  numbers_way : (a b : Expr ℕ) → Fits c n a U → Fits c n b U → (S : Variables) (x at next r : ℕ) (i : Instr) → r < n
      → Spans body at (unless_read (read_first a b (without S x)) (code c a (before b (without S x)) n) ++ (unless_read (variable_in b) (code c b (without S x) (suc n)) ++ Does i ∷ [])) next
      → IsOne (standing (read_first a b (without S x)) n) (reads i) → IsOne (standing (variable_in b) (suc n)) (reads i) → (r ≢ x → IsNone r (changes i)) → ((p : ℕ) → IsOne (p + 1) (nexts p i)) → Passes (occurs a r || occurs b r) S x next r → LiveAt body at r
  numbers_way a b fit_a fit_b S x at next r i rn h one two none to way =
      let k = first_its c n a b (without S x) U fit_a in
      two_way (read_first a b (without S x)) (variable_in b) a b k.0 (variable_its c n b U fit_b) fit_a fit_b S x at next r i k.1 rn h one two none to way

  arith_way : (o : Arithmetic) (a b : Expr ℕ) → Fits c n a U → Fits c n b U → (S : Variables) (x at next r : ℕ) → r < n
      → Spans body at (unless_read (read_first a b (without S x)) (code c a (before b (without S x)) n) ++ (unless_read (variable_in b) (code c b (without S x) (suc n)) ++ Does (instr.Arith x o (standing (read_first a b (without S x)) n) (standing (variable_in b) (suc n))) ∷ [])) next
      → Passes (occurs a r || occurs b r) S x next r → LiveAt body at r
  arith_way o a b fit_a fit_b S x at next r rn h way =
      numbers_way a b fit_a fit_b S x at next r (instr.Arith x o (standing (read_first a b (without S x)) n) (standing (variable_in b) (suc n))) rn h (inl refl) (inr (inl refl)) (λ g. (g, tt)) (λ p. inl refl) way

  compare_way : (o : Comparison) (a b : Expr ℕ) → Fits c n a U → Fits c n b U → (S : Variables) (x at next r : ℕ) → r < n
      → Spans body at (unless_read (read_first a b (without S x)) (code c a (before b (without S x)) n) ++ (unless_read (variable_in b) (code c b (without S x) (suc n)) ++ Does (instr.Compare x o (standing (read_first a b (without S x)) n) (standing (variable_in b) (suc n))) ∷ [])) next
      → Passes (occurs a r || occurs b r) S x next r → LiveAt body at r
  compare_way o a b fit_a fit_b S x at next r rn h way =
      numbers_way a b fit_a fit_b S x at next r (instr.Compare x o (standing (read_first a b (without S x)) n) (standing (variable_in b) (suc n))) rn h (inl refl) (inr (inl refl)) (λ g. (g, tt)) (λ p. inl refl) way

  binary_way : (o : Op) (i : ℕ) (a b : Expr ℕ) → Fits c n a U → Fits c n b U → (S : Variables) (x at next r : ℕ) → is_straight (BinaryExpr i o a b) (without S x) ≡ true → r < n
      → Spans body at (into c (BinaryExpr i o a b) (without S x) n x) next → Passes (occurs a r || occurs b r) S x next r → LiveAt body at r
  binary_way op.Add i a b fit_a fit_b S x at next r is rn h way = arith_way arithmetic.Add a b fit_a fit_b S x at next r rn h way
  binary_way op.Sub i a b fit_a fit_b S x at next r is rn h way = arith_way arithmetic.Sub a b fit_a fit_b S x at next r rn h way
  binary_way op.Mul i a b fit_a fit_b S x at next r is rn h way = arith_way arithmetic.Mul a b fit_a fit_b S x at next r rn h way
  binary_way op.Div i a b fit_a fit_b S x at next r is rn h way = arith_way arithmetic.Div a b fit_a fit_b S x at next r rn h way
  binary_way op.Mod i a b fit_a fit_b S x at next r is rn h way = arith_way arithmetic.Mod a b fit_a fit_b S x at next r rn h way
  binary_way op.Equal i a b fit_a fit_b S x at next r is rn h way = never is
  binary_way op.Less i a b fit_a fit_b S x at next r is rn h way = compare_way comparison.Less a b fit_a fit_b S x at next r rn h way
  binary_way op.LessEqual i a b fit_a fit_b S x at next r is rn h way = compare_way comparison.LessEqual a b fit_a fit_b S x at next r rn h way
  binary_way op.Greater i a b fit_a fit_b S x at next r is rn h way = compare_way comparison.Greater a b fit_a fit_b S x at next r rn h way
  binary_way op.GreaterEqual i a b fit_a fit_b S x at next r is rn h way = compare_way comparison.GreaterEqual a b fit_a fit_b S x at next r rn h way
  binary_way op.And i a b fit_a fit_b S x at next r is rn h way = never is
  binary_way op.Or i a b fit_a fit_b S x at next r is rn h way = never is

  neg_way : (a : Expr ℕ) → Fits c n a U → (S : Variables) (x at next r : ℕ) → r < n → Spans body at (unless_read (variable_in a) (code c a (without S x) n) ++ negated_into n x (standing (variable_in a) n)) next
      → Passes (occurs a r) S x next r → LiveAt body at r
  neg_way a fit S x at next r rn h way =
      let w = variable_in a in let y = standing w n in
      let zero_in : Instr = instr.Const (suc n) (scalar.Int (pos 0)) in let minus : Instr = instr.Arith x arithmetic.Sub (suc n) y in
      let its = variable_its c n a U fit in
      let one = unless_read w (code c a (without S x) n) in let mid = at + length one in
      let rest = back body at one (negated_into n x y) next h in
      let last = tail body mid zero_in (Does minus ∷ []) next rest in
      operand_live body c n U w a its (lively a fit) (without S x) n at mid r (omega arith) (front body at one (negated_into n x y) next h) rn
      (there_of body c n w n mid (live_on body mid (mid + 1) y zero_in rest.0.0 (less_not y (suc n) (standing_below body c n U low w a its n (omega arith)), tt) (inl refl) (live_reads body (mid + 1) y minus last.0.0 (inr (inl refl)))))
      (goes_on body c n (occurs a r) (without S x) mid (mid + 1) r (λ l. live_on body mid (mid + 1) r zero_in rest.0.0 (less_not r (suc n) (omega (arith, rn)), tt) (inl refl) l)
      (ahead (occurs a r) S x (mid + 1) next r minus last (λ g. (g, tt)) (inl refl) way))

  const_way : (k : Scalar) (S : Variables) (x at next r : ℕ) → Spans body at (Does (instr.Const x k) ∷ []) next → Passes false S x next r → LiveAt body at r
  const_way k S x at next r h (inl u) = never u
  const_way k S x at next r h (inr g) = live_last body at next r (instr.Const x k) h (g.0, tt) (inl refl) g.2

  var_way : (b : Bool) (y : ℕ) (S : Variables) (x at next r : ℕ) → has (without S x) y ≡ b → Spans body at (Does (cond b (instr.Share x y) (instr.Move x y)) ∷ []) next → (r ≡ y) ⊎ ((r ≢ x) × Vars S r × LiveAt body next r) → LiveAt body at r
  var_way true y S x at next r e h (inl u) = live_reads body at r (instr.Share x y) h.0.0 (inl u)
  var_way true y S x at next r e h (inr g) = live_last body at next r (instr.Share x y) h (g.0, tt) (inl refl) g.2
  var_way false y S x at next r e h (inl u) = live_reads body at r (instr.Move x y) h.0.0 (inl u)
  var_way false y S x at next r e h (inr g) = live_last body at next r (instr.Move x y) h (g.0, ((λ same. not_both (has (without S x) y) (subst (λ (z : ℕ). Vars (without S x) z) same (without_of S x r (g.0, g.1))) e), tt)) (inl refl) g.2

  -- what a straight value uses is live in front of its code, and so is what is live behind, but for the variable
  pub into_live : (e : Expr ℕ) → Fits c n e U → (S : Variables) (x at next r : ℕ) → is_straight e (without S x) ≡ true → r < n → Spans body at (into c e (without S x) n x) next → Passes (occurs e r) S x next r → LiveAt body at r
  into_live (NullExpr i) fit S x at next r is rn h way = const_way scalar.Null S x at next r h way
  into_live (BoolExpr i truth) fit S x at next r is rn h way = const_way (scalar.Bool truth) S x at next r h way
  into_live (IntExpr i number) fit S x at next r is rn h way = const_way (scalar.Int number) S x at next r h way
  into_live (VarExpr i y) fit S x at next r is rn h way = var_way (has (without S x) y) y S x at next r refl h (either (λ u. inl (same_of r y u)) (λ g. inr g) way)
  into_live (CallExpr i g args) fit S x at next r is rn h way = never is
  into_live (NegExpr i a) fit S x at next r is rn h way = neg_way a fit S x at next r rn h way
  into_live (NotExpr i a) fit S x at next r is rn h way =
      let w = variable_in a in
      one_way w a (variable_its c n a U fit) fit S x at next r (instr.Not x (standing w n)) rn h (inl refl) (λ g. (g, tt)) (λ p. inl refl) way
  into_live (LenExpr i a) fit S x at next r is rn h way =
      let w = read a (without S x) in
      one_way w a (read_its c n a (without S x) U fit).0 fit S x at next r (instr.Len x (standing w n)) rn h (inl refl) (λ g. (g, tt)) (λ p. inl refl) way
  into_live (BinaryExpr i o a b) fit S x at next r is rn h way = binary_way o i a b fit.0 fit.1 S x at next r is rn h way
  into_live (IsExpr i a ty) fit S x at next r is rn h way = never is
  into_live (IndexExpr i a b) fit S x at next r is rn h way =
      let w = read a (without S x) in let v = variable_in b in let its = read_its c n a (without S x) U fit.0 in
      two_way w v a b its.0 (variable_its c n b U fit.1) fit.0 fit.1 S x at next r (instr.Get x (standing w n) (standing v (suc n))) (inl its.1) rn h (inl refl) (inr (inl refl)) (λ g. (g, tt)) (λ p. inl refl) way
  into_live (FieldExpr i a name) fit S x at next r is rn h way =
      let w = read a (without S x) in
      one_way w a (read_its c n a (without S x) U fit).0 fit S x at next r (instr.Field x (standing w n) (number_of name c.table.names)) rn h (inl refl) (λ g. (g, tt)) (λ p. inl refl) way
  into_live (ListExpr i items) fit S x at next r is rn h way = never is
  into_live (RepeatExpr i a b) fit S x at next r is rn h way = never is
  into_live (RecordExpr i fs) fit S x at next r is rn h way = never is
  into_live (QuantExpr i all y a b inner) fit S x at next r is rn h way = never is

  module _ (t : Gives) (f : ℕ) where
    abbrev Kn : Variables → Type 0
    Kn s = (r : ℕ) → Vars s r → U r

    abbrev Comes : ℕ → ℕ → (ℕ → Type 0) → Type 0
    Comes m p P = Lives body t f p P × Sure body t f m p P

    -- no other value waits beside it
    abbrev Alone : Variables → ℕ → Type 0
    Alone s r = Vars s r ⊎ ⊥

    abbrev Leaves : ℕ → ℕ → (ℕ → Type 0) → (ℕ → Type 0) → Type 0
    Leaves m p P Q = Lives body t f p P × Sure body t f m p (λ r. P r ⊎ Q r)

    known_without : (S : Variables) (x : ℕ) → Kn S → Kn (without S x)
    known_without S x known r v = known r (without_cases S x r v).1

    alone_less : (m p : ℕ) (s : Variables) → Comes m p (Alone s) → Comes m p (Vars s)
    alone_less m p s k = ready_less body c n t f m p (Vars s) (Alone s) (λ r l. inl l) k

    -- behind the last instruction the variable may hold what came into it
    behind_last : (m p x : ℕ) (S : Variables) → Vars S x → Comes m p (Vars S) → Leaves m p (Alone (without S x)) (λ r. r ≡ x)
    behind_last m p x S has_x exit = (
      (λ r l. either (λ v. exit.0 r (without_cases S x r v).1) (λ z. absurd z) l),
      sure_less body t f m p (λ r. Alone (without S x) r ⊎ (r ≡ x)) (Vars S)
          (λ r l. either (λ k. either (λ v. (without_cases S x r v).1) (λ z. absurd z) k) (λ e. subst (λ (y : ℕ). Vars S y) (sym e) has_x) l) exit.1,
    )

    -- the last instruction, which reads the operands
    last_ready : (m p next x : ℕ) (S : Variables) (i : Instr) (X : ℕ → Type 0) → Vars S x → Spans body p (Does i ∷ []) next → ((r : ℕ) → Vars (without S x) r → IsNone r (changes i)) → IsOne (p + 1) (nexts p i) → ((r : ℕ) → X r → IsOne r (reads i))
        → ((r : ℕ) → X r → IsNone r (gone i) → Vars (without S x) r) → ((r : ℕ) (P : ℕ → Type 0) → Into t i P r → r ≡ x) → ((k : ℕ) (P : ℕ → Type 0) → Safe t f body k (p + 1) (After t i P) → Onward t f (Safe t f body k) p i P)
        → Comes m next (Vars S) → Comes m p (λ r. Alone (without S x) r ⊎ X r)
    last_ready m p next x S i X has_x h none to read stays come onward exit =
        let P : ℕ → Type 0 = λ r. Alone (without S x) r ⊎ X r in
        operands_ready body c n t f m p next i (Alone (without S x)) X (λ r. r ≡ x) h (λ r b. either (λ v. none r v) (λ z. absurd z) b) to read (λ r y g. inl (inl (stays r y g)))
        (λ r g. come r P g) (λ k z. onward k P z) (behind_last m next x S has_x exit)

    -- where the last instruction changes the variable alone
    apart : (S : Variables) (x r : ℕ) → Vars (without S x) r → IsNone r (x ∷ [])
    apart S x r v = ((without_cases S x r v).0, tt)

    -- one operand and the instruction
    one_safe : (w : Option ℕ) (a : Expr ℕ) → IsIts U w a → Fits c n a U → (m : ℕ) (S : Variables) (x at next : ℕ) (i : Instr) → Vars S x → Kn S → Spans body at (unless_read w (code c a (without S x) n) ++ Does i ∷ []) next
        → ((r : ℕ) → Vars (without S x) r → IsNone r (changes i)) → ((p : ℕ) → IsOne (p + 1) (nexts p i)) → IsOne (standing w n) (reads i)
        → ((r : ℕ) → Stands body c n t f w a n r → IsNone r (gone i) → Vars (without S x) r) → ((r : ℕ) (P : ℕ → Type 0) → Into t i P r → r ≡ x) → ((k p : ℕ) (P : ℕ → Type 0) → Safe t f body k (p + 1) (After t i P) → Onward t f (Safe t f body k) p i P)
        → Comes m next (Vars S) → Comes m at (Vars (before a (without S x)))
    one_safe w a its fit m S x at next i has_x known h none to read stays come onward exit =
        let s = without S x in
        let one = unless_read w (code c a s n) in let mid = at + length one in
        alone_less m at (before a s) (operand_safe body c n t f U low w a its (code_safe body c n t f a U fit low) m s (λ r. ⊥) n at mid (known_without S x known) (omega arith) (λ r z. absurd z) (front body at one (Does i ∷ []) next h)
        (last_ready m mid next x S i (Stands body c n t f w a n) has_x (back body at one (Does i ∷ []) next h) none (to mid)
        (λ r y. subst (λ (z : ℕ). IsOne z (reads i)) (sym (stands_at body c n t f w a n r y)) read) stays come (λ k P z. onward k mid P z) exit))

    -- two operands and the instruction
    two_safe : (w v : Option ℕ) (a b : Expr ℕ) → IsIts U w a → IsIts U v b → Fits c n a U → Fits c n b U → (m : ℕ) (S : Variables) (x at next : ℕ) (i : Instr) → Waits c n w v b (without S x) → Vars S x → Kn S
        → Spans body at (unless_read w (code c a (before b (without S x)) n) ++ (unless_read v (code c b (without S x) (suc n)) ++ Does i ∷ [])) next
        → ((r : ℕ) → Vars (without S x) r → IsNone r (changes i)) → ((p : ℕ) → IsOne (p + 1) (nexts p i)) → IsOne (standing w n) (reads i) → IsOne (standing v (suc n)) (reads i)
        → ((r : ℕ) → Stands body c n t f w a n r → IsNone r (gone i) → Vars (without S x) r) → ((r : ℕ) → Stands body c n t f v b (suc n) r → IsNone r (gone i) → Vars (without S x) r)
        → ((r : ℕ) (P : ℕ → Type 0) → Into t i P r → r ≡ x) → ((k p : ℕ) (P : ℕ → Type 0) → Safe t f body k (p + 1) (After t i P) → Onward t f (Safe t f body k) p i P)
        → Comes m next (Vars S) → Comes m at (Vars (before a (before b (without S x))))
    two_safe w v a b its too fit_a fit_b m S x at next i waits has_x known h none to one two stays also come onward exit =
        let s = without S x in
        let X : ℕ → Type 0 = λ r. Stands body c n t f w a n r ⊎ Stands body c n t f v b (suc n) r in
        alone_less m at (before a (before b s)) (pair_safe body c n t f U low w v a b its too (code_safe body c n t f a U fit_a low) (code_safe body c n t f b U fit_b low) fit_b m s (λ r. ⊥) n at next (Does i ∷ []) waits
        (known_without S x known) (omega arith) (λ r z. absurd z) h
        (λ p sp. last_ready m p next x S i X has_x sp none (to p)
        (λ r y. either (λ z. subst (λ (q : ℕ). IsOne q (reads i)) (sym (stands_at body c n t f w a n r z)) one) (λ z. subst (λ (q : ℕ). IsOne q (reads i)) (sym (stands_at body c n t f v b (suc n) r z)) two) y)
        (λ r y g. either (λ z. stays r z g) (λ z. also r z g) y) come (λ k P z. onward k p P z) exit))

    -- behind an operator of numbers its operands are no lists
    arith_into : (o : Arithmetic) (a b : Expr ℕ) → Fits c n a U → Fits c n b U → (m : ℕ) (S : Variables) (x at next : ℕ) → Vars S x → Kn S
        → Spans body at (unless_read (read_first a b (without S x)) (code c a (before b (without S x)) n) ++ (unless_read (variable_in b) (code c b (without S x) (suc n)) ++ Does (instr.Arith x o (standing (read_first a b (without S x)) n) (standing (variable_in b) (suc n))) ∷ [])) next
        → Comes m next (Vars S) → Comes m at (Vars (before a (before b (without S x))))
    arith_into o a b fit_a fit_b m S x at next has_x known h exit =
        let w = read_first a b (without S x) in let v = variable_in b in let k = first_its c n a b (without S x) U fit_a in
        two_safe w v a b k.0 (variable_its c n b U fit_b) fit_a fit_b m S x at next (instr.Arith x o (standing w n) (standing v (suc n))) k.1 has_x known h (apart S x) (λ p. inl refl) (inl refl) (inr (inl refl))
        (λ r y g. absurd (g.1.0 (stands_at body c n t f w a n r y))) (λ r y g. absurd (g.1.1.0 (stands_at body c n t f v b (suc n) r y))) (λ r P g. absurd g) (λ q p P z. z) exit

    compare_into : (o : Comparison) (a b : Expr ℕ) → Fits c n a U → Fits c n b U → (m : ℕ) (S : Variables) (x at next : ℕ) → Vars S x → Kn S
        → Spans body at (unless_read (read_first a b (without S x)) (code c a (before b (without S x)) n) ++ (unless_read (variable_in b) (code c b (without S x) (suc n)) ++ Does (instr.Compare x o (standing (read_first a b (without S x)) n) (standing (variable_in b) (suc n))) ∷ [])) next
        → Comes m next (Vars S) → Comes m at (Vars (before a (before b (without S x))))
    compare_into o a b fit_a fit_b m S x at next has_x known h exit =
        let w = read_first a b (without S x) in let v = variable_in b in let k = first_its c n a b (without S x) U fit_a in
        two_safe w v a b k.0 (variable_its c n b U fit_b) fit_a fit_b m S x at next (instr.Compare x o (standing w n) (standing v (suc n))) k.1 has_x known h (apart S x) (λ p. inl refl) (inl refl) (inr (inl refl))
        (λ r y g. absurd (g.1.0 (stands_at body c n t f w a n r y))) (λ r y g. absurd (g.1.1.0 (stands_at body c n t f v b (suc n) r y))) (λ r P g. absurd g) (λ q p P z. z) exit

    binary_into : (o : Op) (i : ℕ) (a b : Expr ℕ) → Fits c n a U → Fits c n b U → (m : ℕ) (S : Variables) (x at next : ℕ) → is_straight (BinaryExpr i o a b) (without S x) ≡ true → Vars S x → Kn S
        → Spans body at (into c (BinaryExpr i o a b) (without S x) n x) next → Comes m next (Vars S) → Comes m at (Vars (before a (before b (without S x))))
    binary_into op.Add i a b fit_a fit_b m S x at next is has_x known h exit = arith_into arithmetic.Add a b fit_a fit_b m S x at next has_x known h exit
    binary_into op.Sub i a b fit_a fit_b m S x at next is has_x known h exit = arith_into arithmetic.Sub a b fit_a fit_b m S x at next has_x known h exit
    binary_into op.Mul i a b fit_a fit_b m S x at next is has_x known h exit = arith_into arithmetic.Mul a b fit_a fit_b m S x at next has_x known h exit
    binary_into op.Div i a b fit_a fit_b m S x at next is has_x known h exit = arith_into arithmetic.Div a b fit_a fit_b m S x at next has_x known h exit
    binary_into op.Mod i a b fit_a fit_b m S x at next is has_x known h exit = arith_into arithmetic.Mod a b fit_a fit_b m S x at next has_x known h exit
    binary_into op.Equal i a b fit_a fit_b m S x at next is has_x known h exit = never is
    binary_into op.Less i a b fit_a fit_b m S x at next is has_x known h exit = compare_into comparison.Less a b fit_a fit_b m S x at next has_x known h exit
    binary_into op.LessEqual i a b fit_a fit_b m S x at next is has_x known h exit = compare_into comparison.LessEqual a b fit_a fit_b m S x at next has_x known h exit
    binary_into op.Greater i a b fit_a fit_b m S x at next is has_x known h exit = compare_into comparison.Greater a b fit_a fit_b m S x at next has_x known h exit
    binary_into op.GreaterEqual i a b fit_a fit_b m S x at next is has_x known h exit = compare_into comparison.GreaterEqual a b fit_a fit_b m S x at next has_x known h exit
    binary_into op.And i a b fit_a fit_b m S x at next is has_x known h exit = never is
    binary_into op.Or i a b fit_a fit_b m S x at next is has_x known h exit = never is

    neg_into : (a : Expr ℕ) → Fits c n a U → (m : ℕ) (S : Variables) (x at next : ℕ) → Vars S x → Kn S → Spans body at (unless_read (variable_in a) (code c a (without S x) n) ++ negated_into n x (standing (variable_in a) n)) next
        → Comes m next (Vars S) → Comes m at (Vars (before a (without S x)))
    neg_into a fit m S x at next has_x known h exit =
        let s = without S x in let w = variable_in a in let y = standing w n in
        let its = variable_its c n a U fit in
        let one = unless_read w (code c a s n) in let mid = at + length one in
        let zero_in : Instr = instr.Const (suc n) (scalar.Int (pos 0)) in let minus : Instr = instr.Arith x arithmetic.Sub (suc n) y in
        let rest = back body at one (negated_into n x y) next h in
        let X : ℕ → Type 0 = Stands body c n t f w a n in
        let P : ℕ → Type 0 = λ r. Alone s r ⊎ X r in
        let k : Comes m (mid + 1) P = last_ready m (mid + 1) next x S minus X has_x (tail body mid zero_in (Does minus ∷ []) next rest) (apart S x) (inl refl) (λ r z. inr (inl (stands_at body c n t f w a n r z)))
        (λ r z g. absurd (g.1.1.0 (stands_at body c n t f w a n r z))) (λ r Q g. absurd g) (λ q Q z. z) exit in
        let below : (r : ℕ) → P r → r < suc n = λ r l. either (λ b. either (λ v. let z = low r (known r (without_cases S x r v).1) in omega (arith, z)) (λ z. absurd z) b) (λ z. stands_below body c n t f U low w a its n r (omega arith) z) l in
        let live : Lives body t f mid P = lives_on body t f mid zero_in P rest.0.0 (λ r l. (less_not r (suc n) (below r l), tt)) (inl refl) k.0 in
        alone_less m at (before a s) (operand_safe body c n t f U low w a its (code_safe body c n t f a U fit low) m s (λ r. ⊥) n at mid (known_without S x known) (omega arith) (λ r z. absurd z) (front body at one (negated_into n x y) next h)
        (live, safe_step body t f m mid zero_in P P rest.0.0 live (λ q z. z) (λ r l. either (λ z. z.0) (λ z. absurd z) l) k.1))

    const_into : (j : Scalar) (m : ℕ) (S : Variables) (x at next : ℕ) → Vars S x → Spans body at (Does (instr.Const x j) ∷ []) next → Comes m next (Vars S) → Comes m at (Vars (without S x))
    const_into j m S x at next has_x h exit =
        let s = without S x in
        ready_less body c n t f m at (Vars s) (λ r. Alone s r ⊎ ⊥) (λ r v. inl (inl v))
        (last_ready m at next x S (instr.Const x j) (λ r. ⊥) has_x h (apart S x) (inl refl) (λ r z. absurd z) (λ r z g. absurd z) (λ r P g. absurd g) (λ k P z. z) exit)

    -- another variable, which is shared where it is live behind, or else moved
    var_into : (b : Bool) (y m : ℕ) (S : Variables) (x at next : ℕ) → has (without S x) y ≡ b → Vars S x → Spans body at (Does (cond b (instr.Share x y) (instr.Move x y)) ∷ []) next → Comes m next (Vars S) → Comes m at (Vars (with (without S x) y))
    var_into b y m S x at next e has_x h exit =
        let s = without S x in
        ready_less body c n t f m at (Vars (with s y)) (λ r. Alone s r ⊎ (r ≡ y)) (λ r v. either (λ z. inr z) (λ z. inl (inl z)) (with_cases s y r v)) (by b e h)
      where
        moved_apart : has (without S x) y ≡ false → (r : ℕ) → Vars (without S x) r → IsNone r (x ∷ y ∷ [])
        moved_apart is r v = ((without_cases S x r v).0, ((λ same. not_both (has (without S x) y) (subst (λ (z : ℕ). Vars (without S x) z) same v) is), tt))

        by : (b : Bool) → has (without S x) y ≡ b → Spans body at (Does (cond b (instr.Share x y) (instr.Move x y)) ∷ []) next → Comes m at (λ r. Alone (without S x) r ⊎ (r ≡ y))
        by true is sp = last_ready m at next x S (instr.Share x y) (λ r. r ≡ y) has_x sp (apart S x) (inl refl) (λ r z. inl z) (λ r z g. subst (λ (q : ℕ). Vars (without S x) q) (sym z) is) (λ r P g. g.0) (λ k P z. z) exit
        by false is sp = last_ready m at next x S (instr.Move x y) (λ r. r ≡ y) has_x sp (moved_apart is) (inl refl) (λ r z. inl z) (λ r z g. absurd (g.1.0 z)) (λ r P g. g.0) (λ k P z. z) exit

    -- the list or record of which a part is taken is live behind
    still_there : (w : Option ℕ) (a : Expr ℕ) (s : Variables) (r : ℕ) → is_some w ≡ true → IsLiveIn w s → Stands body c n t f w a n r → Vars s r
    still_there None a s r is live z = never is
    still_there (Some y) a s r is live z = subst (λ (q : ℕ). Vars s q) (sym z) live

    -- the code of a straight value keeps nothing dead, where what is live behind it is so
    pub into_safe : (e : Expr ℕ) → Fits c n e U → (m : ℕ) (S : Variables) (x at next : ℕ) → is_straight e (without S x) ≡ true → Vars S x → Kn S → Spans body at (into c e (without S x) n x) next
        → Comes m next (Vars S) → Comes m at (Vars (before e (without S x)))
    into_safe (NullExpr i) fit m S x at next is has_x known h exit = const_into scalar.Null m S x at next has_x h exit
    into_safe (BoolExpr i truth) fit m S x at next is has_x known h exit = const_into (scalar.Bool truth) m S x at next has_x h exit
    into_safe (IntExpr i number) fit m S x at next is has_x known h exit = const_into (scalar.Int number) m S x at next has_x h exit
    into_safe (VarExpr i y) fit m S x at next is has_x known h exit = var_into (has (without S x) y) y m S x at next refl has_x h exit
    into_safe (CallExpr i g args) fit m S x at next is has_x known h exit = never is
    into_safe (NegExpr i a) fit m S x at next is has_x known h exit = neg_into a fit m S x at next has_x known h exit
    into_safe (NotExpr i a) fit m S x at next is has_x known h exit =
        let w = variable_in a in
        one_safe w a (variable_its c n a U fit) fit m S x at next (instr.Not x (standing w n)) has_x known h (apart S x) (λ p. inl refl) (inl refl)
        (λ r y g. absurd (g.1.0 (stands_at body c n t f w a n r y))) (λ r P g. absurd g) (λ k p P z. z) exit
    into_safe (LenExpr i a) fit m S x at next is has_x known h exit =
        let w = read a (without S x) in let its = read_its c n a (without S x) U fit in
        one_safe w a its.0 fit m S x at next (instr.Len x (standing w n)) has_x known h (apart S x) (λ p. inl refl) (inl refl)
        (λ r y g. still_there w a (without S x) r is its.1 y) (λ r P g. absurd g) (λ k p P z. z) exit
    into_safe (BinaryExpr i o a b) fit m S x at next is has_x known h exit = binary_into o i a b fit.0 fit.1 m S x at next is has_x known h exit
    into_safe (IsExpr i a ty) fit m S x at next is has_x known h exit = never is
    into_safe (IndexExpr i a b) fit m S x at next is has_x known h exit =
        let w = read a (without S x) in let v = variable_in b in let its = read_its c n a (without S x) U fit.0 in
        two_safe w v a b its.0 (variable_its c n b U fit.1) fit.0 fit.1 m S x at next (instr.Get x (standing w n) (standing v (suc n))) (inl its.1) has_x known h (apart S x) (λ p. inl refl) (inl refl) (inr (inl refl))
        (λ r y g. still_there w a (without S x) r is its.1 y) (λ r y g. absurd (g.1.0 (stands_at body c n t f v b (suc n) r y))) (λ r P g. g) (λ k p P z. z) exit
    into_safe (FieldExpr i a name) fit m S x at next is has_x known h exit =
        let w = read a (without S x) in let its = read_its c n a (without S x) U fit in
        one_safe w a its.0 fit m S x at next (instr.Field x (standing w n) (number_of name c.table.names)) has_x known h (apart S x) (λ p. inl refl) (inl refl)
        (λ r y g. still_there w a (without S x) r is its.1 y) (λ r P g. g) (λ k p P z. z) exit
    into_safe (ListExpr i items) fit m S x at next is has_x known h exit = never is
    into_safe (RepeatExpr i a b) fit m S x at next is has_x known h exit = never is
    into_safe (RecordExpr i fs) fit m S x at next is has_x known h exit = never is
    into_safe (QuantExpr i all y a b inner) fit m S x at next is has_x known h exit = never is
