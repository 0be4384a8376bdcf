-- What the code of operands and of their instructions keeps.
use Rattle.std.proofs.Common.{◌≡◌, ◌<◌, ◌≤◌, ◌⊎◌, inl, inr, ℕ, zero, suc, ◌+◌, List, [], ◌∷◌, ◌++◌, length, Bool, true, false, Option, Some, None, refl, sym, ap, subst, arith}
use Rattle.wy_core.specs.CoreTree.{Expr, NullExpr, BoolExpr, IntExpr, VarExpr, CallExpr, NegExpr, NotExpr, LenExpr, BinaryExpr, IsExpr, IndexExpr, FieldExpr, ListExpr, RepeatExpr, RecordExpr, QuantExpr}
use Rattle.wy_core.specs.declared.expressions.Op.{Op}
use Rattle.wy_core.specs.declared.expressions.Op.TheVariants as op
use Rattle.wy_code.specs.declared.instructions.Arithmetic.{Arithmetic}
use Rattle.wy_code.specs.declared.instructions.Comparison.{Comparison}
use Rattle.wy_code.specs.declared.instructions.Instr.{Instr}
use Rattle.wy_code.specs.declared.instructions.Instr.TheVariants as instr
use Rattle.wy_lemmas.proofs.Choices.{unlike as not_both, false_true as never, either}
use Rattle.wy_gen_laws.specs.wy_code_spec.declared.tables.context.Context.{Context}
use Rattle.wy_gen_laws.specs.wy_code_spec.declared.tables.targets.Target.{Target}
use Rattle.wy_gen_laws.specs.wy_code_spec.declared.tables.targets.Target.TheVariants.{Declared, Prints, PrintsInt, Nothing}
use Rattle.wy_gen_laws.specs.wy_code_spec.tables.Tables.{target, number_of}
use Rattle.wy_live.specs.Sets.{Variables, with}
use Rattle.wy_live.specs.Walks.{before, turned}
use Rattle.wy_code.specs.declared.pieces.steps.Step.{Step}
use Rattle.wy_code.specs.declared.pieces.steps.Step.TheVariants.{Does}
use Rattle.wy_code.specs.pieces.Steps.{clear, fork, registers_from, dropped}
use Rattle.wy_core.specs.Types.{Ty}
use Rattle.wy_gen_laws.specs.wy_code_spec.compiled.TypeTests.{test}
use Rattle.wy_gen_laws.specs.wy_code_spec.compiled.Operands.{variable_in, read, read_first, standing, unless_read, plain_or_read}
use Rattle.wy_gen_laws.specs.wy_code_spec.compiled.Expressions.{released, is_plain, arith as arith_code, compare, equal, operator, call, count_of, negated, list, record_of, quantify, code, codes, field_codes, tested, tested_read}
use Rattle.wy_gen_sources.specs.code.Large.{IsNone}
use Rattle.wy_gen_sources.specs.code.Alive.{IsOne, reads, changes, nexts, LiveAt}
use Rattle.wy_gen_sources.specs.code.Safe.{Gives, gone, Into, After, Onward, Safe}
use Rattle.wy_gen_sources.specs.code.Fitting.{IsValue, Fits}
use Rattle.wy_gen_sources.proofs.code_lemmas.PieceLemmas.{one_not_none, less_not, Spans, front, back, tail, ended, live_reads, live_on, Lives, Sure, sure_less, safe_step, safe_clears, safe_at, lives_on, lives_at}
use Rattle.wy_gen_sources.proofs.code_lemmas.SetLemmas.{Vars, before_cases, before_of, with_cases, with_of}
use Rattle.wy_gen_sources.proofs.code_lemmas.InPlaceLemmas.{IsIts, IsLiveIn, Waits, variable_occurs}
use Rattle.wy_gen_sources.proofs.code_lemmas.ReadLemmas.{Low, Strict, occurs_used, code_live}

-- ---- a range of registers

abbrev pub Range : ℕ → ℕ → ℕ → Type 0
Range d k r = (d ≤ r) × (r < d + k)

pub in_range : (d k r : ℕ) → Range d k r → IsOne r (registers_from d k)
in_range d zero r h = let a = h.0 in let b = h.1 in absurd (omega (arith, a, b))
in_range d (suc k) r h = either (λ e. inl e) (λ l. inr (in_range (suc d) k r (l, let b = h.1 in omega (arith, b)))) (first_or_more d r h.0)
  where
    first_or_more : (d r : ℕ) → d ≤ r → (r ≡ d) ⊎ (suc d ≤ r)
    first_or_more zero zero h = inl refl
    first_or_more zero (suc r) h = inr (omega arith)
    first_or_more (suc d) zero h = absurd (omega (arith, h))
    first_or_more (suc d) (suc r) h = either (λ e. inl (ap suc e)) (λ l. inr (omega (arith, l))) (first_or_more d r (omega (arith, h)))

pub back_empty : {A : Type 0} (xs ys : List A) → xs ++ ys ≡ [] → ys ≡ []
back_empty [] ys e = e
back_empty (x ∷ xs) ys e = absurd (cc)

module _ (body : List Instr) (c : Context) (n : ℕ) where
  call_some : (a : Target) → IsValue a → (g d k : ℕ) → call a g d k ≡ [] → ⊥
  call_some (Declared gives) v g d k e = cc
  call_some Prints v g d k e = v
  call_some PrintsInt v g d k e = v
  call_some Nothing v g d k e = v

  pub front_some : (a b : List Step) → (a ≡ [] → ⊥) → a ++ b ≡ [] → ⊥
  front_some [] b h e = h refl
  front_some (x ∷ xs) b h e = cc

  pub back_some : (a b : List Step) → (b ≡ [] → ⊥) → a ++ b ≡ [] → ⊥
  back_some a b h e = h (back_empty a b e)

  operator_some : (o : Op) → Strict body c n o → (d x y : ℕ) (plain : Bool) → operator o d x y plain ≡ [] → ⊥
  operator_some op.Add strict d x y plain e = cc
  operator_some op.Sub strict d x y plain e = cc
  operator_some op.Mul strict d x y plain e = cc
  operator_some op.Div strict d x y plain e = cc
  operator_some op.Mod strict d x y plain e = cc
  operator_some op.Equal strict d x y plain e = cc
  operator_some op.Less strict d x y plain e = cc
  operator_some op.LessEqual strict d x y plain e = cc
  operator_some op.Greater strict d x y plain e = cc
  operator_some op.GreaterEqual strict d x y plain e = cc
  operator_some op.And strict d x y plain e = strict
  operator_some op.Or strict d x y plain e = strict

  strict_some : (o : Op) → Strict body c n o → (d x y : ℕ) (plain : Bool) (first second : List Step) → first ++ (second ++ operator o d x y plain) ≡ [] → ⊥
  strict_some o strict d x y plain first second e = back_some first (second ++ operator o d x y plain) (λ g. back_some second (operator o d x y plain) (λ k. operator_some o strict d x y plain k) g) e

  tested_some : (ty : Ty) (w : Option ℕ) (d : ℕ) → tested c ty w d ≡ [] → ⊥
  tested_some ty None d e = back_some (test c ty d (suc d) (suc (suc d))) (dropped d (suc (suc d)) ++ Does (instr.Move d (suc d)) ∷ []) (λ g. cc) e
  tested_some ty (Some x) d e = back_some (test c ty x (suc d) (suc (suc d))) (Does (instr.Move d (suc d)) ∷ []) (λ g. cc) e

  -- an operator has code, and so has the first operand of `&&` and `||`
  binary_some : (o : Op) (i : ℕ) (a b : Expr ℕ) (s : Variables) (d : ℕ) → (code c a (before b s) d ≡ [] → ⊥) → code c (BinaryExpr i o a b) s d ≡ [] → ⊥
  binary_some op.Add i a b s d h e = strict_some op.Add tt d (standing (read_first a b s) d) (standing (variable_in b) (suc d)) (plain_or_read (variable_in b) (is_plain b)) (unless_read (read_first a b s) (code c a (before b s) d)) (unless_read (variable_in b) (code c b s (suc d))) e
  binary_some op.Sub i a b s d h e = strict_some op.Sub tt d (standing (read_first a b s) d) (standing (variable_in b) (suc d)) (plain_or_read (variable_in b) (is_plain b)) (unless_read (read_first a b s) (code c a (before b s) d)) (unless_read (variable_in b) (code c b s (suc d))) e
  binary_some op.Mul i a b s d h e = strict_some op.Mul tt d (standing (read_first a b s) d) (standing (variable_in b) (suc d)) (plain_or_read (variable_in b) (is_plain b)) (unless_read (read_first a b s) (code c a (before b s) d)) (unless_read (variable_in b) (code c b s (suc d))) e
  binary_some op.Div i a b s d h e = strict_some op.Div tt d (standing (read_first a b s) d) (standing (variable_in b) (suc d)) (plain_or_read (variable_in b) (is_plain b)) (unless_read (read_first a b s) (code c a (before b s) d)) (unless_read (variable_in b) (code c b s (suc d))) e
  binary_some op.Mod i a b s d h e = strict_some op.Mod tt d (standing (read_first a b s) d) (standing (variable_in b) (suc d)) (plain_or_read (variable_in b) (is_plain b)) (unless_read (read_first a b s) (code c a (before b s) d)) (unless_read (variable_in b) (code c b s (suc d))) e
  binary_some op.Equal i a b s d h e = strict_some op.Equal tt d (standing (read a s) d) (standing (read b s) (suc d)) (plain_or_read (read b s) (is_plain b)) (unless_read (read a s) (code c a (before b s) d)) (unless_read (read b s) (code c b s (suc d))) e
  binary_some op.Less i a b s d h e = strict_some op.Less tt d (standing (read_first a b s) d) (standing (variable_in b) (suc d)) (plain_or_read (variable_in b) (is_plain b)) (unless_read (read_first a b s) (code c a (before b s) d)) (unless_read (variable_in b) (code c b s (suc d))) e
  binary_some op.LessEqual i a b s d h e = strict_some op.LessEqual tt d (standing (read_first a b s) d) (standing (variable_in b) (suc d)) (plain_or_read (variable_in b) (is_plain b)) (unless_read (read_first a b s) (code c a (before b s) d)) (unless_read (variable_in b) (code c b s (suc d))) e
  binary_some op.Greater i a b s d h e = strict_some op.Greater tt d (standing (read_first a b s) d) (standing (variable_in b) (suc d)) (plain_or_read (variable_in b) (is_plain b)) (unless_read (read_first a b s) (code c a (before b s) d)) (unless_read (variable_in b) (code c b s (suc d))) e
  binary_some op.GreaterEqual i a b s d h e = strict_some op.GreaterEqual tt d (standing (read_first a b s) d) (standing (variable_in b) (suc d)) (plain_or_read (variable_in b) (is_plain b)) (unless_read (read_first a b s) (code c a (before b s) d)) (unless_read (variable_in b) (code c b s (suc d))) e
  binary_some op.And i a b s d h e = front_some (code c a (before b s) d) (fork d (code c b s d) [] ++ released (before b s) s) h e
  binary_some op.Or i a b s d h e = front_some (code c a (before b s) d) (fork d (released (before b s) s) (code c b s d)) h e

  -- each expression has code
  pub code_some : (e : Expr ℕ) (U : ℕ → Type 0) (s : Variables) (d : ℕ) → Fits c n e U → code c e s d ≡ [] → ⊥
  code_some (NullExpr at) U s d fit e = cc
  code_some (BoolExpr at truth) U s d fit e = cc
  code_some (IntExpr at number) U s d fit e = cc
  code_some (VarExpr at x) U s d fit e = cc
  code_some (CallExpr at g args) U s d fit e = back_some (codes c args s d) (call (target c.results g) g d (count_of args)) (call_some (target c.results g) fit.0 g d (count_of args)) e
  code_some (NegExpr at a) U s d fit e = back_some (unless_read (variable_in a) (code c a s d)) (negated d (standing (variable_in a) d)) (λ g. cc) e
  code_some (NotExpr at a) U s d fit e = back_some (unless_read (variable_in a) (code c a s d)) (Does (instr.Not d (standing (variable_in a) d)) ∷ []) (λ g. cc) e
  code_some (LenExpr at a) U s d fit e = back_some (unless_read (read a s) (code c a s d)) (Does (instr.Len d (standing (read a s) d)) ∷ []) (λ g. cc) e
  code_some (BinaryExpr at o a b) U s d fit e = binary_some o at a b s d (code_some a U (before b s) d fit.0) e
  code_some (IsExpr at a ty) U s d fit e = back_some (unless_read (tested_read ty a s) (code c a s d)) (tested c ty (tested_read ty a s) d) (tested_some ty (tested_read ty a s) d) e
  code_some (IndexExpr at a b) U s d fit e =
      let second = unless_read (variable_in b) (code c b s (suc d)) in let last : List Step = Does (instr.Get d (standing (read a s) d) (standing (variable_in b) (suc d))) ∷ [] in
      back_some (unless_read (read a s) (code c a (before b s) d)) (second ++ last) (λ g. back_some second last (λ k. cc) g) e
  code_some (FieldExpr at a name) U s d fit e = back_some (unless_read (read a s) (code c a s d)) (Does (instr.Field d (standing (read a s) d) (number_of name c.table.names)) ∷ []) (λ g. cc) e
  code_some (ListExpr at items) U s d fit e = back_some (codes c items s d) (list (count_of items) d) (λ g. cc) e
  code_some (RepeatExpr at a b) U s d fit e = front_some (code c a (before b s) d) (code c b s (suc d) ++ Does (instr.Fill d d (suc d)) ∷ []) (code_some a U (before b s) d fit.0) e
  code_some (RecordExpr at fs) U s d fit e = back_some (field_codes c fs s d) (record_of c fs d) (λ g. cc) e
  code_some (QuantExpr at all x a b inner) U s d fit e =
      front_some (code c a (before b (turned x inner s)) d) (code c b (turned x inner s) (suc d) ++ quantify all x d (code c inner (turned x inner s) (suc (suc d))) (released (turned x inner s) s)) (code_some a U (before b (turned x inner s)) d fit.0) e

  -- where there is code in a fork, its register is read
  pub fork_reads : (at next d : ℕ) (first second : List Step) → Spans body at (fork d first second) next → (first ≡ [] → second ≡ [] → ⊥) → LiveAt body at d
  fork_reads at next d [] [] h some = absurd (some refl refl)
  fork_reads at next d (s ∷ first) [] h some = live_reads body at d (instr.Branch d (suc at + length (s ∷ first))) h.0.0 (inl refl)
  fork_reads at next d first (s ∷ second) h some = live_reads body at d (instr.Branch d (suc at + (length first + 1))) h.0.0 (inl refl)

  module _ (t : Gives) (f : ℕ) where
    -- live variables, and the registers of the expressions around
    abbrev pub Base : Variables → (ℕ → Type 0) → ℕ → Type 0
    Base s A r = Vars s r ⊎ A r

    -- a value that may be a list or a record
    abbrev pub Held : Expr ℕ → ℕ → ℕ → Type 0
    Held e d r = (r ≡ d) × (is_plain e ≡ false)

    -- what stands for an operand in front of the instruction that reads it: its value, or the variable that is read in its register
    abbrev pub Stands : Option ℕ → Expr ℕ → ℕ → ℕ → Type 0
    Stands None a d r = Held a d r
    Stands (Some x) a d r = r ≡ x

    pub stands_at : (w : Option ℕ) (a : Expr ℕ) (d r : ℕ) → Stands w a d r → r ≡ standing w d
    stands_at None a d r h = h.0
    stands_at (Some x) a d r h = h

    -- it is a variable that is live behind, where the register of a value is one of these, which hold no list behind
    pub stands_live : (w : Option ℕ) (a : Expr ℕ) (s : Variables) (d r : ℕ) (rs : List ℕ) → IsLiveIn w s → IsOne d rs → Stands w a d r → IsNone r rs → Vars s r
    stands_live None a s d r rs live one h none = absurd (one_not_none r rs (subst (λ (z : ℕ). IsOne z rs) (sym h.0) one) none)
    stands_live (Some x) a s d r rs live one h none = subst (λ (z : ℕ). Vars s z) (sym h) live

    abbrev pub Around : ℕ → (ℕ → Type 0) → Type 0
    Around d A = (r : ℕ) → A r → (n ≤ r) × (r < d)

    abbrev pub Known : Variables → (ℕ → Type 0) → Type 0
    Known s U = (r : ℕ) → Vars s r → U r

    -- these registers are live there, and it is safe from there on
    abbrev pub Ready : ℕ → ℕ → (ℕ → Type 0) → Type 0
    Ready m p P = Lives body t f p P × Sure body t f m p P

    -- the first of these are live there, and it is safe from there on with the others too
    abbrev pub Exit : ℕ → ℕ → (ℕ → Type 0) → (ℕ → Type 0) → Type 0
    Exit m p P Q = Lives body t f p P × Sure body t f m p (λ r. P r ⊎ Q r)

    -- so with the value of the expression
    abbrev pub Full : ℕ → ℕ → (ℕ → Type 0) → Expr ℕ → ℕ → Type 0
    Full m p P e d = Lives body t f p P × Sure body t f m p (λ r. P r ⊎ Held e d r)

    pub ready_less : (m p : ℕ) (P Q : ℕ → Type 0) → ((r : ℕ) → P r → Q r) → Ready m p Q → Ready m p P
    ready_less m p P Q h k = ((λ r l. k.0 r (h r l)), sure_less body t f m p P Q (λ r l. h r l) k.1)

    pub ready_at : (m p q : ℕ) (P : ℕ → Type 0) → p ≡ q → Ready m p P → Ready m q P
    ready_at m p q P e k = (lives_at body t f p q P e k.0, safe_at body t f m p q P e k.1)

    pub exit_at : (m p q : ℕ) (P Q : ℕ → Type 0) → p ≡ q → Exit m p P Q → Exit m q P Q
    exit_at m p q P Q e k = (lives_at body t f p q P e k.0, safe_at body t f m p q (λ r. P r ⊎ Q r) e k.1)

    pub base_low : (s : Variables) (A U : ℕ → Type 0) (d : ℕ) → Known s U → Low body c n U → n ≤ d → Around d A → (r : ℕ) → Base s A r → r < d
    base_low s A U d known low nd around r (inl v) = let l = low r (known r v) in omega (arith, l, nd)
    base_low s A U d known low nd around r (inr a) = (around r a).1

    pub known_before : (e : Expr ℕ) (U : ℕ → Type 0) (s : Variables) → Fits c n e U → Known s U → Known (before e s) U
    known_before e U s fit known r v = either (λ o. occurs_used body c n e U fit r o) (λ k. known r k) (before_cases e s r v)

    pub around_more : (d : ℕ) (A B : ℕ → Type 0) → n ≤ d → Around d A → ((r : ℕ) → B r → r ≡ d) → Around (suc d) (λ r. A r ⊎ B r)
    around_more d A B nd around b r (inl a) = (let h = around r a in (h.0, let l = h.1 in omega (arith, l)))
    around_more d A B nd around b r (inr k) = let e = b r k in (omega (arith, e, nd), omega (arith, e))

    -- what is live in front of an expression
    pub code_lives : (e : Expr ℕ) (U : ℕ → Type 0) (s : Variables) (A : ℕ → Type 0) (d at next : ℕ) → Fits c n e U → Low body c n U → n ≤ d → Known s U → Around d A → Spans body at (code c e s d) next
        → Lives body t f next (Base s A) → Lives body t f at (Base (before e s) A)
    code_lives e U s A d at next fit low nd known around h live r (inl v) =
        let l = low r (known_before e U s fit known r v) in
        code_live body c n e U s d at next r fit low nd h (omega (arith, l, nd)) (either (λ o. inl o) (λ k. inr (inl k, live r (inl k))) (before_cases e s r v))
    code_lives e U s A d at next fit low nd known around h live r (inr a) =
        let k = around r a in code_live body c n e U s d at next r fit low nd h k.1 (inr (inr k.0, live r (inr a)))

    -- an instruction that reads the operands X
    pub operands_ready : (m p next : ℕ) (i : Instr) (B X H : ℕ → Type 0) → Spans body p (Does i ∷ []) next → ((r : ℕ) → B r → IsNone r (changes i)) → IsOne (p + 1) (nexts p i) → ((r : ℕ) → X r → IsOne r (reads i)) → ((r : ℕ) → X r → IsNone r (gone i) → B r ⊎ H r)
        → ((r : ℕ) → Into t i (λ q. B q ⊎ X q) r → H r)
        → ((k : ℕ) → Safe t f body k (p + 1) (After t i (λ q. B q ⊎ X q)) → Onward t f (Safe t f body k) p i (λ q. B q ⊎ X q))
        → Exit m next B H → Ready m p (λ r. B r ⊎ X r)
    operands_ready m p next i B X H h none to read stays into onward exit =
        let e : next ≡ p + 1 = (let z = h.1 in omega (arith, z)) in
        let there = exit_at m next (p + 1) B H e exit in
        let live : Lives body t f p (λ r. B r ⊎ X r) = λ r l. either (λ b. live_on body p (p + 1) r i h.0.0 (none r b) to (there.0 r b)) (λ x. live_reads body p r i h.0.0 (read r x)) l in (
          live,
          safe_step body t f m p i (λ r. B r ⊎ X r) (λ r. B r ⊎ H r) h.0.0 live onward
              (λ r l. either (λ k. either (λ b. inl b) (λ x. stays r x k.1) k.0) (λ k. inr (into r k)) l) there.1,
        )

    pub clear_sure : (m p next : ℕ) (rs : List ℕ) (P Q : ℕ → Type 0) → Spans body p (clear rs) next → ((r : ℕ) → P r → IsNone r rs → Q r) → Sure body t f m next Q → Sure body t f m p P
    clear_sure m p next [] P Q h less safe = safe_at body t f m next p P (sym (ended body p next h)) (sure_less body t f m next P Q (λ r l. less r l tt) safe)
    clear_sure m p next (x ∷ rs) P Q h less safe =
        let e : next ≡ p + 1 = (let z = h.1 in omega (arith, z)) in
        safe_clears body t f m p (x ∷ rs) P Q h.0.0 (λ r l. less r l.0 l.1) (safe_at body t f m next (p + 1) Q e safe)

    -- what is shown of the code of an expression
    abbrev pub Safely : Expr ℕ → (ℕ → Type 0) → Type 1
    Safely e U = (m : ℕ) (s : Variables) (A : ℕ → Type 0) (d at next : ℕ) → Known s U → n ≤ d → Around d A → Spans body at (code c e s d) next → Full m next (Base s A) e d → Ready m at (Base (before e s) A)

    module _ (U : ℕ → Type 0) (low : Low body c n U) where
      -- what is live in front of a variable that is read in its register
      in_place : (a : Expr ℕ) (x : ℕ) → variable_in a ≡ Some x → (s : Variables) (A : ℕ → Type 0) (r : ℕ) → Base (before a s) A r → Base s A r ⊎ (r ≡ x)
      in_place a x its s A r (inl v) = either (λ o. inr (variable_occurs a x r its o)) (λ k. inl (inl k)) (before_cases a s r v)
      in_place a x its s A r (inr k) = inl (inr k)

      -- an operand, behind which it stands
      pub operand_safe : (w : Option ℕ) (a : Expr ℕ) → IsIts U w a → Safely a U → (m : ℕ) (s : Variables) (A : ℕ → Type 0) (d at next : ℕ) → Known s U → n ≤ d → Around d A
          → Spans body at (unless_read w (code c a s d)) next → Ready m next (λ r. Base s A r ⊎ Stands w a d r) → Ready m at (Base (before a s) A)
      operand_safe None a its is m s A d at next known nd around h k = is m s A d at next known nd around h ((λ r l. k.0 r (inl l)), k.1)
      operand_safe (Some x) a its is m s A d at next known nd around h k =
          ready_at m next at (Base (before a s) A) (sym (ended body at next h)) (ready_less m next (Base (before a s) A) (λ r. Base s A r ⊎ (r ≡ x)) (λ r l. in_place a x its.0 s A r l) k)

      -- an operand and an instruction that reads it
      pub unary_safe : (w : Option ℕ) (a : Expr ℕ) → IsIts U w a → Safely a U → (m : ℕ) (s : Variables) (A : ℕ → Type 0) (d at next : ℕ) (i : Instr) (H : ℕ → Type 0) → Known s U → n ≤ d → Around d A
          → Spans body at (unless_read w (code c a s d) ++ Does i ∷ []) next → ((r : ℕ) → r < d → IsNone r (changes i)) → ((p : ℕ) → IsOne (p + 1) (nexts p i)) → IsOne (standing w d) (reads i)
          → ((r : ℕ) → Stands w a d r → IsNone r (gone i) → Vars s r)
          → ((r : ℕ) (P : ℕ → Type 0) → Into t i P r → H r) → ((k p : ℕ) (P : ℕ → Type 0) → Safe t f body k (p + 1) (After t i P) → Onward t f (Safe t f body k) p i P)
          → Exit m next (Base s A) H → Ready m at (Base (before a s) A)
      unary_safe w a its is m s A d at next i H known nd around h none to read stays into onward exit =
          let one = unless_read w (code c a s d) in
          let mid = at + length one in
          operand_safe w a its is m s A d at mid known nd around (front body at one (Does i ∷ []) next h)
          (operands_ready m mid next i (Base s A) (Stands w a d) H (back body at one (Does i ∷ []) next h) (λ r b. none r (base_low s A U d known low nd around r b)) (to mid)
          (λ r x. subst (λ (z : ℕ). IsOne z (reads i)) (sym (stands_at w a d r x)) read) (λ r x g. inl (inl (stays r x g)))
          (λ r g. into r (λ q. Base s A q ⊎ Stands w a d q) g) (λ q k. onward q mid (λ z. Base s A z ⊎ Stands w a d z) k) exit)

      -- ---- two operands

      -- what stands for both in front of what is behind them
      abbrev pub Both : Option ℕ → Option ℕ → Expr ℕ → Expr ℕ → Variables → (ℕ → Type 0) → ℕ → ℕ → Type 0
      Both w v a b s A d r = Base s A r ⊎ (Stands w a d r ⊎ Stands v b (suc d) r)

      -- the value of the first one waits in its register
      held_pair : (v : Option ℕ) (a b : Expr ℕ) → IsIts U v b → Safely a U → Safely b U → Fits c n b U → (m : ℕ) (s : Variables) (A : ℕ → Type 0) (d at next : ℕ) (rest : List Step) → Known s U → n ≤ d → Around d A
          → Spans body at (code c a (before b s) d ++ (unless_read v (code c b s (suc d)) ++ rest)) next
          → ((p : ℕ) → Spans body p rest next → Ready m p (Both None v a b s A d)) → Ready m at (Base (before a (before b s)) A)
      held_pair v a b too one two fit_b m s A d at next rest known nd around h last =
          let first = code c a (before b s) d in let second = unless_read v (code c b s (suc d)) in
          let mid = at + length first in
          let behind = back body at first (second ++ rest) next h in
          let mid2 = mid + length second in
          let B : ℕ → Type 0 = λ r. A r ⊎ Held a d r in
          let there = operand_safe v b too two m s B (suc d) mid mid2 known (omega (arith, nd)) (around_more d A (Held a d) nd around (λ r x. x.0)) (front body mid second rest next behind)
          (ready_less m mid2 (λ r. Base s B r ⊎ Stands v b (suc d) r) (Both None v a b s A d) (λ r l. regroup r l) (last mid2 (back body mid second rest next behind))) in
          one m (before b s) A d at mid (known_before b U s fit_b known) nd around (front body at first (second ++ rest) next h)
          ((λ r l. there.0 r (either (λ x. inl x) (λ y. inr (inl y)) l)), sure_less body t f m mid (λ r. Base (before b s) A r ⊎ Held a d r) (Base (before b s) B) (λ r l. either (λ z. either (λ x. inl x) (λ y. inr (inl y)) z) (λ y. inr (inr y)) l) there.1)
        where
          regroup : (r : ℕ) → Base s (λ q. A q ⊎ Held a d q) r ⊎ Stands v b (suc d) r → Both None v a b s A d r
          regroup r (inl (inl k)) = inl (inl k)
          regroup r (inl (inr (inl k))) = inl (inr k)
          regroup r (inl (inr (inr k))) = inr (inl k)
          regroup r (inr k) = inr (inr k)

      -- the first one is read in its register, behind the second one too: there it is live beside what is live, in the set u
      placed_pair : (x : ℕ) (v : Option ℕ) (a b : Expr ℕ) → variable_in a ≡ Some x → IsIts U v b → Safely b U → (m : ℕ) (s u : Variables) (A : ℕ → Type 0) (d at next : ℕ) (rest : List Step) → Known u U → n ≤ d → Around d A
          → ((r : ℕ) → Vars u r → Vars s r ⊎ (r ≡ x)) → ((r : ℕ) → Vars s r → Vars u r) → Vars u x
          → Spans body at (unless_read v (code c b u (suc d)) ++ rest) next
          → ((p : ℕ) → Spans body p rest next → Ready m p (Both (Some x) v a b s A d)) → Ready m at (Base (before a (before b s)) A)
      placed_pair x v a b its too two m s u A d at next rest known nd around of to has_x h last =
          let second = unless_read v (code c b u (suc d)) in
          let mid = at + length second in
          let there = operand_safe v b too two m u A (suc d) at mid known (omega (arith, nd)) (λ r k. let l = around r k in (l.0, let z = l.1 in omega (arith, z))) (front body at second rest next h)
          (ready_less m mid (λ r. Base u A r ⊎ Stands v b (suc d) r) (Both (Some x) v a b s A d) (λ r l. regroup r l) (last mid (back body at second rest next h))) in
          ready_less m at (Base (before a (before b s)) A) (Base (before b u) A) (λ r l. inner r l) there
        where
          regroup : (r : ℕ) → Base u A r ⊎ Stands v b (suc d) r → Both (Some x) v a b s A d r
          regroup r (inl (inl k)) = either (λ z. inl (inl z)) (λ z. inr (inl z)) (of r k)
          regroup r (inl (inr k)) = inl (inr k)
          regroup r (inr k) = inr (inr k)

          inner : (r : ℕ) → Base (before a (before b s)) A r → Base (before b u) A r
          inner r (inr k) = inr k
          inner r (inl k) = inl (before_of b u r (either (λ o. inr (subst (λ (z : ℕ). Vars u z) (sym (variable_occurs a x r its o)) has_x)) (λ l. either (λ o. inl o) (λ z. inr (to r z)) (before_cases b s r l)) (before_cases a (before b s) r k)))

      -- two operands, the first of which waits
      pub pair_safe : (w v : Option ℕ) (a b : Expr ℕ) → IsIts U w a → IsIts U v b → Safely a U → Safely b U → Fits c n b U → (m : ℕ) (s : Variables) (A : ℕ → Type 0) (d at next : ℕ) (rest : List Step) → Waits c n w v b s → Known s U → n ≤ d → Around d A
          → Spans body at (unless_read w (code c a (before b s) d) ++ (unless_read v (code c b s (suc d)) ++ rest)) next
          → ((p : ℕ) → Spans body p rest next → Ready m p (Both w v a b s A d)) → Ready m at (Base (before a (before b s)) A)
      pair_safe None v a b its too one two fit_b m s A d at next rest waits known nd around h last = held_pair v a b too one two fit_b m s A d at next rest known nd around h last
      pair_safe (Some x) v a b its too one two fit_b m s A d at next rest (inl live) known nd around h last =
          placed_pair x v a b its.0 too two m s s A d at next rest known nd around (λ r k. inl k) (λ r k. k) live h last
      pair_safe (Some x) v a b its too one two fit_b m s A d at next rest (inr still) known nd around h last =
          let u = with s x in
          placed_pair x v a b its.0 too two m s u A d at next rest (λ r k. either (λ e. subst U (sym e) its.1) (λ l. known r l) (with_cases s x r k)) nd around
          (λ r k. either (λ e. inr e) (λ l. inl l) (with_cases s x r k)) (λ r k. with_of s x r (inr k)) (with_of s x x (inl refl))
          (subst (λ (z : List Step). Spans body at (z ++ rest) next) (still u (suc d)) h) last

      -- the instruction that reads both
      pub pair_ready : (w v : Option ℕ) (a b : Expr ℕ) (m : ℕ) (s : Variables) (A : ℕ → Type 0) (d p next : ℕ) (i : Instr) (H : ℕ → Type 0) → Known s U → n ≤ d → Around d A → Spans body p (Does i ∷ []) next
          → ((r : ℕ) → r < d → IsNone r (changes i)) → IsOne (p + 1) (nexts p i) → IsOne (standing w d) (reads i) → IsOne (standing v (suc d)) (reads i)
          → ((r : ℕ) → Stands w a d r → IsNone r (gone i) → Vars s r) → ((r : ℕ) → Stands v b (suc d) r → IsNone r (gone i) → Vars s r ⊎ H r)
          → ((r : ℕ) (P : ℕ → Type 0) → Into t i P r → H r) → ((k : ℕ) (P : ℕ → Type 0) → Safe t f body k (p + 1) (After t i P) → Onward t f (Safe t f body k) p i P)
          → Exit m next (Base s A) H → Ready m p (Both w v a b s A d)
      pair_ready w v a b m s A d p next i H known nd around h none to one two stays also into onward exit =
          operands_ready m p next i (Base s A) (λ r. Stands w a d r ⊎ Stands v b (suc d) r) H h (λ r k. none r (base_low s A U d known low nd around r k)) to
          (λ r x. either (λ y. subst (λ (z : ℕ). IsOne z (reads i)) (sym (stands_at w a d r y)) one) (λ y. subst (λ (z : ℕ). IsOne z (reads i)) (sym (stands_at v b (suc d) r y)) two) x)
          (λ r x g. either (λ y. inl (inl (stays r y g))) (λ y. either (λ k. inl (inl k)) (λ k. inr k) (also r y g)) x)
          (λ r g. into r (λ q. Both w v a b s A d q) g) (λ k z. onward k (Both w v a b s A d) z) exit

      -- nothing
      abbrev pub Nothing_more : ℕ → Type 0
      Nothing_more r = ⊥

      -- behind an operator of numbers its operands are no lists
      pub arith_ready : (w v : Option ℕ) (a b : Expr ℕ) (o : Arithmetic) (m : ℕ) (s : Variables) (A : ℕ → Type 0) (d p next : ℕ) → Known s U → n ≤ d → Around d A
          → Spans body p (arith_code o d (standing w d) (standing v (suc d))) next → Exit m next (Base s A) Nothing_more → Ready m p (Both w v a b s A d)
      arith_ready w v a b o m s A d p next known nd around h exit =
          pair_ready w v a b m s A d p next (instr.Arith d o (standing w d) (standing v (suc d))) Nothing_more known nd around h (λ r l. (less_not r d l, tt)) (inl refl) (inl refl) (inr (inl refl))
          (λ r x g. absurd (g.1.0 (stands_at w a d r x))) (λ r x g. absurd (g.1.1.0 (stands_at v b (suc d) r x))) (λ r P g. g) (λ k P z. z) exit

      pub compare_ready : (w v : Option ℕ) (a b : Expr ℕ) (o : Comparison) (m : ℕ) (s : Variables) (A : ℕ → Type 0) (d p next : ℕ) → Known s U → n ≤ d → Around d A
          → Spans body p (compare o d (standing w d) (standing v (suc d))) next → Exit m next (Base s A) Nothing_more → Ready m p (Both w v a b s A d)
      compare_ready w v a b o m s A d p next known nd around h exit =
          pair_ready w v a b m s A d p next (instr.Compare d o (standing w d) (standing v (suc d))) Nothing_more known nd around h (λ r l. (less_not r d l, tt)) (inl refl) (inl refl) (inr (inl refl))
          (λ r x g. absurd (g.1.0 (stands_at w a d r x))) (λ r x g. absurd (g.1.1.0 (stands_at v b (suc d) r x))) (λ r P g. g) (λ k P z. z) exit

      -- a right operand of an equation that isn't released behind it is plain, or a variable that is live there
      plain_stays : (v : Option ℕ) (b : Expr ℕ) (s : Variables) (d r : ℕ) → IsLiveIn v s → plain_or_read v (is_plain b) ≡ true → Stands v b d r → Vars s r
      plain_stays None b s d r live e h = not_both (is_plain b) e h.1
      plain_stays (Some x) b s d r live e h = subst (λ (z : ℕ). Vars s z) (sym h) live

      -- behind an equation its right operand is released where it may be a list or a record
      pub equal_ready : (w v : Option ℕ) (a b : Expr ℕ) (plain : Bool) → plain_or_read v (is_plain b) ≡ plain → (m : ℕ) (s : Variables) (A : ℕ → Type 0) (d p next : ℕ) → IsLiveIn w s → IsLiveIn v s → Known s U → n ≤ d → Around d A
          → Spans body p (equal plain d (standing w d) (standing v (suc d))) next → Exit m next (Base s A) Nothing_more → Ready m p (Both w v a b s A d)
      equal_ready w v a b true same m s A d p next live_w live_v known nd around h exit =
          pair_ready w v a b m s A d p next (instr.Equal d (standing w d) (standing v (suc d))) Nothing_more known nd around h (λ r l. (less_not r d l, tt)) (inl refl) (inl refl) (inr (inl refl))
          (λ r x g. stands_live w a s d r (d ∷ []) live_w (inl refl) x g) (λ r x g. inl (plain_stays v b s (suc d) r live_v same x)) (λ r P g. absurd g) (λ k P z. z) exit
      equal_ready w (Some y) a b false same m s A d p next live_w live_v known nd around h exit = never (sym same)
      equal_ready w None a b false same m s A d p next live_w live_v known nd around h exit =
          let clears : Instr = instr.Clear (suc d ∷ []) in
          let i : Instr = instr.Equal d (standing w d) (suc d) in
          let two = tail body p i (Does clears ∷ []) next h in
          let e : next ≡ p + 1 + 1 = (let z = two.1 in omega (arith, z)) in
          let lows = base_low s A U d known low nd around in
          let live : Lives body t f (p + 1) (Base s A) = lives_on body t f (p + 1) clears (Base s A) two.0.0 (λ r b. (less_not r (suc d) (let z = lows r b in omega (arith, z)), tt)) (inl refl) (lives_at body t f next (p + 1 + 1) (Base s A) e exit.0) in
          pair_ready w None a b m s A d p (p + 1) i (λ r. r ≡ suc d) known nd around ((h.0.0, tt), omega arith) (λ r l. (less_not r d l, tt)) (inl refl) (inl refl) (inr (inl refl))
          (λ r x g. stands_live w a s d r (d ∷ []) live_w (inl refl) x g) (λ r x g. inr x.0) (λ r P g. absurd g) (λ k P z. z)
          (live, safe_clears body t f m (p + 1) (suc d ∷ []) (λ r. Base s A r ⊎ (r ≡ suc d)) (λ r. Base s A r ⊎ ⊥) two.0.0 (λ r l. either (λ b. inl b) (λ z. absurd (l.1.0 z)) l.0) (safe_at body t f m next (p + 1 + 1) (λ r. Base s A r ⊎ ⊥) e exit.1))
