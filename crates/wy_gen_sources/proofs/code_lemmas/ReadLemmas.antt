-- Which registers are live in front of the code of an expression.
use Rattle.std.proofs.Common.{◌≡◌, ◌≢◌, ◌<◌, ◌≤◌, ◌⊎◌, inl, inr, ℕ, zero, suc, ◌+◌, List, [], ◌∷◌, ◌++◌, length, Bool, true, false, not, ◌&&◌, ◌||◌, ◌==◌, cond, Option, Some, None, pos, refl, sym, subst, arith}
use Rattle.std.specs.Prelude.{slice_get}
use Rattle.wy_core.specs.Types.{Ty}
use Rattle.wy_core.specs.CoreTree.{Expr, NullExpr, BoolExpr, IntExpr, VarExpr, CallExpr, NegExpr, NotExpr, LenExpr, BinaryExpr, IsExpr, IndexExpr, FieldExpr, ListExpr, RepeatExpr, RecordExpr, QuantExpr, Exprs, NoExprs, MoreExprs, Fields, NoFields, MoreFields}
use Rattle.wy_core.specs.declared.expressions.Op.{Op}
use Rattle.wy_core.specs.declared.expressions.Op.TheVariants as op
use Rattle.wy_code.specs.declared.instructions.Scalar.TheVariants as scalar
use Rattle.wy_code.specs.declared.instructions.Arithmetic.TheVariants as arithmetic
use Rattle.wy_code.specs.declared.instructions.Comparison.TheVariants as comparison
use Rattle.wy_code.specs.declared.instructions.Instr.{Instr}
use Rattle.wy_code.specs.declared.instructions.Instr.TheVariants as instr
use Rattle.wy_lemmas.proofs.Choices.{or_cases, same_of, same_to, unlike as not_both, false_true as never, either}
use Rattle.wy_gen_laws.specs.wy_code_spec.declared.tables.context.Context.{Context}
use Rattle.wy_gen_laws.specs.wy_code_spec.declared.tables.targets.Target.{Target}
use Rattle.wy_gen_laws.specs.wy_code_spec.declared.tables.targets.Target.TheVariants.{Declared, Prints, PrintsInt, Nothing}
use Rattle.wy_gen_laws.specs.wy_code_spec.tables.Tables.{target, number_of, shape_number, names_in}
use Rattle.wy_live.specs.Paths.{occurs, any_occurs, any_field_occurs}
use Rattle.wy_live.specs.Sets.{Variables, has, with}
use Rattle.wy_live.specs.Walks.{before, before_all, before_fields, turned}
use Rattle.wy_live.proofs.LiveLemmas.{and_not}
use Rattle.wy_code.specs.declared.pieces.steps.Step.{Step}
use Rattle.wy_code.specs.declared.pieces.steps.Step.TheVariants.{Does, GoesOn}
use Rattle.wy_code.specs.pieces.Steps.{clear, fork, registers_from}
use Rattle.wy_gen_laws.specs.wy_code_spec.compiled.TypeTests.{test}
use Rattle.wy_gen_laws.specs.wy_code_spec.compiled.Operands.{variable_in, read, read_first, standing, unless_read, plain_or_read}
use Rattle.wy_gen_laws.specs.wy_code_spec.compiled.Expressions.{lost, released, is_plain, operator, call, count_of, field_count, is_test, tested, tested_read, negated, list, record_of, turn_end, said, ends, number_turns, quantify, code, codes, field_codes}
use Rattle.wy_gen_sources.specs.code.Large.{IsNone}
use Rattle.wy_gen_sources.specs.code.Alive.{IsOne, reads, changes, nexts, LiveAt}
use Rattle.wy_gen_sources.specs.code.Fitting.{IsValue, Fits, FitAll, FitFields}
use Rattle.wy_gen_sources.proofs.code_lemmas.PieceLemmas.{less_not, From, none_below, Spans, front, back, tail, live_reads, live_on, live_last, live_first, live_second, Turning, turning}
use Rattle.wy_gen_sources.proofs.code_lemmas.SetLemmas.{true_or_not, other_of, Vars, before_cases, before_of, with_of, all_of, fields_of, turned_cases, turned_of, not_lost}
use Rattle.wy_gen_sources.proofs.code_lemmas.InPlaceLemmas.{IsIts, IsLooked, tested_its, Waits, variable_occurs, release_apart, variable_its, read_its, first_its}
use Rattle.wy_gen_sources.proofs.code_lemmas.TestLemmas.{at_end, test_live, test_reads}

pub from_registers : (d r n : ℕ) → d ≤ r → From d (registers_from r n)
from_registers d r zero h = tt
from_registers d r (suc n) h = (h, from_registers d (suc r) n (omega (arith, h)))

module _ (body : List Instr) where
  pub clear_live : (rs : List ℕ) (p next q : ℕ) → Spans body p (clear rs) next → IsNone q rs → LiveAt body next q → LiveAt body p q
  clear_live [] p next q h none l = at_end body p next q h l
  clear_live (r ∷ rs) p next q h none l = live_last body p next q (instr.Clear (r ∷ rs)) h none (inl refl) l

  module _ (c : Context) (n : ℕ) where
    -- the variables in use have registers below n
    abbrev pub Low : (ℕ → Type 0) → Type 0
    Low U = (x : ℕ) → U x → x < n

    pub low_more : (U : ℕ → Type 0) (x : ℕ) → Low U → x < n → Low (λ r. U r ⊎ (r ≡ x))
    low_more U x low l r (inl u) = low r u
    low_more U x low l r (inr e) = omega (arith, e, l)

    or_else : {A : Type 0} (a b : Bool) → ((a ≡ true) → A) → ((b ≡ true) → A) → (a || b) ≡ true → A
    or_else a b f g h = either f g (or_cases a b h)

    mutual
      -- what an expression uses is in use
      pub occurs_used : (e : Expr ℕ) (U : ℕ → Type 0) → Fits c n e U → (r : ℕ) → occurs e r ≡ true → U r
      occurs_used (NullExpr at) U fit r h = never h
      occurs_used (BoolExpr at truth) U fit r h = never h
      occurs_used (IntExpr at number) U fit r h = never h
      occurs_used (VarExpr at x) U fit r h = subst U (sym (same_of r x h)) fit
      occurs_used (CallExpr at g args) U fit r h = all_used args U fit.1 r h
      occurs_used (NegExpr at a) U fit r h = occurs_used a U fit r h
      occurs_used (NotExpr at a) U fit r h = occurs_used a U fit r h
      occurs_used (LenExpr at a) U fit r h = occurs_used a U fit r h
      occurs_used (BinaryExpr at o a b) U fit r h = or_else (occurs a r) (occurs b r) (λ k. occurs_used a U fit.0 r k) (λ k. occurs_used b U fit.1 r k) h
      occurs_used (IsExpr at a ty) U fit r h = occurs_used a U fit r h
      occurs_used (IndexExpr at a b) U fit r h = or_else (occurs a r) (occurs b r) (λ k. occurs_used a U fit.0 r k) (λ k. occurs_used b U fit.1 r k) h
      occurs_used (FieldExpr at a name) U fit r h = occurs_used a U fit r h
      occurs_used (ListExpr at items) U fit r h = all_used items U fit r h
      occurs_used (RepeatExpr at a b) U fit r h = or_else (occurs a r) (occurs b r) (λ k. occurs_used a U fit.0 r k) (λ k. occurs_used b U fit.1 r k) h
      occurs_used (RecordExpr at fs) U fit r h = fields_used fs U fit r h
      occurs_used (QuantExpr at all x a b inner) U fit r h =
          or_else (occurs a r) (occurs b r || (not (r == x) && occurs inner r)) (λ k. occurs_used a U fit.0 r k)
          (λ k. or_else (occurs b r) (not (r == x) && occurs inner r) (λ z. occurs_used b U fit.1 r z)
          (λ z. let w = and_not (r == x) (occurs inner r) z in either (λ u. u) (λ e. absurd (not_same r x w.0 e)) (occurs_used inner (λ y. U y ⊎ (y ≡ x)) fit.4 r w.1)) k) h
        where
          not_same : (r x : ℕ) → (r == x) ≡ false → r ≡ x → ⊥
          not_same r x e same = not_both (r == x) (same_to r x same) e

      pub all_used : (es : Exprs ℕ) (U : ℕ → Type 0) → FitAll c n es U → (r : ℕ) → any_occurs es r ≡ true → U r
      all_used NoExprs U fit r h = never h
      all_used (MoreExprs e es) U fit r h = or_else (occurs e r) (any_occurs es r) (λ k. occurs_used e U fit.0 r k) (λ k. all_used es U fit.1 r k) h

      pub fields_used : (fs : Fields ℕ) (U : ℕ → Type 0) → FitFields c n fs U → (r : ℕ) → any_field_occurs fs r ≡ true → U r
      fields_used NoFields U fit r h = never h
      fields_used (MoreFields name e fs) U fit r h = or_else (occurs e r) (any_field_occurs fs r) (λ k. occurs_used e U fit.0 r k) (λ k. fields_used fs U fit.1 r k) h

    -- a variable that is live behind, or no variable
    abbrev pub Keeps : Variables → ℕ → Type 0
    Keeps s r = Vars s r ⊎ (n ≤ r)

    -- it is used, or it is live behind and kept
    abbrev pub Goes : Bool → Variables → ℕ → ℕ → Type 0
    Goes used s next r = (used ≡ true) ⊎ (Keeps s r × LiveAt body next r)

    -- the variable comes by the one way or the other
    var_reads : (b : Bool) (at d x r : ℕ) → slice_get body at ≡ Some (cond b (instr.Share d x) (instr.Move d x)) → r ≡ x → LiveAt body at r
    var_reads true at d x r is e = live_reads body at r (instr.Share d x) is (inl e)
    var_reads false at d x r is e = live_reads body at r (instr.Move d x) is (inl e)

    var_passes : (b : Bool) (at next d x r : ℕ) → Spans body at (Does (cond b (instr.Share d x) (instr.Move d x)) ∷ []) next → r < d → (b ≡ false → r ≢ x) → LiveAt body next r → LiveAt body at r
    var_passes true at next d x r h low other l = live_last body at next r (instr.Share d x) h (less_not r d low, tt) (inl refl) l
    var_passes false at next d x r h low other l = live_last body at next r (instr.Move d x) h (less_not r d low, (other refl, tt)) (inl refl) l

    call_live : (target_is : Target) → IsValue target_is → (g d count p next r : ℕ) → Spans body p (call target_is g d count) next → r < d → LiveAt body next r → LiveAt body p r
    call_live (Declared gives) v g d count p next r h low l =
        live_last body p next r (instr.Call d g (registers_from d count)) h (less_not r d low, none_below r d (registers_from d count) low (from_registers d d count (omega arith))) (inl refl) l
    call_live Prints v g d count p next r h low l = absurd v
    call_live PrintsInt v g d count p next r h low l = absurd v
    call_live Nothing v g d count p next r h low l = absurd v

    below_two : (r d : ℕ) → r < d → (r ≢ d) × (r ≢ suc d)
    below_two r d low = (less_not r d low, less_not r (suc d) (omega (arith, low)))

    -- it evaluates both operands
    abbrev pub Strict : Op → Type 0
    Strict op.Add = Unit {0}
    Strict op.Sub = Unit {0}
    Strict op.Mul = Unit {0}
    Strict op.Div = Unit {0}
    Strict op.Mod = Unit {0}
    Strict op.Equal = Unit {0}
    Strict op.Less = Unit {0}
    Strict op.LessEqual = Unit {0}
    Strict op.Greater = Unit {0}
    Strict op.GreaterEqual = Unit {0}
    Strict op.And = ⊥
    Strict op.Or = ⊥

    -- its instruction reads both
    operator_reads : (o : Op) → Strict o → (d x y : ℕ) (plain : Bool) (p next : ℕ) → Spans body p (operator o d x y plain) next → LiveAt body p x × LiveAt body p y
    operator_reads op.Add strict d x y plain p next h = (live_reads body p x (instr.Arith d arithmetic.Add x y) h.0.0 (inl refl), live_reads body p y (instr.Arith d arithmetic.Add x y) h.0.0 (inr (inl refl)))
    operator_reads op.Sub strict d x y plain p next h = (live_reads body p x (instr.Arith d arithmetic.Sub x y) h.0.0 (inl refl), live_reads body p y (instr.Arith d arithmetic.Sub x y) h.0.0 (inr (inl refl)))
    operator_reads op.Mul strict d x y plain p next h = (live_reads body p x (instr.Arith d arithmetic.Mul x y) h.0.0 (inl refl), live_reads body p y (instr.Arith d arithmetic.Mul x y) h.0.0 (inr (inl refl)))
    operator_reads op.Div strict d x y plain p next h = (live_reads body p x (instr.Arith d arithmetic.Div x y) h.0.0 (inl refl), live_reads body p y (instr.Arith d arithmetic.Div x y) h.0.0 (inr (inl refl)))
    operator_reads op.Mod strict d x y plain p next h = (live_reads body p x (instr.Arith d arithmetic.Mod x y) h.0.0 (inl refl), live_reads body p y (instr.Arith d arithmetic.Mod x y) h.0.0 (inr (inl refl)))
    operator_reads op.Equal strict d x y plain p next h = (live_reads body p x (instr.Equal d x y) h.0.0 (inl refl), live_reads body p y (instr.Equal d x y) h.0.0 (inr (inl refl)))
    operator_reads op.Less strict d x y plain p next h = (live_reads body p x (instr.Compare d comparison.Less x y) h.0.0 (inl refl), live_reads body p y (instr.Compare d comparison.Less x y) h.0.0 (inr (inl refl)))
    operator_reads op.LessEqual strict d x y plain p next h = (live_reads body p x (instr.Compare d comparison.LessEqual x y) h.0.0 (inl refl), live_reads body p y (instr.Compare d comparison.LessEqual x y) h.0.0 (inr (inl refl)))
    operator_reads op.Greater strict d x y plain p next h = (live_reads body p x (instr.Compare d comparison.Greater x y) h.0.0 (inl refl), live_reads body p y (instr.Compare d comparison.Greater x y) h.0.0 (inr (inl refl)))
    operator_reads op.GreaterEqual strict d x y plain p next h = (live_reads body p x (instr.Compare d comparison.GreaterEqual x y) h.0.0 (inl refl), live_reads body p y (instr.Compare d comparison.GreaterEqual x y) h.0.0 (inr (inl refl)))
    operator_reads op.And strict d x y plain p next h = absurd strict
    operator_reads op.Or strict d x y plain p next h = absurd strict

    -- through the instructions of an operator; what is released is another register
    operator_live : (o : Op) (d x y : ℕ) (plain : Bool) (p next r : ℕ) → Spans body p (operator o d x y plain) next → r < d → (plain ≡ false → r ≢ y) → LiveAt body next r → LiveAt body p r
    operator_live op.Add d x y plain p next r h low other l = live_last body p next r (instr.Arith d arithmetic.Add x y) h (less_not r d low, tt) (inl refl) l
    operator_live op.Sub d x y plain p next r h low other l = live_last body p next r (instr.Arith d arithmetic.Sub x y) h (less_not r d low, tt) (inl refl) l
    operator_live op.Mul d x y plain p next r h low other l = live_last body p next r (instr.Arith d arithmetic.Mul x y) h (less_not r d low, tt) (inl refl) l
    operator_live op.Div d x y plain p next r h low other l = live_last body p next r (instr.Arith d arithmetic.Div x y) h (less_not r d low, tt) (inl refl) l
    operator_live op.Mod d x y plain p next r h low other l = live_last body p next r (instr.Arith d arithmetic.Mod x y) h (less_not r d low, tt) (inl refl) l
    operator_live op.Equal d x y true p next r h low other l = live_last body p next r (instr.Equal d x y) h (less_not r d low, tt) (inl refl) l
    operator_live op.Equal d x y false p next r h low other l =
        live_on body p (p + 1) r (instr.Equal d x y) h.0.0 (less_not r d low, tt) (inl refl)
        (live_last body (p + 1) next r (instr.Clear (y ∷ [])) (tail body p (instr.Equal d x y) (Does (instr.Clear (y ∷ [])) ∷ []) next h) (other refl, tt) (inl refl) l)
    operator_live op.Less d x y plain p next r h low other l = live_last body p next r (instr.Compare d comparison.Less x y) h (less_not r d low, tt) (inl refl) l
    operator_live op.LessEqual d x y plain p next r h low other l = live_last body p next r (instr.Compare d comparison.LessEqual x y) h (less_not r d low, tt) (inl refl) l
    operator_live op.Greater d x y plain p next r h low other l = live_last body p next r (instr.Compare d comparison.Greater x y) h (less_not r d low, tt) (inl refl) l
    operator_live op.GreaterEqual d x y plain p next r h low other l = live_last body p next r (instr.Compare d comparison.GreaterEqual x y) h (less_not r d low, tt) (inl refl) l
    operator_live op.And d x y plain p next r h low other l = at_end body p next r h l
    operator_live op.Or d x y plain p next r h low other l = at_end body p next r h l

    is_test_live : (ty : Ty) (d p next r : ℕ) → Spans body p (is_test c ty d) next → r < d → LiveAt body next r → LiveAt body p r
    is_test_live ty d p next r h low l =
        let one = test c ty d (suc d) (suc (suc d)) in
        let move : Instr = instr.Move (suc (suc d)) d in let last : Instr = instr.Move d (suc d) in
        let rest : List Step = Does move ∷ Does (instr.Clear (suc (suc d) ∷ [])) ∷ Does last ∷ [] in
        let mid = p + length one in
        let two = back body p one rest next h in
        let three = tail body mid move (Does (instr.Clear (suc (suc d) ∷ [])) ∷ Does last ∷ []) next two in
        let four = tail body (mid + 1) (instr.Clear (suc (suc d) ∷ [])) (Does last ∷ []) next three in
        let not_d : r ≢ d = less_not r d low in let not_1 : r ≢ suc d = less_not r (suc d) (omega (arith, low)) in let not_2 : r ≢ suc (suc d) = less_not r (suc (suc d)) (omega (arith, low)) in
        test_live body c ty d (suc d) (suc (suc d)) p mid r (front body p one rest next h) (omega (arith, low)) not_1
        (live_on body mid (mid + 1) r move two.0.0 (not_2, (not_d, tt)) (inl refl)
        (live_on body (mid + 1) (mid + 1 + 1) r (instr.Clear (suc (suc d) ∷ [])) three.0.0 (not_2, tt) (inl refl)
        (live_last body (mid + 1 + 1) next r last four (not_d, (not_1, tt)) (inl refl) l)))

    -- through the end of a quantifier behind all turns
    pub ends_live : (all : Bool) (d : ℕ) (rs : List ℕ) (p next r : ℕ) → Spans body p (ends all d (clear rs)) next → IsNone r rs → r ≢ d → LiveAt body next r → LiveAt body p r
    ends_live all d rs p next r h none other l =
        let other_end = said d (not all) (clear rs) in
        let rest : List Step = Does (instr.Const d (scalar.Bool all)) ∷ GoesOn (length other_end) ∷ other_end in
        let q = p + length (clear rs) in
        let two = back body p (clear rs) rest next h in
        let three = tail body q (instr.Const d (scalar.Bool all)) (GoesOn (length other_end) ∷ other_end) next two in
        clear_live rs p q r (front body p (clear rs) rest next h) none
        (live_on body q (q + 1) r (instr.Const d (scalar.Bool all)) two.0.0 (other, tt) (inl refl)
        (live_on body (q + 1) (suc (q + 1) + length other_end) r (instr.Jump (suc (q + 1) + length other_end)) three.0.0 tt (inl refl)
        (subst (λ (z : ℕ). LiveAt body z r) (let e = three.1 in omega (arith, e)) l)))

    -- where the turns of a quantifier stand
    abbrev pub turns_of : (all : Bool) (x d : ℕ) (inner : List Step) (rs : List ℕ) → List Step
    turns_of all x d inner rs = number_turns x d (inner ++ turn_end all d (clear rs))

    pub quantifier : (all : Bool) (x d : ℕ) (inner : List Step) (rs : List ℕ) (p next : ℕ) → Spans body p (quantify all x d inner (clear rs)) next
        → Turning body p (Does (instr.Compare (suc (suc d)) comparison.Less d (suc d)) ∷ []) (suc (suc d)) (Does (instr.Share x d) ∷ (inner ++ turn_end all d (clear rs))) (p + length (turns_of all x d inner rs))
    quantifier all x d inner rs p next h =
        turning body p (Does (instr.Compare (suc (suc d)) comparison.Less d (suc d)) ∷ []) (suc (suc d)) (Does (instr.Share x d) ∷ (inner ++ turn_end all d (clear rs))) (p + length (turns_of all x d inner rs))
        (front body p (turns_of all x d inner rs) (ends all d (clear rs)) next h)

    -- behind the comparison a body may be gone through, or no turn made
    pub branch_live : (all : Bool) (x d : ℕ) (inner : List Step) (rs : List ℕ) (p next r : ℕ) → Spans body p (quantify all x d inner (clear rs)) next → r < d
        → ((q z : ℕ) → Spans body q inner z → (r ≢ x) × LiveAt body q r) ⊎ (IsNone r rs × LiveAt body next r) → LiveAt body (p + 1) r
    branch_live all x d inner rs p next r h low way =
        let share : Instr = instr.Share x d in
        let long = p + length (turns_of all x d inner rs) in
        let parts = quantifier all x d inner rs p next h in
        let b = parts.branch in
        let first_at : p + 1 ≡ b = (let z = parts.tests.1 in omega (arith, z)) in
        let i1 = tail body (b + 1) share (inner ++ turn_end all d (clear rs)) parts.jump parts.inside in
        let at_b : LiveAt body b r = either
        (λ f. let k = f (b + 1 + 1) (b + 1 + 1 + length inner) (front body (b + 1 + 1) inner (turn_end all d (clear rs)) parts.jump i1) in
        live_on body b (b + 1) r (instr.Branch (suc (suc d)) long) parts.branches tt (inl refl)
        (live_on body (b + 1) (b + 1 + 1) r share parts.inside.0.0 (k.0, tt) (inl refl) k.1))
        (λ k. live_on body b long r (instr.Branch (suc (suc d)) long) parts.branches tt (inr (inl refl))
        (ends_live all d rs long next r (back body p (turns_of all x d inner rs) (ends all d (clear rs)) next h) k.0 (less_not r d low) k.1)) way in
        subst (λ (z : ℕ). LiveAt body z r) (sym first_at) at_b

    quantify_live : (all : Bool) (x d : ℕ) (inner : List Step) (rs : List ℕ) (p next r : ℕ) → Spans body p (quantify all x d inner (clear rs)) next → r < d
        → ((q z : ℕ) → Spans body q inner z → (r ≢ x) × LiveAt body q r) ⊎ (IsNone r rs × LiveAt body next r) → LiveAt body p r
    quantify_live all x d inner rs p next r h low way =
        live_on body p (p + 1) r (instr.Compare (suc (suc d)) comparison.Less d (suc d)) (quantifier all x d inner rs p next h).tests.0.0 (less_not r (suc (suc d)) (omega (arith, low)), tt) (inl refl) (branch_live all x d inner rs p next r h low way)

    -- what isn't lost
    pub kept_lost : (x : ℕ) (inner : Expr ℕ) (U : ℕ → Type 0) (s : Variables) (r : ℕ) → Low U → x < n → Fits c n inner (λ y. U y ⊎ (y ≡ x)) → Keeps s r → IsNone r (lost (turned x inner s) s)
    kept_lost x inner U s r low xl fit k = not_lost (turned x inner s) s r (λ h g.
        either (λ v. not_both (has s r) v g)
        (λ above. either (λ z. let l = low_more U x low xl r (occurs_used inner (λ y. U y ⊎ (y ≡ x)) fit r z.1) in absurd (omega (arith, l, above))) (λ v. not_both (has s r) v g) (turned_cases x inner s r h)) k)

    keeps_before : (e : Expr ℕ) (s : Variables) (r : ℕ) → Keeps s r → Keeps (before e s) r
    keeps_before e s r (inl v) = inl (before_of e s r (inr v))
    keeps_before e s r (inr l) = inr l

    keeps_turned : (x : ℕ) (inner : Expr ℕ) (s : Variables) (r : ℕ) → Keeps s r → Keeps (turned x inner s) r
    keeps_turned x inner s r (inl v) = inl (turned_of x inner s r (inr v))
    keeps_turned x inner s r (inr l) = inr l

    -- two parts, one behind the other
    pub two_ways : (used other : Bool) (s t : Variables) (at mid next r : ℕ) → (Keeps s r → Keeps t r) → (other ≡ true → Keeps t r)
        → (Goes used t mid r → LiveAt body at r) → (Goes other s next r → LiveAt body mid r) → Goes (used || other) s next r → LiveAt body at r
    two_ways used other s t at mid next r keep keep_used one two (inl u) = either (λ k. one (inl k)) (λ k. one (inr (keep_used k, two (inl k)))) (or_cases used other u)
    two_ways used other s t at mid next r keep keep_used one two (inr k) = one (inr (keep k.0, two (inr k)))

    pub goes_on : (used : Bool) (s : Variables) (mid next r : ℕ) → (LiveAt body next r → LiveAt body mid r) → Goes used s next r → Goes used s mid r
    goes_on used s mid next r f (inl u) = inl u
    goes_on used s mid next r f (inr k) = inr (k.0, f k.1)

    -- what is said of an expression
    abbrev pub Lively : Expr ℕ → Type 0
    Lively e = (s : Variables) (d at next r : ℕ) → n ≤ d → Spans body at (code c e s d) next → r < d → Goes (occurs e r) s next r → LiveAt body at r

    -- ---- operands, which may be read in the registers of their variables

    -- a variable that is read in its register is live there
    abbrev pub ReadThere : Option ℕ → ℕ → Type 0
    ReadThere None p = Unit {0}
    ReadThere (Some x) p = LiveAt body p x

    pub there_of : (w : Option ℕ) (d p : ℕ) → LiveAt body p (standing w d) → ReadThere w p
    there_of None d p l = tt
    there_of (Some x) d p l = l

    pub standing_below : (U : ℕ → Type 0) → Low U → (w : Option ℕ) (a : Expr ℕ) → IsIts U w a → (d : ℕ) → n ≤ d → standing w d < suc d
    standing_below U lows None a its d nd = omega arith
    standing_below U lows (Some x) a its d nd = let l = lows x its.1 in omega (arith, l, nd)

    -- what an operand uses is live in front of its code, where what is read in its register is so behind
    pub operand_live : (U : ℕ → Type 0) (w : Option ℕ) (a : Expr ℕ) → IsIts U w a → Lively a → (s : Variables) (d at next r : ℕ) → n ≤ d → Spans body at (unless_read w (code c a s d)) next → r < d → ReadThere w next
        → Goes (occurs a r) s next r → LiveAt body at r
    operand_live U None a its is s d at next r nd h low there way = is s d at next r nd h low way
    operand_live U (Some x) a its is s d at next r nd h low there way =
        at_end body at next r h (either (λ o. subst (λ (z : ℕ). LiveAt body next z) (sym (variable_occurs a x r its.0 o)) there) (λ k. k.1) way)

    -- one operand and what is behind it
    one_live : (U : ℕ → Type 0) (w : Option ℕ) (a : Expr ℕ) → IsIts U w a → Lively a → (s : Variables) (d at next r : ℕ) → n ≤ d → (rest : List Step)
        → ((p : ℕ) → Spans body p rest next → ReadThere w p × (LiveAt body next r → LiveAt body p r))
        → Spans body at (unless_read w (code c a s d) ++ rest) next → r < d → Goes (occurs a r) s next r → LiveAt body at r
    one_live U w a its is s d at next r nd rest behind h low way =
        let one = unless_read w (code c a s d) in
        let mid = at + length one in
        let facts = behind mid (back body at one rest next h) in
        operand_live U w a its is s d at mid r nd (front body at one rest next h) low facts.0 (goes_on (occurs a r) s mid next r facts.1 way)

    -- one instruction, which reads the operand
    reads_one : (w : Option ℕ) (d next r : ℕ) (j : Instr) → r < d → IsOne (standing w d) (reads j) → IsNone r (changes j) → ((p : ℕ) → IsOne (p + 1) (nexts p j))
        → (p : ℕ) → Spans body p (Does j ∷ []) next → ReadThere w p × (LiveAt body next r → LiveAt body p r)
    reads_one w d next r j low read none to p h = (there_of w d p (live_reads body p (standing w d) j h.0.0 read), λ l. live_last body p next r j h none (to p) l)

    -- a first operand that is read in its register is live in front of the second one
    first_there : (U : ℕ → Type 0) → Low U → (w v : Option ℕ) (a b : Expr ℕ) → IsIts U w a → IsIts U v b → Lively b → (s : Variables) (d at next : ℕ) → n ≤ d → Waits c n w v b s → Spans body at (unless_read v (code c b s (suc d))) next
        → ReadThere w next → ReadThere v next → ReadThere w at
    first_there U lows None v a b its too is s d at next nd waits h here there = tt
    first_there U lows (Some x) v a b its too is s d at next nd (inl live) h here there =
        operand_live U v b too is s (suc d) at next x (omega (arith, nd)) h (let l = lows x its.1 in omega (arith, l, nd)) there (inr (inl live, here))
    first_there U lows (Some x) v a b its too is s d at next nd (inr still) h here there =
        let t = with s x in
        operand_live U v b too is t (suc d) at next x (omega (arith, nd)) (subst (λ (z : List Step). Spans body at z next) (still t (suc d)) h) (let l = lows x its.1 in omega (arith, l, nd)) there
        (inr (inl (with_of s x x (inl refl)), here))

    -- a test, which reads a variable that stays in its register
    tested_live : (ty : Ty) (w : Option ℕ) → IsLooked w ty → (d next r : ℕ) → r < d → (p : ℕ) → Spans body p (tested c ty w d) next → ReadThere w p × (LiveAt body next r → LiveAt body p r)
    tested_live ty None look d next r low p h = (tt, λ l. is_test_live ty d p next r h low l)
    tested_live ty (Some x) look d next r low p h =
        let one = test c ty x (suc d) (suc (suc d)) in let last : Instr = instr.Move d (suc d) in
        let mid = p + length one in
        let first = front body p one (Does last ∷ []) next h in
        let apart = below_two r d low in (
          test_reads body c ty look x (suc d) (suc (suc d)) p mid first,
          λ l. test_live body c ty x (suc d) (suc (suc d)) p mid r first (omega (arith, low)) apart.1 (live_last body mid next r last (back body p one (Does last ∷ []) next h) (apart.0, (apart.1, tt)) (inl refl) l),
        )

    -- two operands, where those that are read in their registers are live behind both
    pub operands_live : (U : ℕ → Type 0) → Low U → (w v : Option ℕ) (a b : Expr ℕ) → IsIts U w a → IsIts U v b → Lively a → Lively b → (s : Variables) (d at mid last r : ℕ) → n ≤ d → Waits c n w v b s
        → Spans body at (unless_read w (code c a (before b s) d)) mid → Spans body mid (unless_read v (code c b s (suc d))) last → ReadThere w last → ReadThere v last → r < d → Goes (occurs a r || occurs b r) s last r → LiveAt body at r
    operands_live U lows w v a b its too one two s d at mid last r nd waits xs ys here there low way =
        two_ways (occurs a r) (occurs b r) s (before b s) at mid last r (keeps_before b s r) (λ k. inl (before_of b s r (inl k)))
        (λ g. operand_live U w a its one (before b s) d at mid r nd xs low (first_there U lows w v a b its too two s d mid last nd waits ys here there) g)
        (λ g. operand_live U v b too two s (suc d) mid last r (omega (arith, nd)) ys (omega (arith, low)) there g) way

    -- and what is behind them
    pair_live : (U : ℕ → Type 0) → Low U → (w v : Option ℕ) (a b : Expr ℕ) → IsIts U w a → IsIts U v b → Lively a → Lively b → (s : Variables) (d at next r : ℕ) → n ≤ d → Waits c n w v b s → (rest : List Step)
        → ((p : ℕ) → Spans body p rest next → ReadThere w p × ReadThere v p × (LiveAt body next r → LiveAt body p r))
        → Spans body at (unless_read w (code c a (before b s) d) ++ (unless_read v (code c b s (suc d)) ++ rest)) next → r < d → Goes (occurs a r || occurs b r) s next r → LiveAt body at r
    pair_live U lows w v a b its too one two s d at next r nd waits rest behind h low way =
        let xs = unless_read w (code c a (before b s) d) in let ys = unless_read v (code c b s (suc d)) in
        let mid = at + length xs in let last = mid + length ys in
        let second = back body at xs (ys ++ rest) next h in
        let facts = behind last (back body mid ys rest next second) in
        operands_live U lows w v a b its too one two s d at mid last r nd waits (front body at xs (ys ++ rest) next h) (front body mid ys rest next second) facts.0 facts.1 low (goes_on (occurs a r || occurs b r) s last next r facts.2 way)

    -- one instruction, which reads both operands
    reads_pair : (w v : Option ℕ) (d next r : ℕ) (j : Instr) → r < d → IsOne (standing w d) (reads j) → IsOne (standing v (suc d)) (reads j) → IsNone r (changes j) → ((p : ℕ) → IsOne (p + 1) (nexts p j))
        → (p : ℕ) → Spans body p (Does j ∷ []) next → ReadThere w p × ReadThere v p × (LiveAt body next r → LiveAt body p r)
    reads_pair w v d next r j low one two none to p h =
        (there_of w d p (live_reads body p (standing w d) j h.0.0 one), there_of v (suc d) p (live_reads body p (standing v (suc d)) j h.0.0 two), λ l. live_last body p next r j h none (to p) l)

    -- an operator that evaluates both
    strict_live : (U : ℕ → Type 0) → Low U → (o : Op) → Strict o → (w v : Option ℕ) (a b : Expr ℕ) → IsIts U w a → IsIts U v b → Lively a → Lively b → (s : Variables) (d at next r : ℕ) → n ≤ d → Waits c n w v b s
        → Spans body at (unless_read w (code c a (before b s) d) ++ (unless_read v (code c b s (suc d)) ++ operator o d (standing w d) (standing v (suc d)) (plain_or_read v (is_plain b)))) next
        → r < d → Goes (occurs a r || occurs b r) s next r → LiveAt body at r
    strict_live U lows o strict w v a b its too one two s d at next r nd waits h low way =
        let x = standing w d in let y = standing v (suc d) in let plain = plain_or_read v (is_plain b) in
        pair_live U lows w v a b its too one two s d at next r nd waits (operator o d x y plain)
        (λ p sp. let k = operator_reads o strict d x y plain p next sp in
        (there_of w d p k.0, there_of v (suc d) p k.1, λ l. operator_live o d x y plain p next r sp low (release_apart v (is_plain b) (suc d) r (omega (arith, low))) l)) h low way

    -- what is live behind `&&` and isn't used by its right operand isn't released in between
    unused_kept : (b : Expr ℕ) (s : Variables) (r : ℕ) → occurs b r ≡ false → IsNone r (lost (before b s) s)
    unused_kept b s r unused = not_lost (before b s) s r (λ v e. either (λ o. not_both (occurs b r) o unused) (λ k. not_both (has s r) k e) (before_cases b s r v))

    behind_and : (b : Expr ℕ) (s : Variables) (q next r : ℕ) → Spans body q (released (before b s) s) next → Goes (occurs b r) s next r → Goes (occurs b r) s q r
    behind_and b s q next r h (inl u) = inl u
    behind_and b s q next r h (inr k) = either (λ u. inl u) (λ unused. inr (k.0, clear_live (lost (before b s) s) q next r h (unused_kept b s r unused) k.1)) (true_or_not (occurs b r))

    and_live : (a b : Expr ℕ) → Lively a → Lively b → (s : Variables) (d at next r : ℕ) → n ≤ d
        → Spans body at (code c a (before b s) d ++ (fork d (code c b s d) [] ++ released (before b s) s)) next → r < d → Goes (occurs a r || occurs b r) s next r → LiveAt body at r
    and_live a b one two s d at next r nd h low way =
        let xs = fork d (code c b s d) [] in let ys = released (before b s) s in
        let first = code c a (before b s) d in
        let mid = at + length first in let last = mid + length xs in
        let rest = back body at first (xs ++ ys) next h in
        two_ways (occurs a r) (occurs b r) s (before b s) at mid next r (keeps_before b s r) (λ k. inl (before_of b s r (inl k)))
        (λ g. one (before b s) d at mid r nd (front body at first (xs ++ ys) next h) low g)
        (λ g. live_first body mid last d (code c b s d) [] r (front body mid xs ys next rest)
        (λ p q sp f. two s d p q r nd sp low (goes_on (occurs b r) s q last r f (behind_and b s last next r (back body mid xs ys next rest) g)))) way

    or_live : (a b : Expr ℕ) → Lively a → Lively b → (s : Variables) (d at next r : ℕ) → n ≤ d
        → Spans body at (code c a (before b s) d ++ fork d (released (before b s) s) (code c b s d)) next → r < d → Goes (occurs a r || occurs b r) s next r → LiveAt body at r
    or_live a b one two s d at next r nd h low way =
        let choice = fork d (released (before b s) s) (code c b s d) in
        let first = code c a (before b s) d in
        let mid = at + length first in
        two_ways (occurs a r) (occurs b r) s (before b s) at mid next r (keeps_before b s r) (λ k. inl (before_of b s r (inl k)))
        (λ g. one (before b s) d at mid r nd (front body at first choice next h) low g)
        (λ g. live_second body mid next d (released (before b s) s) (code c b s d) r (back body at first choice next h) (λ p sp. two s d p next r nd sp low g)) way

    -- an operator of numbers
    numbers_live : (U : ℕ → Type 0) → Low U → (o : Op) → Strict o → (a b : Expr ℕ) → Fits c n a U → Fits c n b U → Lively a → Lively b → (s : Variables) (d at next r : ℕ) → n ≤ d
        → Spans body at (unless_read (read_first a b s) (code c a (before b s) d) ++ (unless_read (variable_in b) (code c b s (suc d)) ++ operator o d (standing (read_first a b s) d) (standing (variable_in b) (suc d)) (plain_or_read (variable_in b) (is_plain b)))) next
        → r < d → Goes (occurs a r || occurs b r) s next r → LiveAt body at r
    numbers_live U lows o strict a b fit_a fit_b one two s d at next r nd h low way =
        let k = first_its c n a b s U fit_a in
        strict_live U lows o strict (read_first a b s) (variable_in b) a b k.0 (variable_its c n b U fit_b) one two s d at next r nd k.1 h low way

    equal_live : (U : ℕ → Type 0) → Low U → (a b : Expr ℕ) → Fits c n a U → Fits c n b U → Lively a → Lively b → (s : Variables) (d at next r : ℕ) → n ≤ d
        → Spans body at (unless_read (read a s) (code c a (before b s) d) ++ (unless_read (read b s) (code c b s (suc d)) ++ operator op.Equal d (standing (read a s) d) (standing (read b s) (suc d)) (plain_or_read (read b s) (is_plain b)))) next
        → r < d → Goes (occurs a r || occurs b r) s next r → LiveAt body at r
    equal_live U lows a b fit_a fit_b one two s d at next r nd h low way =
        let k = read_its c n a s U fit_a in
        strict_live U lows op.Equal tt (read a s) (read b s) a b k.0 (read_its c n b s U fit_b).0 one two s d at next r nd (inl k.1) h low way

    -- both operands and the operator
    binary_live : (U : ℕ → Type 0) → Low U → (i : ℕ) (o : Op) (a b : Expr ℕ) → Fits c n a U → Fits c n b U → Lively a → Lively b → (s : Variables) (d at next r : ℕ) → n ≤ d
        → Spans body at (code c (BinaryExpr i o a b) s d) next → r < d → Goes (occurs a r || occurs b r) s next r → LiveAt body at r
    binary_live U lows i op.Add a b fit_a fit_b one two s d at next r nd h low way = numbers_live U lows op.Add tt a b fit_a fit_b one two s d at next r nd h low way
    binary_live U lows i op.Sub a b fit_a fit_b one two s d at next r nd h low way = numbers_live U lows op.Sub tt a b fit_a fit_b one two s d at next r nd h low way
    binary_live U lows i op.Mul a b fit_a fit_b one two s d at next r nd h low way = numbers_live U lows op.Mul tt a b fit_a fit_b one two s d at next r nd h low way
    binary_live U lows i op.Div a b fit_a fit_b one two s d at next r nd h low way = numbers_live U lows op.Div tt a b fit_a fit_b one two s d at next r nd h low way
    binary_live U lows i op.Mod a b fit_a fit_b one two s d at next r nd h low way = numbers_live U lows op.Mod tt a b fit_a fit_b one two s d at next r nd h low way
    binary_live U lows i op.Equal a b fit_a fit_b one two s d at next r nd h low way = equal_live U lows a b fit_a fit_b one two s d at next r nd h low way
    binary_live U lows i op.Less a b fit_a fit_b one two s d at next r nd h low way = numbers_live U lows op.Less tt a b fit_a fit_b one two s d at next r nd h low way
    binary_live U lows i op.LessEqual a b fit_a fit_b one two s d at next r nd h low way = numbers_live U lows op.LessEqual tt a b fit_a fit_b one two s d at next r nd h low way
    binary_live U lows i op.Greater a b fit_a fit_b one two s d at next r nd h low way = numbers_live U lows op.Greater tt a b fit_a fit_b one two s d at next r nd h low way
    binary_live U lows i op.GreaterEqual a b fit_a fit_b one two s d at next r nd h low way = numbers_live U lows op.GreaterEqual tt a b fit_a fit_b one two s d at next r nd h low way
    binary_live U lows i op.And a b fit_a fit_b one two s d at next r nd h low way = and_live a b one two s d at next r nd h low way
    binary_live U lows i op.Or a b fit_a fit_b one two s d at next r nd h low way = or_live a b one two s d at next r nd h low way

    -- behind a number comes its minus
    neg_live : (U : ℕ → Type 0) → Low U → (a : Expr ℕ) → Fits c n a U → Lively a → (s : Variables) (d at next r : ℕ) → n ≤ d
        → Spans body at (unless_read (variable_in a) (code c a s d) ++ negated d (standing (variable_in a) d)) next → r < d → Goes (occurs a r) s next r → LiveAt body at r
    neg_live U lows a fit is s d at next r nd h low way =
        let w = variable_in a in let x = standing w d in
        let zero_in : Instr = instr.Const (suc d) (scalar.Int (pos 0)) in let minus : Instr = instr.Arith d arithmetic.Sub (suc d) x in
        let its = variable_its c n a U fit in
        one_live U w a its is s d at next r nd (negated d x)
        (λ p sp. let last = tail body p zero_in (Does minus ∷ []) next sp in (
          there_of w d p (live_on body p (p + 1) x zero_in sp.0.0 (less_not x (suc d) (standing_below U lows w a its d nd), tt) (inl refl) (live_reads body (p + 1) x minus last.0.0 (inr (inl refl)))),
          λ l. live_on body p (p + 1) r zero_in sp.0.0 ((below_two r d low).1, tt) (inl refl) (live_last body (p + 1) next r minus last (less_not r d low, tt) (inl refl) l),
        )) h low way

    mutual
      -- what the expression uses is live in front of its code, and so is what is live behind it
      pub code_live : (e : Expr ℕ) (U : ℕ → Type 0) (s : Variables) (d at next r : ℕ) → Fits c n e U → Low U → n ≤ d → Spans body at (code c e s d) next → r < d → Goes (occurs e r) s next r → LiveAt body at r
      code_live (NullExpr i) U s d at next r fit lows nd h low (inl u) = never u
      code_live (NullExpr i) U s d at next r fit lows nd h low (inr k) = live_last body at next r (instr.Const d scalar.Null) h (less_not r d low, tt) (inl refl) k.1
      code_live (BoolExpr i truth) U s d at next r fit lows nd h low (inl u) = never u
      code_live (BoolExpr i truth) U s d at next r fit lows nd h low (inr k) = live_last body at next r (instr.Const d (scalar.Bool truth)) h (less_not r d low, tt) (inl refl) k.1
      code_live (IntExpr i number) U s d at next r fit lows nd h low (inl u) = never u
      code_live (IntExpr i number) U s d at next r fit lows nd h low (inr k) = live_last body at next r (instr.Const d (scalar.Int number)) h (less_not r d low, tt) (inl refl) k.1
      code_live (VarExpr i x) U s d at next r fit lows nd h low (inl u) = var_reads (has s x) at d x r h.0.0 (same_of r x u)
      code_live (VarExpr i x) U s d at next r fit lows nd h low (inr k) =
          var_passes (has s x) at next d x r h low (λ e same. either (λ v. not_both (has s x) (subst (λ (y : ℕ). has s y ≡ true) same v) e) (λ l. let z = lows x fit in absurd (omega (arith, z, l, same))) k.0) k.1
      code_live (CallExpr i g args) U s d at next r fit lows nd h low way =
          let mid = at + length (codes c args s d) in let last = call (target c.results g) g d (count_of args) in
          codes_live args U s d at mid r fit.1 lows nd (front body at (codes c args s d) last next h) low
          (goes_on (any_occurs args r) s mid next r (λ l. call_live (target c.results g) fit.0 g d (count_of args) mid next r (back body at (codes c args s d) last next h) low l) way)
      code_live (NegExpr i a) U s d at next r fit lows nd h low way = neg_live U lows a fit (λ s2 d2 at2 next2 r2 nd2 h2 low2 way2. code_live a U s2 d2 at2 next2 r2 fit lows nd2 h2 low2 way2) s d at next r nd h low way
      code_live (NotExpr i a) U s d at next r fit lows nd h low way =
          let w = variable_in a in let j : Instr = instr.Not d (standing w d) in
          one_live U w a (variable_its c n a U fit) (λ s2 d2 at2 next2 r2 nd2 h2 low2 way2. code_live a U s2 d2 at2 next2 r2 fit lows nd2 h2 low2 way2) s d at next r nd (Does j ∷ [])
          (λ p sp. reads_one w d next r j low (inl refl) (less_not r d low, tt) (λ q. inl refl) p sp) h low way
      code_live (LenExpr i a) U s d at next r fit lows nd h low way =
          let w = read a s in let j : Instr = instr.Len d (standing w d) in
          one_live U w a (read_its c n a s U fit).0 (λ s2 d2 at2 next2 r2 nd2 h2 low2 way2. code_live a U s2 d2 at2 next2 r2 fit lows nd2 h2 low2 way2) s d at next r nd (Does j ∷ [])
          (λ p sp. reads_one w d next r j low (inl refl) (less_not r d low, tt) (λ q. inl refl) p sp) h low way
      code_live (FieldExpr i a name) U s d at next r fit lows nd h low way =
          let w = read a s in let j : Instr = instr.Field d (standing w d) (number_of name c.table.names) in
          one_live U w a (read_its c n a s U fit).0 (λ s2 d2 at2 next2 r2 nd2 h2 low2 way2. code_live a U s2 d2 at2 next2 r2 fit lows nd2 h2 low2 way2) s d at next r nd (Does j ∷ [])
          (λ p sp. reads_one w d next r j low (inl refl) (less_not r d low, tt) (λ q. inl refl) p sp) h low way
      code_live (BinaryExpr i o a b) U s d at next r fit lows nd h low way =
          binary_live U lows i o a b fit.0 fit.1 (λ s2 d2 at2 next2 r2 nd2 h2 low2 way2. code_live a U s2 d2 at2 next2 r2 fit.0 lows nd2 h2 low2 way2) (λ s2 d2 at2 next2 r2 nd2 h2 low2 way2. code_live b U s2 d2 at2 next2 r2 fit.1 lows nd2 h2 low2 way2) s d at next r nd h low way
      code_live (IsExpr i a ty) U s d at next r fit lows nd h low way =
          let w = tested_read ty a s in let its = tested_its c n ty a s U fit in
          one_live U w a its.0 (λ s2 d2 at2 next2 r2 nd2 h2 low2 way2. code_live a U s2 d2 at2 next2 r2 fit lows nd2 h2 low2 way2) s d at next r nd (tested c ty w d)
          (λ p sp. tested_live ty w its.1.1 d next r low p sp) h low way
      code_live (IndexExpr i a b) U s d at next r fit lows nd h low way =
          let w = read a s in let v = variable_in b in let j : Instr = instr.Get d (standing w d) (standing v (suc d)) in
          let its = read_its c n a s U fit.0 in
          pair_live U lows w v a b its.0 (variable_its c n b U fit.1) (λ s2 d2 at2 next2 r2 nd2 h2 low2 way2. code_live a U s2 d2 at2 next2 r2 fit.0 lows nd2 h2 low2 way2) (λ s2 d2 at2 next2 r2 nd2 h2 low2 way2. code_live b U s2 d2 at2 next2 r2 fit.1 lows nd2 h2 low2 way2) s d at next r nd (inl its.1) (Does j ∷ [])
          (λ p sp. reads_pair w v d next r j low (inl refl) (inr (inl refl)) (less_not r d low, tt) (λ q. inl refl) p sp) h low way
      code_live (RepeatExpr i a b) U s d at next r fit lows nd h low way =
          let j : Instr = instr.Fill d d (suc d) in
          pair_live U lows None None a b tt tt (λ s2 d2 at2 next2 r2 nd2 h2 low2 way2. code_live a U s2 d2 at2 next2 r2 fit.0 lows nd2 h2 low2 way2) (λ s2 d2 at2 next2 r2 nd2 h2 low2 way2. code_live b U s2 d2 at2 next2 r2 fit.1 lows nd2 h2 low2 way2) s d at next r nd (inl tt) (Does j ∷ [])
          (λ p sp. reads_pair None None d next r j low (inl refl) (inr (inl refl)) (less_not r d low, (less_not r d low, tt)) (λ q. inl refl) p sp) h low way
      code_live (ListExpr i items) U s d at next r fit lows nd h low way =
          let mid = at + length (codes c items s d) in
          codes_live items U s d at mid r fit lows nd (front body at (codes c items s d) (list (count_of items) d) next h) low
          (goes_on (any_occurs items r) s mid next r (λ l. live_last body mid next r (instr.Array d (registers_from d (count_of items))) (back body at (codes c items s d) (list (count_of items) d) next h)
          (less_not r d low, none_below r d (registers_from d (count_of items)) low (from_registers d d (count_of items) (omega arith))) (inl refl) l) way)
      code_live (RecordExpr i fs) U s d at next r fit lows nd h low way =
          let mid = at + length (field_codes c fs s d) in
          field_codes_live fs U s d at mid r fit lows nd (front body at (field_codes c fs s d) (record_of c fs d) next h) low
          (goes_on (any_field_occurs fs r) s mid next r (λ l. live_last body mid next r (instr.Record d (shape_number c.table (names_in fs)) (registers_from d (field_count fs))) (back body at (field_codes c fs s d) (record_of c fs d) next h)
          (less_not r d low, none_below r d (registers_from d (field_count fs)) low (from_registers d d (field_count fs) (omega arith))) (inl refl) l) way)
      code_live (QuantExpr i all x a b inner) U s d at next r fit lows nd h low way =
          let T = turned x inner s in
          let last = quantify all x d (code c inner T (suc (suc d))) (released T s) in
          let mid = at + length (code c a (before b T) d) in
          let behind = back body at (code c a (before b T) d) (code c b T (suc d) ++ last) next h in
          let mid2 = mid + length (code c b T (suc d)) in
          two_ways (occurs a r) (occurs b r || (not (r == x) && occurs inner r)) s (before b T) at mid next r
          (λ k. keeps_before b T r (keeps_turned x inner s r k))
          (λ k. inl (before_of b T r (either (λ z. inl z) (λ z. inr (turned_of x inner s r (inl (let w = and_not (r == x) (occurs inner r) z in (other_of r x w.0, w.1))))) (or_cases (occurs b r) (not (r == x) && occurs inner r) k))))
          (λ g. code_live a U (before b T) d at mid r fit.0 lows nd (front body at (code c a (before b T) d) (code c b T (suc d) ++ last) next h) low g)
          (λ g. two_ways (occurs b r) (not (r == x) && occurs inner r) s T mid mid2 next r (keeps_turned x inner s r)
          (λ z. inl (turned_of x inner s r (inl (let w = and_not (r == x) (occurs inner r) z in (other_of r x w.0, w.1)))))
          (λ k. code_live b U T (suc d) mid mid2 r fit.1 lows (omega (arith, nd)) (front body mid (code c b T (suc d)) last next behind) (omega (arith, low)) k)
          (λ k. quantify_live all x d (code c inner T (suc (suc d))) (lost T s) mid2 next r (back body mid (code c b T (suc d)) last next behind) low
          (either (λ z. let w = and_not (r == x) (occurs inner r) z in inl (λ q e sp. (other_of r x w.0, code_live inner (λ y. U y ⊎ (y ≡ x)) T (suc (suc d)) q e r fit.4 (low_more U x lows fit.3) (omega (arith, nd)) sp (omega (arith, low)) (inl w.1))))
          (λ z. inr (kept_lost x inner U s r lows fit.3 fit.4 z.0, z.1)) k)) g) way

      pub codes_live : (es : Exprs ℕ) (U : ℕ → Type 0) (s : Variables) (d at next r : ℕ) → FitAll c n es U → Low U → n ≤ d → Spans body at (codes c es s d) next → r < d → Goes (any_occurs es r) s next r → LiveAt body at r
      codes_live NoExprs U s d at next r fit lows nd h low (inl u) = never u
      codes_live NoExprs U s d at next r fit lows nd h low (inr k) = at_end body at next r h k.1
      codes_live (MoreExprs e es) U s d at next r fit lows nd h low way =
          let one = code c e (before_all es s) d in let mid = at + length one in
          two_ways (occurs e r) (any_occurs es r) s (before_all es s) at mid next r (λ k. either (λ v. inl (all_of es s r (inr v))) (λ l. inr l) k) (λ k. inl (all_of es s r (inl k)))
          (λ g. code_live e U (before_all es s) d at mid r fit.0 lows nd (front body at one (codes c es s (suc d)) next h) low g)
          (λ g. codes_live es U s (suc d) mid next r fit.1 lows (omega (arith, nd)) (back body at one (codes c es s (suc d)) next h) (omega (arith, low)) g) way

      pub field_codes_live : (fs : Fields ℕ) (U : ℕ → Type 0) (s : Variables) (d at next r : ℕ) → FitFields c n fs U → Low U → n ≤ d → Spans body at (field_codes c fs s d) next → r < d → Goes (any_field_occurs fs r) s next r → LiveAt body at r
      field_codes_live NoFields U s d at next r fit lows nd h low (inl u) = never u
      field_codes_live NoFields U s d at next r fit lows nd h low (inr k) = at_end body at next r h k.1
      field_codes_live (MoreFields name e fs) U s d at next r fit lows nd h low way =
          let one = code c e (before_fields fs s) d in let mid = at + length one in
          two_ways (occurs e r) (any_field_occurs fs r) s (before_fields fs s) at mid next r (λ k. either (λ v. inl (fields_of fs s r (inr v))) (λ l. inr l) k) (λ k. inl (fields_of fs s r (inl k)))
          (λ g. code_live e U (before_fields fs s) d at mid r fit.0 lows nd (front body at one (field_codes c fs s (suc d)) next h) low g)
          (λ g. field_codes_live fs U s (suc d) mid next r fit.1 lows (omega (arith, nd)) (back body at one (field_codes c fs s (suc d)) next h) (omega (arith, low)) g) way
