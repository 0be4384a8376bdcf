-- The code of an expression keeps nothing dead.
use Rattle.std.proofs.Common.{◌≡◌, ◌<◌, ◌≤◌, ◌⊎◌, inl, inr, ℕ, suc, ◌+◌, List, [], ◌∷◌, ◌++◌, length, false, Option, Some, None, pos, refl, sym, arith}
use Rattle.wy_core.specs.CoreTree.{Expr, NullExpr, BoolExpr, IntExpr, VarExpr, CallExpr, NegExpr, NotExpr, LenExpr, BinaryExpr, IsExpr, IndexExpr, FieldExpr, ListExpr, RepeatExpr, RecordExpr, QuantExpr, Exprs, NoExprs, MoreExprs, Fields, NoFields, MoreFields}
use Rattle.wy_code.specs.declared.instructions.Scalar.TheVariants as scalar
use Rattle.wy_code.specs.declared.instructions.Arithmetic.TheVariants as arithmetic
use Rattle.wy_code.specs.declared.instructions.Instr.{Instr}
use Rattle.wy_code.specs.declared.instructions.Instr.TheVariants as instr
use Rattle.wy_lemmas.proofs.Choices.{either}
use Rattle.wy_gen_laws.specs.wy_code_spec.declared.tables.context.Context.{Context}
use Rattle.wy_gen_laws.specs.wy_code_spec.tables.Tables.{target, number_of, shape_number, names_in}
use Rattle.wy_live.specs.Sets.{Variables, has}
use Rattle.wy_live.specs.Walks.{before, before_all, before_fields, turned}
use Rattle.wy_code.specs.declared.pieces.steps.Step.TheVariants.{Does}
use Rattle.wy_gen_laws.specs.wy_code_spec.compiled.Operands.{variable_in, read, standing, unless_read}
use Rattle.wy_gen_laws.specs.wy_code_spec.compiled.Expressions.{released, is_plain, call, count_of, field_count, tested, tested_read, negated, list, record_of, quantify, code, codes, field_codes}
use Rattle.wy_gen_sources.specs.code.Safe.{Gives}
use Rattle.wy_gen_sources.specs.code.Fitting.{Fits, FitAll, FitFields}
use Rattle.wy_gen_sources.proofs.code_lemmas.PieceLemmas.{less_not, Spans, front, back, tail, ended, Lives, Sure, sure_less, safe_step, safe_at, lives_on}
use Rattle.wy_gen_sources.proofs.code_lemmas.SetLemmas.{Vars, all_cases, fields_cases}
use Rattle.wy_gen_sources.proofs.code_lemmas.InPlaceLemmas.{IsIts, variable_its, read_its, tested_its}
use Rattle.wy_gen_sources.proofs.code_lemmas.ReadLemmas.{low_more, all_used, fields_used}
use Rattle.wy_gen_sources.proofs.code_lemmas.OperandLemmas.{Range, Stands, stands_at, stands_live, ready_less, ready_at, base_low, around_more, code_lives, operands_ready, operand_safe, unary_safe, pair_safe, pair_ready}
use Rattle.wy_gen_sources.proofs.code_lemmas.ChoiceLemmas.{binary_safe, const_ready, var_sure, tested_ready, call_ready, list_ready, record_ready, first_of_range, more_of_one}
use Rattle.wy_gen_sources.proofs.code_lemmas.QuantifierLemmas.{turned_known, quantify_ready}

module _ (body : List Instr) (c : Context) (n : ℕ) (t : Gives) (f : ℕ) where
  -- live variables, and the registers of the expressions around
  abbrev B : Variables → (ℕ → Type 0) → ℕ → Type 0
  B s A r = Vars s r ⊎ A r

  -- a value that may be a list or a record
  abbrev H : Expr ℕ → ℕ → ℕ → Type 0
  H e d r = (r ≡ d) × (is_plain e ≡ false)

  abbrev Comes : ℕ → ℕ → (ℕ → Type 0) → Type 0
  Comes m p P = Lives body t f p P × Sure body t f m p P

  abbrev Leaves : ℕ → ℕ → (ℕ → Type 0) → (ℕ → Type 0) → Type 0
  Leaves m p P Q = Lives body t f p P × Sure body t f m p (λ r. P r ⊎ Q r)

  abbrev Full : ℕ → ℕ → (ℕ → Type 0) → Expr ℕ → ℕ → Type 0
  Full m p P e d = Lives body t f p P × Sure body t f m p (λ r. P r ⊎ H e d r)

  abbrev Kn : Variables → (ℕ → Type 0) → Type 0
  Kn s U = (r : ℕ) → Vars s r → U r

  abbrev Ar : ℕ → (ℕ → Type 0) → Type 0
  Ar d A = (r : ℕ) → A r → (n ≤ r) × (r < d)

  abbrev Lo : (ℕ → Type 0) → Type 0
  Lo U = (x : ℕ) → U x → x < n

  abbrev Sf : Expr ℕ → (ℕ → Type 0) → Type 1
  Sf e U = (m : ℕ) (s : Variables) (A : ℕ → Type 0) (d at next : ℕ) → Kn s U → n ≤ d → Ar d A → Spans body at (code c e s d) next → Full m next (B s A) e d → Comes m at (B (before e s) A)

  plain_exit : (m p : ℕ) (P Q : ℕ → Type 0) → Leaves m p P Q → Comes m p P
  plain_exit m p P Q k = (k.0, sure_less body t f m p P (λ r. P r ⊎ Q r) (λ r l. inl l) k.1)

  none_exit : (m p : ℕ) (P Q : ℕ → Type 0) → Leaves m p P Q → Leaves m p P (λ r. ⊥)
  none_exit m p P Q k = (k.0, sure_less body t f m p (λ r. P r ⊎ ⊥) (λ r. P r ⊎ Q r) (λ r l. either (λ z. inl z) (λ z. absurd z) l) k.1)

  -- what is shown of expressions one behind the other, whose values are read behind them
  abbrev SfAll : Exprs ℕ → (ℕ → Type 0) → Type 1
  SfAll es U = (m : ℕ) (s : Variables) (A : ℕ → Type 0) (d at next : ℕ) → Kn s U → n ≤ d → Ar d A → Spans body at (codes c es s d) next → Comes m next (λ r. B s A r ⊎ Range d (count_of es) r) → Comes m at (B (before_all es s) A)

  abbrev SfFields : Fields ℕ → (ℕ → Type 0) → Type 1
  SfFields fs U = (m : ℕ) (s : Variables) (A : ℕ → Type 0) (d at next : ℕ) → Kn s U → n ≤ d → Ar d A → Spans body at (field_codes c fs s d) next → Comes m next (λ r. B s A r ⊎ Range d (field_count fs) r) → Comes m at (B (before_fields fs s) A)

  -- a variable that is read in its register is below the registers of values
  pub stands_below : (U : ℕ → Type 0) → Lo U → (w : Option ℕ) (a : Expr ℕ) → IsIts U w a → (d r : ℕ) → n ≤ d → Stands body c n t f w a d r → r < suc d
  stands_below U low None a its d r nd h = let e = h.0 in omega (arith, e)
  stands_below U low (Some x) a its d r nd h = let l = low x its.1 in omega (arith, l, nd, h)

  neg_safe : (U : ℕ → Type 0) (low : Lo U) (a : Expr ℕ) → Fits c n a U → Sf a U → (m : ℕ) (s : Variables) (A : ℕ → Type 0) (d at next : ℕ) → Kn s U → n ≤ d → Ar d A
      → Spans body at (unless_read (variable_in a) (code c a s d) ++ negated d (standing (variable_in a) d)) next → Comes m next (B s A) → Comes m at (B (before a s) A)
  neg_safe U low a fit is m s A d at next known nd around h exit =
      let w = variable_in a in let x = standing w d in
      let its = variable_its c n a U fit in
      let first = unless_read w (code c a s d) in
      let mid = at + length first in
      let one : Instr = instr.Const (suc d) (scalar.Int (pos 0)) in let two : Instr = instr.Arith d arithmetic.Sub (suc d) x in
      let rest = back body at first (negated d x) next h in
      let last = tail body mid one (Does two ∷ []) next rest in
      let lows = base_low body c n t f s A U d known low nd around in
      let X : ℕ → Type 0 = Stands body c n t f w a d in
      let k = operands_ready body c n t f m (mid + 1) next two (B s A) X (λ r. ⊥) last (λ r b. (less_not r d (lows r b), tt)) (inl refl) (λ r y. inr (inl (stands_at body c n t f w a d r y)))
      (λ r y g. absurd (g.1.1.0 (stands_at body c n t f w a d r y))) (λ r z. z) (λ q z. z)
      (exit.0, sure_less body t f m next (λ r. B s A r ⊎ ⊥) (B s A) (λ r l. either (λ z. z) (λ z. absurd z) l) exit.1) in
      let below : (r : ℕ) → B s A r ⊎ X r → r < suc d = λ r l. either (λ b. let z = lows r b in omega (arith, z)) (λ y. stands_below U low w a its d r nd y) l in
      let live : Lives body t f mid (λ r. B s A r ⊎ X r) = lives_on body t f mid one (λ r. B s A r ⊎ X r) rest.0.0 (λ r l. (less_not r (suc d) (below r l), tt)) (inl refl) k.0 in
      operand_safe body c n t f U low w a its is m s A d at mid known nd around (front body at first (negated d x) next h)
      (live, safe_step body t f m mid one (λ r. B s A r ⊎ X r) (λ r. B s A r ⊎ X r) rest.0.0 live (λ y z. z) (λ r l. either (λ z. z.0) (λ z. absurd z) l) k.1)

  mutual
    -- the code of an expression keeps nothing dead, where what is live behind it is so
    pub code_safe : (e : Expr ℕ) (U : ℕ → Type 0) → Fits c n e U → Lo U → Sf e U
    code_safe (NullExpr i) U fit low m s A d at next known nd around h exit = const_ready body c n t f U low m s A d at next scalar.Null known nd around h (plain_exit m next (B s A) (H (NullExpr i) d) exit)
    code_safe (BoolExpr i truth) U fit low m s A d at next known nd around h exit = const_ready body c n t f U low m s A d at next (scalar.Bool truth) known nd around h (plain_exit m next (B s A) (H (BoolExpr i truth) d) exit)
    code_safe (IntExpr i number) U fit low m s A d at next known nd around h exit = const_ready body c n t f U low m s A d at next (scalar.Int number) known nd around h (plain_exit m next (B s A) (H (IntExpr i number) d) exit)
    code_safe (VarExpr i x) U fit low m s A d at next known nd around h exit =
        let live = code_lives body c n t f (VarExpr i x) U s A d at next fit low nd known around h exit.0 in
        let e : next ≡ at + 1 = (let z = h.1 in omega (arith, z)) in
        (live, var_sure body c n t f U low (has s x) x m s A d at refl h.0.0 live (safe_at body t f m next (at + 1) (λ r. B s A r ⊎ ((r ≡ d) × (false ≡ false))) e exit.1))
    code_safe (CallExpr i g args) U fit low m s A d at next known nd around h exit =
        let last = call (target c.results g) g d (count_of args) in
        codes_safe args U fit.1 low m s A d at (at + length (codes c args s d)) known nd around (front body at (codes c args s d) last next h)
        (call_ready body c n t f U low (target c.results g) fit.0 g (count_of args) m s A d (at + length (codes c args s d)) next known nd around (back body at (codes c args s d) last next h) exit)
    code_safe (NegExpr i a) U fit low m s A d at next known nd around h exit = neg_safe U low a fit (code_safe a U fit low) m s A d at next known nd around h (plain_exit m next (B s A) (H (NegExpr i a) d) exit)
    code_safe (NotExpr i a) U fit low m s A d at next known nd around h exit =
        let w = variable_in a in
        unary_safe body c n t f U low w a (variable_its c n a U fit) (code_safe a U fit low) m s A d at next (instr.Not d (standing w d)) (λ r. ⊥) known nd around h (λ r l. (less_not r d l, tt)) (λ p. inl refl) (inl refl)
        (λ r x g. absurd (g.1.0 (stands_at body c n t f w a d r x))) (λ r P g. g) (λ k p P z. z) (none_exit m next (B s A) (H (NotExpr i a) d) exit)
    code_safe (LenExpr i a) U fit low m s A d at next known nd around h exit =
        let w = read a s in let its = read_its c n a s U fit in
        unary_safe body c n t f U low w a its.0 (code_safe a U fit low) m s A d at next (instr.Len d (standing w d)) (λ r. ⊥) known nd around h (λ r l. (less_not r d l, tt)) (λ p. inl refl) (inl refl)
        (λ r x g. stands_live body c n t f w a s d r (d ∷ []) its.1 (inl refl) x g) (λ r P g. g) (λ k p P z. z) (none_exit m next (B s A) (H (LenExpr i a) d) exit)
    code_safe (FieldExpr i a name) U fit low m s A d at next known nd around h exit =
        let w = read a s in let its = read_its c n a s U fit in
        unary_safe body c n t f U low w a its.0 (code_safe a U fit low) m s A d at next (instr.Field d (standing w d) (number_of name c.table.names)) (H (FieldExpr i a name) d) known nd around h (λ r l. (less_not r d l, tt)) (λ p. inl refl) (inl refl)
        (λ r x g. stands_live body c n t f w a s d r (d ∷ []) its.1 (inl refl) x g) (λ r P g. (g, refl)) (λ k p P z. z) exit
    code_safe (BinaryExpr i o a b) U fit low m s A d at next known nd around h exit =
        binary_safe body c n t f U low i o a b fit.0 (code_safe a U fit.0 low) (code_safe b U fit.1 low) fit.1 m s A d at next known nd around h exit
    code_safe (IsExpr i a ty) U fit low m s A d at next known nd around h exit =
        let w = tested_read ty a s in let its = tested_its c n ty a s U fit in
        let first = unless_read w (code c a s d) in
        let mid = at + length first in
        operand_safe body c n t f U low w a its.0 (code_safe a U fit low) m s A d at mid known nd around (front body at first (tested c ty w d) next h)
        (tested_ready body c n t f U low ty w a m s A d mid next its.1.0 known nd around (back body at first (tested c ty w d) next h) exit)
    code_safe (IndexExpr i a b) U fit low m s A d at next known nd around h exit =
        let w = read a s in let v = variable_in b in let its = read_its c n a s U fit.0 in
        let j : Instr = instr.Get d (standing w d) (standing v (suc d)) in
        pair_safe body c n t f U low w v a b its.0 (variable_its c n b U fit.1) (code_safe a U fit.0 low) (code_safe b U fit.1 low) fit.1 m s A d at next (Does j ∷ []) (inl its.1) known nd around h
        (λ p sp. pair_ready body c n t f U low w v a b m s A d p next j (H (IndexExpr i a b) d) known nd around sp (λ r l. (less_not r d l, tt)) (inl refl) (inl refl) (inr (inl refl))
        (λ r x g. stands_live body c n t f w a s d r (d ∷ []) its.1 (inl refl) x (g.0, tt)) (λ r x g. absurd (g.1.0 (stands_at body c n t f v b (suc d) r x))) (λ r P g. (g, refl)) (λ k P z. z) exit)
    code_safe (RepeatExpr i a b) U fit low m s A d at next known nd around h exit =
        pair_safe body c n t f U low None None a b tt tt (code_safe a U fit.0 low) (code_safe b U fit.1 low) fit.1 m s A d at next (Does (instr.Fill d d (suc d)) ∷ []) (inl tt) known nd around h
        (λ p sp. pair_ready body c n t f U low None None a b m s A d p next (instr.Fill d d (suc d)) (H (RepeatExpr i a b) d) known nd around sp (λ r l. (less_not r d l, (less_not r d l, tt))) (inl refl) (inl refl) (inr (inl refl))
        (λ r x g. absurd (g.0 x.0)) (λ r x g. absurd (g.1.1.0 x.0)) (λ r P g. (g, refl)) (λ k P z. z) exit)
    code_safe (ListExpr i items) U fit low m s A d at next known nd around h exit =
        codes_safe items U fit low m s A d at (at + length (codes c items s d)) known nd around (front body at (codes c items s d) (list (count_of items) d) next h)
        (list_ready body c n t f U low (count_of items) m s A d (at + length (codes c items s d)) next known nd around (back body at (codes c items s d) (list (count_of items) d) next h) exit)
    code_safe (RecordExpr i fs) U fit low m s A d at next known nd around h exit =
        fields_safe fs U fit low m s A d at (at + length (field_codes c fs s d)) known nd around (front body at (field_codes c fs s d) (record_of c fs d) next h)
        (record_ready body c n t f U low (shape_number c.table (names_in fs)) (field_count fs) m s A d (at + length (field_codes c fs s d)) next known nd around (back body at (field_codes c fs s d) (record_of c fs d) next h) exit)
    code_safe (QuantExpr i all x a b inner) U fit low m s A d at next known nd around h exit =
        let T = turned x inner s in
        let low_V = low_more body c n U x low fit.3 in
        let inner_safe : Sf inner (λ r. U r ⊎ (r ≡ x)) = code_safe inner (λ r. U r ⊎ (r ≡ x)) fit.4 low_V in
        pair_safe body c n t f U low None None a b tt tt (code_safe a U fit.0 low) (code_safe b U fit.1 low) fit.1 m T A d at next (quantify all x d (code c inner T (suc (suc d))) (released T s)) (inl tt)
        (turned_known body c n t f U low x fit.2 fit.3 inner fit.4 inner_safe s known) nd around h
        (λ p sp. quantify_ready body c n t f U low x fit.2 fit.3 inner fit.4 inner_safe all (λ r. H a d r ⊎ H b (suc d) r) m s A d p next (λ r k. either (λ z. inl z.0) (λ z. inr z.0) k) known nd around sp
        (plain_exit m next (B s A) (H (QuantExpr i all x a b inner) d) exit))

    pub codes_safe : (es : Exprs ℕ) (U : ℕ → Type 0) → FitAll c n es U → Lo U → SfAll es U
    codes_safe NoExprs U fit low m s A d at next known nd around h exit = ready_at body c n t f m next at (B s A) (sym (ended body at next h)) (ready_less body c n t f m next (B s A) (λ r. B s A r ⊎ Range d 0 r) (λ r l. inl l) exit)
    codes_safe (MoreExprs e es) U fit low m s A d at next known nd around h exit =
        let one = code c e (before_all es s) d in
        let mid = at + length one in
        let A2 : ℕ → Type 0 = λ r. A r ⊎ (r ≡ d) in
        let k = codes_safe es U fit.1 low m s A2 (suc d) mid next known (omega (arith, nd)) (around_more body c n t f d A (λ r. r ≡ d) nd around (λ r z. z)) (back body at one (codes c es s (suc d)) next h)
        (ready_less body c n t f m next (λ r. B s A2 r ⊎ Range (suc d) (count_of es) r) (λ r. B s A r ⊎ Range d (suc (count_of es)) r) (λ r l. first_of_range body c n t f U low s A d (count_of es) r l) exit) in
        code_safe e U fit.0 low m (before_all es s) A d at mid (λ r v. either (λ o. all_used body c n es U fit.1 r o) (λ z. known r z) (all_cases es s r v)) nd around (front body at one (codes c es s (suc d)) next h)
        (more_of_one body c n t f U low (before_all es s) s A e m d mid k)

    pub fields_safe : (fs : Fields ℕ) (U : ℕ → Type 0) → FitFields c n fs U → Lo U → SfFields fs U
    fields_safe NoFields U fit low m s A d at next known nd around h exit = ready_at body c n t f m next at (B s A) (sym (ended body at next h)) (ready_less body c n t f m next (B s A) (λ r. B s A r ⊎ Range d 0 r) (λ r l. inl l) exit)
    fields_safe (MoreFields name e fs) U fit low m s A d at next known nd around h exit =
        let one = code c e (before_fields fs s) d in
        let mid = at + length one in
        let A2 : ℕ → Type 0 = λ r. A r ⊎ (r ≡ d) in
        let k = fields_safe fs U fit.1 low m s A2 (suc d) mid next known (omega (arith, nd)) (around_more body c n t f d A (λ r. r ≡ d) nd around (λ r z. z)) (back body at one (field_codes c fs s (suc d)) next h)
        (ready_less body c n t f m next (λ r. B s A2 r ⊎ Range (suc d) (field_count fs) r) (λ r. B s A r ⊎ Range d (suc (field_count fs)) r) (λ r l. first_of_range body c n t f U low s A d (field_count fs) r l) exit) in
        code_safe e U fit.0 low m (before_fields fs s) A d at mid (λ r v. either (λ o. fields_used body c n fs U fit.1 r o) (λ z. known r z) (fields_cases fs s r v)) nd around (front body at one (field_codes c fs s (suc d)) next h)
        (more_of_one body c n t f U low (before_fields fs s) s A e m d mid k)
