-- An expression of which no path uses a variable without a value, and which is well made but for variables, is so with its variables.
use Rattle.std.proofs.Common.{◌≡◌, ℕ, Bool, true, false, cond, ◌==◌, eqb-true, List, [], ◌∷◌, refl, sym, ap, ◌∙◌, subst}
use Rattle.wy_core.specs.CoreTree.{Expr, NullExpr, BoolExpr, IntExpr, VarExpr, CallExpr, NegExpr, NotExpr, LenExpr, BinaryExpr, IsExpr, IndexExpr, FieldExpr, ListExpr, RepeatExpr, RecordExpr, QuantExpr, Exprs, NoExprs, MoreExprs, Fields, NoFields, MoreFields}
use Rattle.wy_assign.specs.Paths.{Sets, One, Then, Maybe, AnyTimes, is_early, ExprPath, ExprsPath, FieldsPath, ClausesPath}
use Rattle.wy_lemmas.proofs.Choices.{eqb_self, or_false as both_false, false_true as never, given}
use Rattle.wy_sound_programs.specs.wy_sound_kinds.Ready.{Rules, with_one, Ready, AllReady, FieldsReady}
use Rattle.wy_sound_programs.specs.wy_sound_kinds.fits.Fit.{ClausesReady}
use Rattle.wy_sound.proofs.marks_lemmas.ReadLemmas.{read_expr, read_exprs, read_fields, read_clauses, read_maybe, read_then, read_times}
use Rattle.wy_sound.proofs.marks_lemmas.UseLemmas.{NoUse, then_first, then_second, maybe_all, turn_all, one_set}

-- a variable that isn't marked has no value
abbrev pub Unmarked : (ℕ → Bool) → (ℕ → Bool) → Type 0
Unmarked u seen = (x : ℕ) → seen x ≡ false → u x ≡ true

-- ---- the variable of a quantifier

apart_back : (x y : ℕ) → (x == y) ≡ false → (y == x) ≡ false
apart_back x y e = by (y == x) refl where
  by : (b : Bool) → (y == x) ≡ b → b ≡ false
  by true q = never (sym e ∙ subst (λ (z : ℕ). (x == z) ≡ true) (sym (eqb-true y x q)) (eqb_self x))
  by false q = refl

pub unmarked_one : (u seen : ℕ → Bool) (y : ℕ) → Unmarked u seen → Unmarked (given u y) (with_one y seen)
unmarked_one u seen y h x e =
    let t = both_false (y == x) (seen x) e in
    ap (λ (b : Bool). cond b false (u x)) (apart_back y x t.0) ∙ h x t.1

-- ---- expressions

pub seen_of : (u seen : ℕ → Bool) (x : ℕ) → Unmarked u seen → (u x ≡ true → ⊥) → seen x ≡ true
seen_of u seen x h n = by (seen x) refl where
  by : (b : Bool) → seen x ≡ b → b ≡ true
  by true q = refl
  by false q = absurd (n (h x q))

module _ (r : Rules) (n : ℕ) where
  mutual
    pub marked : (e : Expr ℕ) (q : Bool) (all seen u : ℕ → Bool) → Unmarked u seen → NoUse (ExprPath e) u → Ready r q n all e → Ready r q n seen e
    marked (NullExpr at) q all seen u h c m = tt
    marked (BoolExpr at truth) q all seen u h c m = tt
    marked (IntExpr at number) q all seen u h c m = m
    marked (VarExpr at x) q all seen u h c m = seen_of u seen x h (one_set u at x c)
    marked (CallExpr at routine args) q all seen u h c m = (m.0, m.1, exprs_marked args q all seen u h c m.2)
    marked (NegExpr at a) q all seen u h c m = marked a q all seen u h c m
    marked (NotExpr at a) q all seen u h c m = marked a q all seen u h c m
    marked (LenExpr at a) q all seen u h c m = marked a q all seen u h c m
    marked (BinaryExpr at o a b) q all seen u h c m =
        let B = Maybe (is_early o) (ExprPath b) in (
          marked a q all seen u h (then_first (ExprPath a) B u (read_maybe (is_early o) (ExprPath b) (read_expr b)) c) m.0,
          marked b q all seen u h (maybe_all (is_early o) (ExprPath b) u (then_second (ExprPath a) B u (read_expr a) c)) m.1,
        )
    marked (IsExpr at a ty) q all seen u h c m = (m.0, marked a q all seen u h c m.1)
    marked (IndexExpr at a b) q all seen u h c m =
        (marked a q all seen u h (then_first (ExprPath a) (ExprPath b) u (read_expr b) c) m.0, marked b q all seen u h (then_second (ExprPath a) (ExprPath b) u (read_expr a) c) m.1)
    marked (FieldExpr at a name) q all seen u h c m = marked a q all seen u h c m
    marked (ListExpr at items) q all seen u h c m = (m.0, exprs_marked items q all seen u h c m.1)
    marked (RepeatExpr at a b) q all seen u h c m =
        (marked a q all seen u h (then_first (ExprPath a) (ExprPath b) u (read_expr b) c) m.0, marked b q all seen u h (then_second (ExprPath a) (ExprPath b) u (read_expr a) c) m.1)
    marked (RecordExpr at fs) q all seen u h c m = (m.0, fields_marked fs q all seen u h c m.1)
    marked (QuantExpr at all_of x a b body) q all seen u h c m =
        let T = AnyTimes (Then (One (Sets x)) (ExprPath body)) in
        let rt = read_times (Then (One (Sets x)) (ExprPath body)) in
        let rest = then_second (ExprPath a) (Then (ExprPath b) T) u (read_expr a) c in (
          m.0,
          marked a q all seen u h (then_first (ExprPath a) (Then (ExprPath b) T) u (read_then (ExprPath b) T (read_expr b) rt) c) m.1,
          marked b q all seen u h (then_first (ExprPath b) T u rt rest) m.2,
          marked body true (with_one x all) (with_one x seen) (given u x) (unmarked_one u seen x h) (turn_all (ExprPath body) u x (then_second (ExprPath b) T u (read_expr b) rest)) m.3,
        )

    pub exprs_marked : (es : Exprs ℕ) (q : Bool) (all seen u : ℕ → Bool) → Unmarked u seen → NoUse (ExprsPath es) u → AllReady r q n all es → AllReady r q n seen es
    exprs_marked NoExprs q all seen u h c m = tt
    exprs_marked (MoreExprs e es) q all seen u h c m =
        (marked e q all seen u h (then_first (ExprPath e) (ExprsPath es) u (read_exprs es) c) m.0, exprs_marked es q all seen u h (then_second (ExprPath e) (ExprsPath es) u (read_expr e) c) m.1)

    pub fields_marked : (fs : Fields ℕ) (q : Bool) (all seen u : ℕ → Bool) → Unmarked u seen → NoUse (FieldsPath fs) u → FieldsReady r q n all fs → FieldsReady r q n seen fs
    fields_marked NoFields q all seen u h c m = tt
    fields_marked (MoreFields name e fs) q all seen u h c m =
        (marked e q all seen u h (then_first (ExprPath e) (FieldsPath fs) u (read_fields fs) c) m.0, fields_marked fs q all seen u h (then_second (ExprPath e) (FieldsPath fs) u (read_expr e) c) m.1)

  pub clauses_marked : (es : List (Expr ℕ)) (all seen u : ℕ → Bool) → Unmarked u seen → NoUse (ClausesPath es) u → ClausesReady r n all es → ClausesReady r n seen es
  clauses_marked [] all seen u h c m = tt
  clauses_marked (e ∷ es) all seen u h c m =
      (marked e true all seen u h (then_first (ExprPath e) (ClausesPath es) u (read_clauses es) c) m.0, clauses_marked es all seen u h (then_second (ExprPath e) (ClausesPath es) u (read_expr e) c) m.1)
