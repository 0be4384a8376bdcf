-- Operands that are variables, which are read in their registers.
use Rattle.std.proofs.Common.{◌≡◌, ◌≢◌, ◌<◌, ◌⊎◌, inl, inr, ℕ, Bool, true, false, cond, Option, Some, None, refl, sym, ◌∙◌}
use Rattle.wy_core.specs.CoreTree.{Expr, NullExpr, BoolExpr, IntExpr, VarExpr, CallExpr, NegExpr, NotExpr, LenExpr, BinaryExpr, IsExpr, IndexExpr, FieldExpr, ListExpr, RepeatExpr, RecordExpr, QuantExpr}
use Rattle.wy_core.specs.Types.{Ty}
use Rattle.wy_lemmas.proofs.Choices.{same_of, false_true as never}
use Rattle.wy_lemmas.proofs.Options.{some_number_is as same_some}
use Rattle.wy_gen_laws.specs.wy_code_spec.declared.tables.context.Context.{Context}
use Rattle.wy_live.specs.Paths.{occurs}
use Rattle.wy_live.specs.Sets.{Variables, has}
use Rattle.wy_gen_laws.specs.wy_code_spec.compiled.Operands.{variable_in, is_still, read, read_first, standing, unless_read, plain_or_read}
use Rattle.wy_gen_laws.specs.wy_code_spec.compiled.TypeTests.{looks}
use Rattle.wy_gen_laws.specs.wy_code_spec.compiled.Expressions.{tested_read, code}
use Rattle.wy_gen_sources.specs.code.Fitting.{Fits}
use Rattle.wy_gen_sources.proofs.code_lemmas.PieceLemmas.{less_not}
use Rattle.wy_gen_sources.proofs.code_lemmas.SetLemmas.{Vars}

-- what is read in its register is the variable that the operand is, one of these
abbrev pub IsIts : (ℕ → Type 0) → Option ℕ → Expr ℕ → Type 0
IsIts U None a = Unit {0}
IsIts U (Some x) a = (variable_in a ≡ Some x) × U x

-- it is live there
abbrev pub IsLiveIn : Option ℕ → Variables → Type 0
IsLiveIn None s = Unit {0}
IsLiveIn (Some x) s = Vars s x

-- the test of this type begins with a look at it
abbrev pub IsLooked : Option ℕ → Ty → Type 0
IsLooked None ty = Unit {0}
IsLooked (Some x) ty = looks ty ≡ true

looked_at : (w : Option ℕ) (ty : Ty) → looks ty ≡ true → IsLooked w ty
looked_at None ty e = tt
looked_at (Some x) ty e = e

-- a variable is all that occurs in it
pub variable_occurs : (a : Expr ℕ) (x r : ℕ) → variable_in a ≡ Some x → occurs a r ≡ true → r ≡ x
variable_occurs (NullExpr at) x r e h = never h
variable_occurs (BoolExpr at truth) x r e h = never h
variable_occurs (IntExpr at number) x r e h = never h
variable_occurs (VarExpr at y) x r e h = same_of r y h ∙ same_some y x e
variable_occurs (CallExpr at g args) x r e h = cc
variable_occurs (NegExpr at a) x r e h = cc
variable_occurs (NotExpr at a) x r e h = cc
variable_occurs (LenExpr at a) x r e h = cc
variable_occurs (BinaryExpr at o a b) x r e h = cc
variable_occurs (IsExpr at a ty) x r e h = cc
variable_occurs (IndexExpr at a b) x r e h = cc
variable_occurs (FieldExpr at a name) x r e h = cc
variable_occurs (ListExpr at items) x r e h = cc
variable_occurs (RepeatExpr at a b) x r e h = cc
variable_occurs (RecordExpr at fs) x r e h = cc
variable_occurs (QuantExpr at all y a b body) x r e h = cc

-- what is released behind an equation is the register of a value, so none below
pub release_apart : (v : Option ℕ) (plain : Bool) (d q : ℕ) → q < d → plain_or_read v plain ≡ false → q ≢ standing v d
release_apart None plain d q l e = less_not q d l
release_apart (Some y) plain d q l e = never (sym e)

module _ (c : Context) (n : ℕ) where
  -- the code of the operand is the same, whatever is live behind it
  abbrev pub Still : Option ℕ → Expr ℕ → Variables → Type 0
  Still v b s = (t : Variables) (d : ℕ) → unless_read v (code c b s d) ≡ unless_read v (code c b t d)

  -- a first operand that is read in its register stays there while the second one is evaluated
  abbrev pub Waits : Option ℕ → Option ℕ → Expr ℕ → Variables → Type 0
  Waits w v b s = IsLiveIn w s ⊎ Still v b s

  pub variable_its : (a : Expr ℕ) (U : ℕ → Type 0) → Fits c n a U → IsIts U (variable_in a) a
  variable_its (NullExpr at) U fit = tt
  variable_its (BoolExpr at truth) U fit = tt
  variable_its (IntExpr at number) U fit = tt
  variable_its (VarExpr at x) U fit = (refl, fit)
  variable_its (CallExpr at g args) U fit = tt
  variable_its (NegExpr at a) U fit = tt
  variable_its (NotExpr at a) U fit = tt
  variable_its (LenExpr at a) U fit = tt
  variable_its (BinaryExpr at o a b) U fit = tt
  variable_its (IsExpr at a ty) U fit = tt
  variable_its (IndexExpr at a b) U fit = tt
  variable_its (FieldExpr at a name) U fit = tt
  variable_its (ListExpr at items) U fit = tt
  variable_its (RepeatExpr at a b) U fit = tt
  variable_its (RecordExpr at fs) U fit = tt
  variable_its (QuantExpr at all x a b body) U fit = tt

  live_its : (b : Bool) (at x : ℕ) (s : Variables) (U : ℕ → Type 0) → has s x ≡ b → U x → IsIts U (cond b (Some x) None) (VarExpr at x) × IsLiveIn (cond b (Some x) None) s
  live_its true at x s U e fit = ((refl, fit), e)
  live_its false at x s U e fit = (tt, tt)

  pub read_its : (a : Expr ℕ) (s : Variables) (U : ℕ → Type 0) → Fits c n a U → IsIts U (read a s) a × IsLiveIn (read a s) s
  read_its (NullExpr at) s U fit = (tt, tt)
  read_its (BoolExpr at truth) s U fit = (tt, tt)
  read_its (IntExpr at number) s U fit = (tt, tt)
  read_its (VarExpr at x) s U fit = live_its (has s x) at x s U refl fit
  read_its (CallExpr at g args) s U fit = (tt, tt)
  read_its (NegExpr at a) s U fit = (tt, tt)
  read_its (NotExpr at a) s U fit = (tt, tt)
  read_its (LenExpr at a) s U fit = (tt, tt)
  read_its (BinaryExpr at o a b) s U fit = (tt, tt)
  read_its (IsExpr at a ty) s U fit = (tt, tt)
  read_its (IndexExpr at a b) s U fit = (tt, tt)
  read_its (FieldExpr at a name) s U fit = (tt, tt)
  read_its (ListExpr at items) s U fit = (tt, tt)
  read_its (RepeatExpr at a b) s U fit = (tt, tt)
  read_its (RecordExpr at fs) s U fit = (tt, tt)
  read_its (QuantExpr at all x a b body) s U fit = (tt, tt)

  still_code : (b : Expr ℕ) (s : Variables) → is_still b ≡ true → Still (variable_in b) b s
  still_code (NullExpr at) s e t d = never e
  still_code (BoolExpr at truth) s e t d = never e
  still_code (IntExpr at number) s e t d = refl
  still_code (VarExpr at x) s e t d = refl
  still_code (CallExpr at g args) s e t d = never e
  still_code (NegExpr at a) s e t d = never e
  still_code (NotExpr at a) s e t d = never e
  still_code (LenExpr at a) s e t d = never e
  still_code (BinaryExpr at o a b) s e t d = never e
  still_code (IsExpr at a ty) s e t d = never e
  still_code (IndexExpr at a b) s e t d = never e
  still_code (FieldExpr at a name) s e t d = never e
  still_code (ListExpr at items) s e t d = never e
  still_code (RepeatExpr at a b) s e t d = never e
  still_code (RecordExpr at fs) s e t d = never e
  still_code (QuantExpr at all x a b body) s e t d = never e

  first_by : (still : Bool) (a b : Expr ℕ) (s : Variables) (U : ℕ → Type 0) → is_still b ≡ still → Fits c n a U
      → IsIts U (cond still (variable_in a) (read a s)) a × Waits (cond still (variable_in a) (read a s)) (variable_in b) b s
  first_by true a b s U e fit = (variable_its a U fit, inr (still_code b s e))
  first_by false a b s U e fit = let k = read_its a s U fit in (k.0, inl k.1)

  pub first_its : (a b : Expr ℕ) (s : Variables) (U : ℕ → Type 0) → Fits c n a U → IsIts U (read_first a b s) a × Waits (read_first a b s) (variable_in b) b s
  first_its a b s U fit = first_by (is_still b) a b s U refl fit

  tested_by : (look : Bool) (ty : Ty) (a : Expr ℕ) (s : Variables) (U : ℕ → Type 0) → looks ty ≡ look → Fits c n a U
      → IsIts U (cond look (read a s) None) a × (IsLiveIn (cond look (read a s) None) s × IsLooked (cond look (read a s) None) ty)
  tested_by true ty a s U e fit = let k = read_its a s U fit in (k.0, (k.1, looked_at (read a s) ty e))
  tested_by false ty a s U e fit = (tt, (tt, tt))

  pub tested_its : (ty : Ty) (a : Expr ℕ) (s : Variables) (U : ℕ → Type 0) → Fits c n a U → IsIts U (tested_read ty a s) a × (IsLiveIn (tested_read ty a s) s × IsLooked (tested_read ty a s) ty)
  tested_its ty a s U fit = tested_by (looks ty) ty a s U refl fit
