-- What an evaluation meets is of the kinds that it asks for: variables have values, operands are of the kinds of their operators, and `is` tests answer as types say.
use Rattle.std.specs.Prelude.{◌≡◌, ℕ, List, Bool, true, false, ◌&&◌, Some, ℤ, int_le, int_lt}
use Rattle.wy_value.specs.Datum.{Datum, Truth, Whole}
use Rattle.wy_core.specs.Types.{Ty}
use Rattle.wy_core.specs.CoreTree.{Expr, NullExpr, BoolExpr, IntExpr, VarExpr, CallExpr, NegExpr, NotExpr, LenExpr, BinaryExpr, IsExpr, IndexExpr, FieldExpr, ListExpr, RepeatExpr, RecordExpr, QuantExpr, Exprs, NoExprs, MoreExprs, Fields, NoFields, MoreFields}
use Rattle.wy_core.specs.declared.expressions.Op.{Op}
use Rattle.wy_core.specs.declared.expressions.Op.TheVariants.{Add, Sub, Mul, Div, Mod, Equal, Less, LessEqual, Greater, GreaterEqual, And, Or}
use Rattle.wy_sound_terms.specs.wy_sem.Meter.{Meter, Outcome, Done, Fault, More, Spent}
use Rattle.wy_sound_terms.specs.wy_sem.Expressions.{Store, slot, put, Setting, node, eval, eval_all}
use Rattle.wy_sound_walks.specs.expressions.Names.{also}
use Rattle.wy_sound_walks.specs.expressions.Written.{IsWritten}
use Rattle.wy_sound_terms.specs.operations.Kinds.{IsWhole, IsTruth, IsArray, HasField, Takes}

-- what evaluations rest on: their setting, whether nodes are paid, which nodes are known to be numbers, what a type says of a datum, and which arguments a call takes
pub record Kinds (N : Type 0) : Type 1 where
  pub setting : Setting N
  pub paid : Bool
  pub is_number : N → Bool
  pub says : Ty → Datum → Bool
  pub takes : ℕ → List Datum → Type 0

-- each answer to a datum has the property
abbrev pub Each : {N : Type 0} → Kinds N → Expr N → Store → (Datum → Type 0) → Type 0
Each w e s P = (d : Datum) (m k : Meter) → eval w.setting w.paid e s m ≡ Done d k → P d

-- a test is no fault, and its answer is this one
abbrev pub Answers : Bool → Outcome Bool → Type 0
Answers b (Done c m) = c ≡ b
Answers b (Fault kind at m) = ⊥
Answers b (More m) = Unit {0}
Answers b Spent = Unit {0}

-- the left operand: `&&` and `||` take a truth value
abbrev pub TakesLeft : Op → Datum → Type 0
TakesLeft And d = IsTruth d
TakesLeft Or d = IsTruth d
TakesLeft o d = Unit {0}

-- behind this left operand the right one is evaluated
abbrev pub GoesOn : Op → Datum → Type 0
GoesOn And d = d ≡ Truth true
GoesOn Or d = d ≡ Truth false
GoesOn o d = Unit {0}

-- the number lies from the one bound on and below the other
pub record IsBetween {N : Type 0} (w : Kinds N) (a b : Expr N) (s : Store) (i : ℤ) : Type 0 where
  pub low : ℤ
  pub high : ℤ
  pub first : Meter
  pub second : Meter
  pub third : Meter
  pub left : eval w.setting w.paid a s first ≡ Done (Whole low) second
  pub right : eval w.setting w.paid b s second ≡ Done (Whole high) third
  pub from : int_le low i ≡ true
  pub below : int_lt i high ≡ true

abbrev mutual
  -- whether nothing is called, the first says; and which variables may be used, the second
  pub Suits : {N : Type 0} → Kinds N → Bool → (ℕ → Bool) → Expr N → Store → Type 0
  Suits w q seen (NullExpr n) s = Unit {0}
  Suits w q seen (BoolExpr n b) s = Unit {0}
  Suits w q seen (IntExpr n z) s = Unit {0}
  Suits w q seen (VarExpr n x) s = (seen x ≡ true) × ((d : Datum) × (slot s x ≡ Some d))
  Suits w q seen (CallExpr n f es) s = (q ≡ false) × AllSuit w q seen es s × ((vs : List Datum) (m k : Meter) → eval_all w.setting w.paid es s m ≡ Done vs k → w.takes f vs)
  Suits w q seen (NegExpr n a) s = Suits w q seen a s × Each w a s IsWhole
  Suits w q seen (NotExpr n a) s = Suits w q seen a s × Each w a s IsTruth
  Suits w q seen (LenExpr n a) s = Suits w q seen a s × Each w a s IsArray
  Suits w q seen (BinaryExpr n o a b) s =
      Suits w q seen a s × Each w a s (TakesLeft o) × Each w a s (λ d. GoesOn o d → Suits w q seen b s × Each w b s (λ e. Takes o (w.is_number (node a) && w.is_number (node b)) d e))
  Suits w q seen (IsExpr n a t) s = IsWritten t × Suits w q seen a s × Each w a s (λ d. (m : Meter) → Answers (w.says t d) (w.setting.test w.paid t d m))
  Suits w q seen (IndexExpr n a i) s = Suits w q seen a s × Suits w q seen i s × Each w a s IsArray × Each w i s IsWhole
  Suits w q seen (FieldExpr n a name) s = Suits w q seen a s × Each w a s (HasField name)
  Suits w q seen (ListExpr n es) s = AllSuit w q seen es s
  Suits w q seen (RepeatExpr n a c) s = Suits w q seen a s × Suits w q seen c s × Each w c s IsWhole
  Suits w q seen (RecordExpr n fs) s = FieldsSuit w q seen fs s
  Suits w q seen (QuantExpr n all x a b body) s =
      Suits w q seen a s × Suits w q seen b s × Each w a s IsWhole × Each w b s IsWhole
      × ((i : ℤ) → IsBetween w a b s i → Suits w true (also x seen) body (put s x (Some (Whole i))) × Each w body (put s x (Some (Whole i))) IsTruth)

  pub AllSuit : {N : Type 0} → Kinds N → Bool → (ℕ → Bool) → Exprs N → Store → Type 0
  AllSuit w q seen NoExprs s = Unit {0}
  AllSuit w q seen (MoreExprs e es) s = Suits w q seen e s × AllSuit w q seen es s

  pub FieldsSuit : {N : Type 0} → Kinds N → Bool → (ℕ → Bool) → Fields N → Store → Type 0
  FieldsSuit w q seen NoFields s = Unit {0}
  FieldsSuit w q seen (MoreFields name e es) s = Suits w q seen e s × FieldsSuit w q seen es s
