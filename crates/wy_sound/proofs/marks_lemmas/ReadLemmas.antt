-- Expressions, and what is made of them, have a path of uses alone.
use Rattle.std.proofs.Common.{inr, ℕ, Bool, true, false, List, [], ◌∷◌, ◌++◌, Option, Some, None, refl}
use Rattle.wy_assign.proofs.EventLemmas.{Reads, reads-append}
use Rattle.wy_core.specs.CoreTree.{Expr, NullExpr, BoolExpr, IntExpr, VarExpr, CallExpr, NegExpr, NotExpr, LenExpr, BinaryExpr, IsExpr, IndexExpr, FieldExpr, ListExpr, RepeatExpr, RecordExpr, QuantExpr, Exprs, NoExprs, MoreExprs, Fields, NoFields, MoreFields, Step, IndexStep, FieldStep}
use Rattle.wy_assign.specs.Paths.{Event, Uses, Sets, Through, Nothing, One, Then, Maybe, AnyTimes, is_early, ExprPath, ExprsPath, FieldsPath, ClausesPath, OptionPath, StepPath, StepsPath}

pub record Reading (A : Through) : Type 0 where
  pub some : List Event
  pub is_some : A some
  pub reads : Reads some

pub read_nothing : Reading Nothing
read_nothing = record { some = []; is_some = refl; reads = tt }

pub read_one : (at x : ℕ) → Reading (One (Uses at x))
read_one at x = record { some = Uses at x ∷ []; is_some = refl; reads = tt }

pub read_then : (A B : Through) → Reading A → Reading B → Reading (Then A B)
read_then A B a b = record { some = a.some ++ b.some; is_some = (a.some, b.some, refl, a.is_some, b.is_some); reads = reads-append a.some b.some a.reads b.reads }

pub read_maybe : (b : Bool) (A : Through) → Reading A → Reading (Maybe b A)
read_maybe true A a = record { some = a.some; is_some = inr a.is_some; reads = a.reads }
read_maybe false A a = a

-- no turn
pub read_times : (A : Through) → Reading (AnyTimes A)
read_times A = record { some = []; is_some = (0, refl); reads = tt }

mutual
  pub read_expr : (e : Expr ℕ) → Reading (ExprPath e)
  read_expr (NullExpr at) = read_nothing
  read_expr (BoolExpr at truth) = read_nothing
  read_expr (IntExpr at number) = read_nothing
  read_expr (VarExpr at x) = read_one at x
  read_expr (CallExpr at routine args) = read_exprs args
  read_expr (NegExpr at a) = read_expr a
  read_expr (NotExpr at a) = read_expr a
  read_expr (LenExpr at a) = read_expr a
  read_expr (BinaryExpr at o a b) = read_then (ExprPath a) (Maybe (is_early o) (ExprPath b)) (read_expr a) (read_maybe (is_early o) (ExprPath b) (read_expr b))
  read_expr (IsExpr at a ty) = read_expr a
  read_expr (IndexExpr at a b) = read_then (ExprPath a) (ExprPath b) (read_expr a) (read_expr b)
  read_expr (FieldExpr at a name) = read_expr a
  read_expr (ListExpr at items) = read_exprs items
  read_expr (RepeatExpr at a b) = read_then (ExprPath a) (ExprPath b) (read_expr a) (read_expr b)
  read_expr (RecordExpr at fs) = read_fields fs
  read_expr (QuantExpr at all x a b body) =
      let turns = AnyTimes (Then (One (Sets x)) (ExprPath body)) in
      read_then (ExprPath a) (Then (ExprPath b) turns) (read_expr a) (read_then (ExprPath b) turns (read_expr b) (read_times (Then (One (Sets x)) (ExprPath body))))

  pub read_exprs : (es : Exprs ℕ) → Reading (ExprsPath es)
  read_exprs NoExprs = read_nothing
  read_exprs (MoreExprs e es) = read_then (ExprPath e) (ExprsPath es) (read_expr e) (read_exprs es)

  pub read_fields : (fs : Fields ℕ) → Reading (FieldsPath fs)
  read_fields NoFields = read_nothing
  read_fields (MoreFields name e fs) = read_then (ExprPath e) (FieldsPath fs) (read_expr e) (read_fields fs)

pub read_clauses : (es : List (Expr ℕ)) → Reading (ClausesPath es)
read_clauses [] = read_nothing
read_clauses (e ∷ es) = read_then (ExprPath e) (ClausesPath es) (read_expr e) (read_clauses es)

pub read_option : (o : Option (Expr ℕ)) → Reading (OptionPath o)
read_option None = read_nothing
read_option (Some e) = read_expr e

pub read_step : (s : Step ℕ) → Reading (StepPath s)
read_step (IndexStep at e) = read_expr e
read_step (FieldStep at name) = read_nothing

pub read_steps : (ss : List (Step ℕ)) → Reading (StepsPath ss)
read_steps [] = read_nothing
read_steps (s ∷ ss) = read_then (StepPath s) (StepsPath ss) (read_step s) (read_steps ss)
