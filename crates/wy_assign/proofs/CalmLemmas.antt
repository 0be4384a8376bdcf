-- What takes no value away and has a path of uses alone: expressions and what is made of them.
use Rattle.std.proofs.Common.{◌≡◌, ◌⊎◌, inl, inr, ℕ, zero, suc, Bool, true, false, List, [], ◌∷◌, ◌++◌, Option, Some, None, refl, sym, subst}
use Rattle.wy_core.specs.CoreTree.{Expr, NullExpr, BoolExpr, IntExpr, VarExpr, CallExpr, NegExpr, NotExpr, LenExpr, BinaryExpr, IsExpr, IndexExpr, FieldExpr, ListExpr, RepeatExpr, RecordExpr, QuantExpr, Exprs, NoExprs, MoreExprs, Fields, NoFields, MoreFields, Step, IndexStep, FieldStep}
use Rattle.wy_assign.specs.Paths.{Event, Uses, Sets, Unsets, Through, Nothing, One, Then, Maybe, Times, AnyTimes, is_early, ExprPath, ExprsPath, FieldsPath, ClausesPath, OptionPath, StepPath, StepsPath}
use Rattle.wy_assign.proofs.EventLemmas.{Quiet, quiet-append, Reads, reads-append}
use Rattle.wy_lemmas.proofs.Choices.{either}

pub record Calm (A : Through) : Type 0 where
  pub quiet : (p : List Event) → A p → Quiet p
  pub some : List Event
  pub is_some : A some
  pub reads : Reads some

pub calm_nothing : Calm Nothing
calm_nothing = record { quiet = λ p e. subst Quiet (sym e) tt; some = []; is_some = refl; reads = tt }

pub calm_one : (at x : ℕ) → Calm (One (Uses at x))
calm_one at x = record { quiet = λ p e. subst Quiet (sym e) tt; some = Uses at x ∷ []; is_some = refl; reads = tt }

pub then_quiet : (A B : Through) → ((p : List Event) → A p → Quiet p) → ((p : List Event) → B p → Quiet p) → (p : List Event) → Then A B p → Quiet p
then_quiet A B f g p t = subst Quiet (sym t.2) (quiet-append t.0 t.1 (f t.0 t.3) (g t.1 t.4))

pub calm_then : (A B : Through) → Calm A → Calm B → Calm (Then A B)
calm_then A B a b = record {
  quiet = then_quiet A B a.quiet b.quiet;
  some = a.some ++ b.some;
  is_some = (a.some, b.some, refl, a.is_some, b.is_some);
  reads = reads-append a.some b.some a.reads b.reads;
}

pub calm_maybe : (b : Bool) (A : Through) → Calm A → Calm (Maybe b A)
calm_maybe true A a = record {
  quiet = λ p e. either (λ h. subst Quiet (sym h) tt) (λ h. a.quiet p h) e;
  some = a.some;
  is_some = inr a.is_some;
  reads = a.reads;
}
calm_maybe false A a = a

times_quiet : (n : ℕ) (A : Through) → ((p : List Event) → A p → Quiet p) → (p : List Event) → Times n A p → Quiet p
times_quiet zero A f p e = subst Quiet (sym e) tt
times_quiet (suc n) A f p t = subst Quiet (sym t.2) (quiet-append t.0 t.1 (f t.0 t.3) (times_quiet n A f t.1 t.4))

pub calm_times : (A : Through) → ((p : List Event) → A p → Quiet p) → Calm (AnyTimes A)
calm_times A f = record { quiet = λ p t. times_quiet t.0 A f p t.1; some = []; is_some = (0, refl); reads = tt }

pub set_quiet : (x : ℕ) (p : List Event) → One (Sets x) p → Quiet p
set_quiet x p e = subst Quiet (sym e) tt

mutual
  pub calm_expr : (e : Expr ℕ) → Calm (ExprPath e)
  calm_expr (NullExpr at) = calm_nothing
  calm_expr (BoolExpr at truth) = calm_nothing
  calm_expr (IntExpr at number) = calm_nothing
  calm_expr (VarExpr at x) = calm_one at x
  calm_expr (CallExpr at routine args) = calm_exprs args
  calm_expr (NegExpr at a) = calm_expr a
  calm_expr (NotExpr at a) = calm_expr a
  calm_expr (LenExpr at a) = calm_expr a
  calm_expr (BinaryExpr at o a b) = calm_then (ExprPath a) (Maybe (is_early o) (ExprPath b)) (calm_expr a) (calm_maybe (is_early o) (ExprPath b) (calm_expr b))
  calm_expr (IsExpr at a ty) = calm_expr a
  calm_expr (IndexExpr at a b) = calm_then (ExprPath a) (ExprPath b) (calm_expr a) (calm_expr b)
  calm_expr (FieldExpr at a name) = calm_expr a
  calm_expr (ListExpr at items) = calm_exprs items
  calm_expr (RepeatExpr at a b) = calm_then (ExprPath a) (ExprPath b) (calm_expr a) (calm_expr b)
  calm_expr (RecordExpr at fs) = calm_fields fs
  calm_expr (QuantExpr at all x a b body) =
      let turn = Then (One (Sets x)) (ExprPath body) in
      calm_then (ExprPath a) (Then (ExprPath b) (AnyTimes turn)) (calm_expr a)
      (calm_then (ExprPath b) (AnyTimes turn) (calm_expr b) (calm_times turn (then_quiet (One (Sets x)) (ExprPath body) (set_quiet x) (calm_expr body).quiet)))

  pub calm_exprs : (es : Exprs ℕ) → Calm (ExprsPath es)
  calm_exprs NoExprs = calm_nothing
  calm_exprs (MoreExprs e es) = calm_then (ExprPath e) (ExprsPath es) (calm_expr e) (calm_exprs es)

  pub calm_fields : (fs : Fields ℕ) → Calm (FieldsPath fs)
  calm_fields NoFields = calm_nothing
  calm_fields (MoreFields name e fs) = calm_then (ExprPath e) (FieldsPath fs) (calm_expr e) (calm_fields fs)

pub calm_clauses : (es : List (Expr ℕ)) → Calm (ClausesPath es)
calm_clauses [] = calm_nothing
calm_clauses (e ∷ es) = calm_then (ExprPath e) (ClausesPath es) (calm_expr e) (calm_clauses es)

pub calm_option : (o : Option (Expr ℕ)) → Calm (OptionPath o)
calm_option None = calm_nothing
calm_option (Some e) = calm_expr e

pub calm_step : (s : Step ℕ) → Calm (StepPath s)
calm_step (IndexStep at e) = calm_expr e
calm_step (FieldStep at name) = calm_nothing

pub calm_steps : (ss : List (Step ℕ)) → Calm (StepsPath ss)
calm_steps [] = calm_nothing
calm_steps (s ∷ ss) = calm_then (StepPath s) (StepsPath ss) (calm_step s) (calm_steps ss)
