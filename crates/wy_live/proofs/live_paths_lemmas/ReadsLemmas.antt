-- An expression's paths use a variable exactly where the variable occurs in it.
use Rattle.std.proofs.Common.{◌≡◌, ◌⊎◌, inr, ℕ, zero, suc, Bool, true, false, not, ◌&&◌, ◌||◌, ◌==◌, List, [], ◌∷◌, ◌++◌, refl, sym, ap, ◌∙◌}
use Rattle.wy_core.specs.CoreTree.{Expr, NullExpr, BoolExpr, IntExpr, VarExpr, CallExpr, NegExpr, NotExpr, LenExpr, BinaryExpr, IsExpr, IndexExpr, FieldExpr, ListExpr, RepeatExpr, RecordExpr, QuantExpr, Exprs, NoExprs, MoreExprs, Fields, NoFields, MoreFields, Step, IndexStep, FieldStep}
use Rattle.wy_core.specs.declared.expressions.Op.{Op}
use Rattle.wy_core.specs.declared.expressions.Op.TheVariants as op
use Rattle.wy_lemmas.proofs.Choices.{or_cases, or_left, or_right, false_true as never, either}
use Rattle.wy_live.specs.Paths.{occurs, any_occurs, any_field_occurs, step_occurs, any_step_occurs}
use Rattle.wy_live.specs.live_paths.Events.{uses, sets, Path, uses_first, Then}
use Rattle.wy_live.specs.live_paths.Through.{Right, QuantTurns, AnyTurns, Through, ThroughAll, ThroughFields, ThroughStep, ThroughSteps}
use Rattle.wy_live.proofs.live_paths_lemmas.BoolLemmas.{or_false, not_both, not_parts}
use Rattle.wy_live.proofs.live_paths_lemmas.EventLemmas.{passes, first_here, first_behind, first_cases, passes_both}

-- some of these paths uses the variable first exactly where it occurs, and some path assigns nothing
pub record Reads (occur : ℕ → Bool) (through : Path → Type 0) : Type 0 where
  pub only : (x : ℕ) (es : Path) → through es → uses_first x es ≡ true → occur x ≡ true
  pub found : (x : ℕ) → occur x ≡ true → (es : Path) × through es × (uses_first x es ≡ true)
  pub quiet : (es : Path) × through es × ((x : ℕ) → passes x es ≡ true)

pub empty_first : {A : Type 0} (x : ℕ) (es : Path) → es ≡ [] → uses_first x es ≡ true → A
empty_first x es e f = never (sym (ap (uses_first x) e) ∙ f)

pub reads_none : Reads (λ x. false) (λ es. es ≡ [])
reads_none = record { only = λ x es e f. empty_first x es e f; found = λ x f. never f; quiet = ([], refl, λ x. refl) }

pub reads_one : (y : ℕ) → Reads (λ x. x == y) (λ es. es ≡ uses y ∷ [])
reads_one y = record {
  only = λ x es e f. or_false (x == y) (sym (ap (uses_first x) e) ∙ f);
  found = λ x f. (uses y ∷ [], refl, or_left (x == y) false f);
  quiet = (uses y ∷ [], refl, λ x. refl);
}

pub reads_then : (o n : ℕ → Bool) (P Q : Path → Type 0) → Reads o P → Reads n Q → Reads (λ x. o x || n x) (Then P Q)
reads_then o n P Q r s = record {
  only = λ x es t f. either (λ u. or_left (o x) (n x) (r.only x t.0 t.3 u)) (λ z. or_right (o x) (n x) (s.only x t.1 t.4 z.1)) (first_cases x t.0 t.1 (sym (ap (uses_first x) t.2) ∙ f));
  found = λ x f. either
      (λ u. let a = r.found x u in let b = s.quiet in (a.0 ++ b.0, (a.0, b.0, refl, a.1, b.1), first_here x a.0 b.0 a.2))
      (λ u. let a = r.quiet in let b = s.found x u in (a.0 ++ b.0, (a.0, b.0, refl, a.1, b.1), first_behind x a.0 b.0 (a.2 x) b.2)) (or_cases (o x) (n x) f);
  quiet = let a = r.quiet in let b = s.quiet in (a.0 ++ b.0, (a.0, b.0, refl, a.1, b.1), λ x. passes_both x a.0 b.0 (a.2 x) (b.2 x));
}

reads_maybe : (o : ℕ → Bool) (P : Path → Type 0) → Reads o P → Reads o (λ es. (es ≡ []) ⊎ P es)
reads_maybe o P r = record {
  only = λ x es t f. either (λ e. empty_first x es e f) (λ a. r.only x es a f) t;
  found = λ x f. let a = r.found x f in (a.0, inr a.1, a.2);
  quiet = let a = r.quiet in (a.0, inr a.1, a.2);
}

pub reads_right : (o : Op) (occur : ℕ → Bool) (P : Path → Type 0) → Reads occur P → Reads occur (Right o P)
reads_right op.Add occur P r = r
reads_right op.Sub occur P r = r
reads_right op.Mul occur P r = r
reads_right op.Div occur P r = r
reads_right op.Mod occur P r = r
reads_right op.Equal occur P r = r
reads_right op.Less occur P r = r
reads_right op.LessEqual occur P r = r
reads_right op.Greater occur P r = r
reads_right op.GreaterEqual occur P r = r
reads_right op.And occur P r = reads_maybe occur P r
reads_right op.Or occur P r = reads_maybe occur P r

turns_only : (y : ℕ) (o : ℕ → Bool) (P : Path → Type 0) → Reads o P → (n : ℕ) (x : ℕ) (es : Path) → QuantTurns n y P es → uses_first x es ≡ true → (not (x == y) && o x) ≡ true
turns_only y o P r zero x es t f = empty_first x es t f
turns_only y o P r (suc n) x es t f =
    let g = not_parts (x == y) (uses_first x (t.0 ++ t.1)) (sym (ap (uses_first x) t.2) ∙ f) in
    either (λ u. not_both (x == y) (o x) g.0 (r.only x t.0 t.3 u)) (λ z. turns_only y o P r n x t.1 t.4 z.1) (first_cases x t.0 t.1 g.1)

turns_found : (y : ℕ) (o : ℕ → Bool) (P : Path → Type 0) → Reads o P → (x : ℕ) → (not (x == y) && o x) ≡ true → (es : Path) × AnyTurns y P es × (uses_first x es ≡ true)
turns_found y o P r x f =
    let g = not_parts (x == y) (o x) f in let a = r.found x g.1 in
    (sets y ∷ (a.0 ++ []), (1, (a.0, [], refl, a.1, refl)), not_both (x == y) (uses_first x (a.0 ++ [])) g.0 (first_here x a.0 [] a.2))

pub reads_turns : (y : ℕ) (o : ℕ → Bool) (P : Path → Type 0) → Reads o P → Reads (λ x. not (x == y) && o x) (AnyTurns y P)
reads_turns y o P r = record {
  only = λ x es t f. turns_only y o P r t.0 x es t.1 f;
  found = λ x f. turns_found y o P r x f;
  quiet = ([], (0, refl), λ x. refl);
}

mutual
  pub expr_reads : (e : Expr ℕ) → Reads (occurs e) (Through e)
  expr_reads (NullExpr at) = reads_none
  expr_reads (BoolExpr at truth) = reads_none
  expr_reads (IntExpr at number) = reads_none
  expr_reads (VarExpr at y) = reads_one y
  expr_reads (CallExpr at routine args) = exprs_reads args
  expr_reads (NegExpr at a) = expr_reads a
  expr_reads (NotExpr at a) = expr_reads a
  expr_reads (LenExpr at a) = expr_reads a
  expr_reads (BinaryExpr at o a b) = reads_then (occurs a) (occurs b) (Through a) (Right o (Through b)) (expr_reads a) (reads_right o (occurs b) (Through b) (expr_reads b))
  expr_reads (IsExpr at a ty) = expr_reads a
  expr_reads (IndexExpr at a b) = reads_then (occurs a) (occurs b) (Through a) (Through b) (expr_reads a) (expr_reads b)
  expr_reads (FieldExpr at a name) = expr_reads a
  expr_reads (ListExpr at items) = exprs_reads items
  expr_reads (RepeatExpr at a b) = reads_then (occurs a) (occurs b) (Through a) (Through b) (expr_reads a) (expr_reads b)
  expr_reads (RecordExpr at fs) = fields_reads fs
  expr_reads (QuantExpr at all y a b body) =
      reads_then (occurs a) (λ x. occurs b x || (not (x == y) && occurs body x)) (Through a) (Then (Through b) (AnyTurns y (Through body))) (expr_reads a)
      (reads_then (occurs b) (λ x. not (x == y) && occurs body x) (Through b) (AnyTurns y (Through body)) (expr_reads b) (reads_turns y (occurs body) (Through body) (expr_reads body)))

  pub exprs_reads : (es : Exprs ℕ) → Reads (any_occurs es) (ThroughAll es)
  exprs_reads NoExprs = reads_none
  exprs_reads (MoreExprs e es) = reads_then (occurs e) (any_occurs es) (Through e) (ThroughAll es) (expr_reads e) (exprs_reads es)

  pub fields_reads : (fs : Fields ℕ) → Reads (any_field_occurs fs) (ThroughFields fs)
  fields_reads NoFields = reads_none
  fields_reads (MoreFields name e fs) = reads_then (occurs e) (any_field_occurs fs) (Through e) (ThroughFields fs) (expr_reads e) (fields_reads fs)

step_reads : (step : Step ℕ) → Reads (step_occurs step) (ThroughStep step)
step_reads (IndexStep at e) = expr_reads e
step_reads (FieldStep at name) = reads_none

pub steps_reads : (steps : List (Step ℕ)) → Reads (any_step_occurs steps) (ThroughSteps steps)
steps_reads [] = reads_none
steps_reads (step ∷ steps) = reads_then (step_occurs step) (any_step_occurs steps) (ThroughStep step) (ThroughSteps steps) (step_reads step) (steps_reads steps)
