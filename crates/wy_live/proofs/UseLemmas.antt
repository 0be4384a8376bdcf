-- What is live before an expression: what stands in it, and what is live behind it.
use Rattle.std.proofs.Common.{◌≡◌, ℕ, Bool, true, false, not, ◌&&◌, ◌||◌, ◌==◌, List, [], ◌∷◌, refl, sym, ap, ◌∙◌}
use Rattle.wy_core.specs.CoreTree.{Expr, NullExpr, BoolExpr, IntExpr, VarExpr, CallExpr, NegExpr, NotExpr, LenExpr, BinaryExpr, IsExpr, IndexExpr, FieldExpr, ListExpr, RepeatExpr, RecordExpr, QuantExpr, Exprs, NoExprs, MoreExprs, Fields, NoFields, MoreFields, Step, IndexStep, FieldStep}
use Rattle.wy_lemmas.proofs.Choices.{or_true as or_true_right, or_regrouped as or_assoc, by_truth, by_same}
use Rattle.wy_live.specs.Paths.{occurs, any_occurs, any_field_occurs, step_occurs, any_step_occurs}
use Rattle.wy_live.specs.Sets.{Variables, has, restored}
use Rattle.wy_live.specs.Walks.{before, before_all, before_fields, before_step, before_steps, turned}
use Rattle.wy_live.proofs.SetLemmas.{has-with, has-without}

or_assoc_two : (a b c d : Bool) → (a || (b || (c || d))) ≡ ((a || (b || c)) || d)
or_assoc_two true b c d = refl
or_assoc_two false true c d = refl
or_assoc_two false false c d = refl

-- the first, where the second is known
one_more : (a b c d : Bool) → d ≡ (b || c) → (a || d) ≡ ((a || b) || c)
one_more a b c d h = ap (λ t. a || t) h ∙ or_assoc a b c

-- behind the body of a quantifier, where the body is known
turned_where : (s t : Variables) (x y : ℕ) (used : ℕ → Bool) → ((z : ℕ) → has t z ≡ (used z || has s z)) → has (restored (has s y) t y) x ≡ ((not (x == y) && used x) || has s x)
turned_where s t x y used h = by_truth (has s y) (λ b. has s y ≡ b → has (restored b t y) x ≡ ((not (x == y) && used x) || has s x))
    (λ _ held. h x ∙ by_same x y (λ b. (used x || has s x) ≡ ((not b && used x) || has s x))
    (λ e. ap (λ z. used x || z) (ap (λ z. has s z) e ∙ held) ∙ or_true_right (used x) ∙ sym (ap (λ z. has s z) e ∙ held)) (λ _. refl))
    (λ _ free. has-without t x y ∙ ap (λ b. not (x == y) && b) (h x) ∙ by_same x y (λ b. (not b && (used x || has s x)) ≡ ((not b && used x) || has s x))
    (λ e. sym (ap (λ z. has s z) e ∙ free)) (λ _. refl)) refl

mutual
  pub has-before : (e : Expr ℕ) (s : Variables) (x : ℕ) → has (before e s) x ≡ (occurs e x || has s x)
  has-before (NullExpr at) s x = refl
  has-before (BoolExpr at truth) s x = refl
  has-before (IntExpr at number) s x = refl
  has-before (VarExpr at y) s x = has-with s x y
  has-before (CallExpr at routine args) s x = has-before_all args s x
  has-before (NegExpr at a) s x = has-before a s x
  has-before (NotExpr at a) s x = has-before a s x
  has-before (LenExpr at a) s x = has-before a s x
  has-before (BinaryExpr at op a b) s x = has-before a (before b s) x ∙ one_more (occurs a x) (occurs b x) (has s x) (has (before b s) x) (has-before b s x)
  has-before (IsExpr at a ty) s x = has-before a s x
  has-before (IndexExpr at a b) s x = has-before a (before b s) x ∙ one_more (occurs a x) (occurs b x) (has s x) (has (before b s) x) (has-before b s x)
  has-before (FieldExpr at a name) s x = has-before a s x
  has-before (ListExpr at items) s x = has-before_all items s x
  has-before (RepeatExpr at a b) s x = has-before a (before b s) x ∙ one_more (occurs a x) (occurs b x) (has s x) (has (before b s) x) (has-before b s x)
  has-before (RecordExpr at fs) s x = has-before_fields fs s x
  has-before (QuantExpr at all y a b body) s x =
      has-before a (before b (turned y body s)) x
      ∙ ap (λ t. occurs a x || t) (has-before b (turned y body s) x)
      ∙ ap (λ t. occurs a x || (occurs b x || t)) (turned_where s (before body s) x y (occurs body) (λ z. has-before body s z))
      ∙ or_assoc_two (occurs a x) (occurs b x) (not (x == y) && occurs body x) (has s x)

  pub has-before_all : (es : Exprs ℕ) (s : Variables) (x : ℕ) → has (before_all es s) x ≡ (any_occurs es x || has s x)
  has-before_all NoExprs s x = refl
  has-before_all (MoreExprs e es) s x = has-before e (before_all es s) x ∙ one_more (occurs e x) (any_occurs es x) (has s x) (has (before_all es s) x) (has-before_all es s x)

  pub has-before_fields : (fs : Fields ℕ) (s : Variables) (x : ℕ) → has (before_fields fs s) x ≡ (any_field_occurs fs x || has s x)
  has-before_fields NoFields s x = refl
  has-before_fields (MoreFields name e fs) s x = has-before e (before_fields fs s) x ∙ one_more (occurs e x) (any_field_occurs fs x) (has s x) (has (before_fields fs s) x) (has-before_fields fs s x)

pub has-turned : (y : ℕ) (body : Expr ℕ) (s : Variables) (x : ℕ) → has (turned y body s) x ≡ ((not (x == y) && occurs body x) || has s x)
has-turned y body s x = turned_where s (before body s) x y (occurs body) (λ z. has-before body s z)

has-before_step : (step : Step ℕ) (s : Variables) (x : ℕ) → has (before_step step s) x ≡ (step_occurs step x || has s x)
has-before_step (IndexStep at e) s x = has-before e s x
has-before_step (FieldStep at name) s x = refl

pub has-before_steps : (steps : List (Step ℕ)) (s : Variables) (x : ℕ) → has (before_steps steps s) x ≡ (any_step_occurs steps x || has s x)
has-before_steps [] s x = refl
has-before_steps (step ∷ steps) s x = has-before_step step (before_steps steps s) x ∙ one_more (step_occurs step x) (any_step_occurs steps x) (has s x) (has (before_steps steps s) x) (has-before_steps steps s x)
