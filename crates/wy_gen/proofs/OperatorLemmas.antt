-- An operator that evaluates both of its operands.
use Rattle.std.proofs.Common.{◌≡◌, ◌∙◌, ℕ, suc, List, ◌++◌, Bool, Option, refl, sym, append_assoc}
use Rattle.wy_core.specs.CoreTree.{Expr}
use Rattle.wy_core.specs.declared.expressions.Op.{Op}
use Rattle.wy_core.specs.declared.expressions.Op.TheVariants as op
use Rattle.wy_live.specs.Sets.{Variables}
use Rattle.wy_code.specs.declared.pieces.steps.Step.{Step}
use Rattle.wy_code_spec.specs.declared.tables.context.Context.{Context}
use Rattle.wy_code_spec.specs.compiled.Expressions.{code, is_plain, operate, operator, right_register}
use Rattle.wy_code_spec.specs.compiled.Operands.{second_read, standing, unless_read, plain_or_read}

module _ (c : Context) (b : Expr ℕ) (d to l free : ℕ) (s live : Variables) (old behind : List Step) (free_is : free ≡ suc d) (live_is : live ≡ s) where
  same : (place p : Option ℕ) → place ≡ p → (ops : List Step) → behind ≡ ops ++ old → unless_read place (code c b live free) ++ behind ≡ (unless_read p (code c b s (suc d)) ++ ops) ++ old
  same place p place_is ops is =
      let e : unless_read place (code c b live free) ++ behind ≡ unless_read p (code c b s (suc d)) ++ (ops ++ old) = λ i. unless_read (place_is i) (code c b (live_is i) (free_is i)) ++ is i in
      e ∙ sym (append_assoc (unless_read p (code c b s (suc d))) ops old)

  -- the operator on operands that stand where they are read, or where they are evaluated
  abbrev operator_code : Op → Option ℕ → List Step
  operator_code o place = operator o to l (standing place (suc d)) (plain_or_read place (is_plain b))

  both_sides : (o : Op) (skipped : List Step) (place : Option ℕ) → (o ≡ op.And → ⊥) → (o ≡ op.Or → ⊥) → place ≡ second_read o b s → behind ≡ operator_code o (second_read o b s) ++ old
      → unless_read place (code c b live free) ++ behind
      ≡ operate o to l (standing (second_read o b s) (right_register o d)) (unless_read (second_read o b s) (code c b s (right_register o d))) skipped (plain_or_read (second_read o b s) (is_plain b)) ++ old
  both_sides op.Add skipped place h k p is = same place (second_read op.Add b s) p (operator_code op.Add (second_read op.Add b s)) is
  both_sides op.Sub skipped place h k p is = same place (second_read op.Sub b s) p (operator_code op.Sub (second_read op.Sub b s)) is
  both_sides op.Mul skipped place h k p is = same place (second_read op.Mul b s) p (operator_code op.Mul (second_read op.Mul b s)) is
  both_sides op.Div skipped place h k p is = same place (second_read op.Div b s) p (operator_code op.Div (second_read op.Div b s)) is
  both_sides op.Mod skipped place h k p is = same place (second_read op.Mod b s) p (operator_code op.Mod (second_read op.Mod b s)) is
  both_sides op.Equal skipped place h k p is = same place (second_read op.Equal b s) p (operator_code op.Equal (second_read op.Equal b s)) is
  both_sides op.Less skipped place h k p is = same place (second_read op.Less b s) p (operator_code op.Less (second_read op.Less b s)) is
  both_sides op.LessEqual skipped place h k p is = same place (second_read op.LessEqual b s) p (operator_code op.LessEqual (second_read op.LessEqual b s)) is
  both_sides op.Greater skipped place h k p is = same place (second_read op.Greater b s) p (operator_code op.Greater (second_read op.Greater b s)) is
  both_sides op.GreaterEqual skipped place h k p is = same place (second_read op.GreaterEqual b s) p (operator_code op.GreaterEqual (second_read op.GreaterEqual b s)) is
  both_sides op.And skipped place h k p is = absurd (h refl)
  both_sides op.Or skipped place h k p is = absurd (k refl)

  -- as the code is made: what it is made of is what the definition says
  pub right_made : (o : Op) (skipped : List Step) (place : Option ℕ) (r : ℕ) (plain : Bool) → (o ≡ op.And → ⊥) → (o ≡ op.Or → ⊥) → place ≡ second_read o b s → r ≡ standing place free → plain ≡ plain_or_read place (is_plain b) → behind ≡ operator o to l r plain ++ old
      → unless_read place (code c b live free) ++ behind
      ≡ operate o to l (standing (second_read o b s) (right_register o d)) (unless_read (second_read o b s) (code c b s (right_register o d))) skipped (plain_or_read (second_read o b s) (is_plain b)) ++ old
  right_made o skipped place r plain h k p r_is plain_is is =
      let stands : r ≡ standing (second_read o b s) (suc d) = r_is ∙ (λ i. standing (p i) (free_is i)) in
      let keeps : plain ≡ plain_or_read (second_read o b s) (is_plain b) = plain_is ∙ (λ i. plain_or_read (p i) (is_plain b)) in
      both_sides o skipped place h k p (is ∙ (λ i. operator o to l (stands i) (keeps i) ++ old))
