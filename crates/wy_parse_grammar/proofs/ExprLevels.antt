-- Expressions of every level are read exactly.
use Rattle.std.proofs.Common.{◌≡◌, ℕ, zero, suc, pred, ◌≤◌, Bool, true, List, [], ◌∷◌, ◌⊎◌, refl, Ok, length, arith}
use Rattle.std.specs.Bool.{⊤}
use Rattle.wy_parse_grammar.proofs.TypesExact.{null}
use Rattle.wy_reading.specs.Mode.{Mode}
use Rattle.wy_reading.specs.Rule.{among}
use Rattle.wy_reading.specs.Reader.{one}
use Rattle.wy_reading.proofs.Exactness.{Exact, Lacks}
use Rattle.wy_reading.proofs.Adapting.{same_readers}
use Rattle.wy_reading.proofs.Levels.{deeper, up}
use Rattle.wy_reading.proofs.Closed.{closed, Declines, declines-then, declines-branch, declines-one}
use Rattle.wy_reading.proofs.Turns.{loop-halts}
use Rattle.wy_ast.specs.declared.expressions.ExprKind.TheVariants as e
use Rattle.wy_lex.specs.declared.token.Token.{Token}
use Rattle.wy_parse_grammar.specs.declared.fault.Kind.TheVariants.{Deep}
use Rattle.wy_parse_grammar.specs.declared.sort.Class.TheVariants as class
use Rattle.wy_parse_grammar.specs.Sorts as t
use Rattle.wy_parse_grammar.specs.Sorts.{is, has, members}
use Rattle.wy_parse_grammar.specs.Steps.{Q, mark, name, inside}
use Rattle.wy_parse_grammar.specs.Trees.{leaf}
use Rattle.wy_parse_grammar.specs.ExprGrammar as rule
use Rattle.wy_parse_grammar.specs.ExprGrammar.{E, Args}
use Rattle.wy_parse_grammar.specs.ExprReading as read
use Rattle.wy_parse_grammar.specs.ExprReading.{readers}
use Rattle.wy_parse_grammar.proofs.TokenLemmas.{one_out, fewer}
use Rattle.wy_parse_grammar.proofs.StepsExact.{mark_declines, name_declines}
use Rattle.wy_parse_grammar.proofs.OperatorsExact.{after_unary, after_product, after_sum, after_comparison, after_logic, after_expr, After, BeginsExpr, expr_of-exact}
use Rattle.wy_parse_grammar.proofs.ExprsExact.{unary_of-exact, arg_list-exact}
use Rattle.wy_parse_grammar.proofs.InsideExact.{inside-exact}

-- ---- what begins no expression is declined at its first token

abbrev NoExpr : {A : Type 0} → Q A → Type 0
NoExpr q = Declines (has class.Expression) q

mark_none : (c : ℕ) → among (members class.Expression) c ≡ true → NoExpr (mark c)
mark_none c e i h = mark_declines c i (one_out c (members class.Expression) i e h)

name_none : NoExpr name
name_none i h = name_declines i (one_out t.NAME (members class.Expression) i refl h)

literal_none : NoExpr read.literal
unfolding read.literal
literal_none = declines-then (one (has class.Literal)) _ (declines-one (has class.Literal) (λ i h. fewer (members class.Literal) (members class.Expression) i refl h))

quantifier_none : NoExpr read.quantifier
unfolding read.quantifier
quantifier_none = declines-then (one (has class.Quantifier)) _ (declines-one (has class.Quantifier) (λ i h. fewer (members class.Quantifier) (members class.Expression) i refl h))

primary_none : (d : ℕ) (u v : Q E) → NoExpr (read.primary d u v)
unfolding read.primary read.enclosed read.grouped read.barred_in read.collected
primary_none d u v =
    declines-branch (has class.Literal) _ _ literal_none
    (declines-branch (is t.NAME) _ _ (declines-then name _ name_none)
    (declines-branch (is t.OPEN_PAREN) _ _ (declines-then (mark t.OPEN_PAREN) _ (mark_none t.OPEN_PAREN refl))
    (declines-branch (is t.BAR) _ _ (declines-then (mark t.BAR) _ (mark_none t.BAR refl))
    (declines-branch (is t.OPEN_BRACKET) _ _ (declines-then (mark t.OPEN_BRACKET) _ (mark_none t.OPEN_BRACKET refl))
    (declines-branch (is t.OPEN_BRACE) _ _ (declines-then (mark t.OPEN_BRACE) _ (mark_none t.OPEN_BRACE refl))
    (declines-then read.quantifier _ quantifier_none))))))

unary_of_none : (d : ℕ) (u v : Q E) → NoExpr (read.unary_of d u v)
unfolding read.unary_of
unary_of_none d u v =
    declines-branch (is t.NOT) _ _ (declines-then (mark t.NOT) _ (mark_none t.NOT refl))
    (declines-branch (is t.MINUS) _ _ (declines-then (mark t.MINUS) _ (mark_none t.MINUS refl))
    (declines-then (read.primary d u v) _ (primary_none d u v)))

expr_of_none : (d : ℕ) (u : Q E) (s : Bool) (v : Q E) → NoExpr u → NoExpr (read.expr_of d u s v)
unfolding read.expr_of read.logic read.comparison read.sum read.product
expr_of_none d u s v none =
    declines-then (read.logic d u s) _
    (declines-then (read.comparison d u) _
    (declines-then (read.sum u) _
    (declines-then (read.product u) _
    (declines-then u _ none))))

unary_none : (s : Bool) (d : ℕ) → NoExpr (readers s d).unary
unfolding readers
unary_none s zero i h = rw h refl
unary_none s (suc d) i h = unary_of_none d (readers s d).unary (readers s d).expr i h

expr_none : (s : Bool) (d : ℕ) → NoExpr (readers s d).expr
unfolding readers
expr_none s zero i h = rw h refl
expr_none s (suc d) i h = expr_of_none (suc d) _ s (readers s d).expr (λ j g. unary_none s (suc d) j g) i h

-- ---- `null` is read on every level

module _ (z : List Token) where
  abbrev Null : Q E → Type 0
  Null q = q (null ∷ z) ≡ Ok (leaf 0 e.Null, z)

  unary-null : (s : Bool) (d : ℕ) → 1 ≤ d → After after_unary z → Null (readers s d).unary
  unfolding readers read.unary_of read.primary read.enclosed read.grouped read.barred_in read.collected read.literal read.steps
  unary-null s zero h f = absurd (omega (arith, h))
  unary-null s (suc d) h f = loop-halts (has class.Step) _ (length z) (leaf 0 e.Null) z (fewer (members class.Step) after_unary z refl f)

  product-null : (u : Q E) → Null u → After after_product z → Null (read.product u)
  unfolding read.product
  product-null u h f = rw h (loop-halts (has class.Factor) _ (length z) (leaf 0 e.Null) z (fewer (members class.Factor) after_product z refl f))

  sum-null : (u : Q E) → Null u → After after_sum z → Null (read.sum u)
  unfolding read.sum
  sum-null u h f =
      rw (product-null u h (fewer after_product after_sum z refl f)) (loop-halts (has class.Summand) _ (length z) (leaf 0 e.Null) z (fewer (members class.Summand) after_sum z refl f))

  comparison-null : (d : ℕ) (u : Q E) → Null u → After after_comparison z → Null (read.comparison d u)
  unfolding read.comparison read.compared read.related read.tested
  comparison-null d u h f =
      rw (sum-null u h (fewer after_sum after_comparison z refl f), fewer (members class.Comparison) after_comparison z refl f, one_out t.IS after_comparison z refl f) refl

  logic-null : (d : ℕ) (u : Q E) (s : Bool) → Null u → After after_logic z → Null (read.logic d u s)
  unfolding read.logic
  logic-null d u s h f =
      rw (comparison-null d u h (fewer after_comparison after_logic z refl f), one_out t.AND after_logic z refl f, one_out t.OR after_logic z refl f) refl

  pub expr-null : (s : Bool) (d : ℕ) → 1 ≤ d → After after_expr z → Null (readers s d).expr
  unfolding readers read.expr_of
  expr-null s zero h f = absurd (omega (arith, h))
  expr-null s (suc d) h f =
      rw (logic-null (suc d) _ s (unary-null s (suc d) h (fewer after_unary after_expr z refl f)) (fewer after_logic after_expr z refl f), one_out t.IMPLIES after_expr z refl f) refl

-- ---- levels

abbrev pub unary_read : Mode → Q E
unary_read m = (readers m.strict m.depth).unary

abbrev pub expr_read : Mode → Q E
expr_read m = (readers m.strict m.depth).expr

abbrev inner_expr_read : Mode → Q E
inner_expr_read m = (readers m.strict (pred m.depth)).expr

record BothExact (d : ℕ) (s : Bool) : Type 0 where
  unary_is : Exact (record { depth = d; strict = s }) (rule.level s d).unary unary_read (After after_unary) BeginsExpr
  expr_is : Exact (record { depth = d; strict = s }) (rule.level s d).expr expr_read (After after_expr) BeginsExpr

unary-step : (d : ℕ) (s : Bool) → BothExact d s → Exact (record { depth = suc d; strict = s }) (rule.level s (suc d)).unary unary_read (After after_unary) BeginsExpr
unfolding readers rule.level
unary-step d s b =
    deeper (record { depth = d; strict = s }) (rule.level s (suc d)).unary unary_read
    (unary_of-exact d s (rule.level s d).unary unary_read (rule.level s d).expr expr_read b.unary_is b.expr_is (λ m le deep z f. unary-null z m.strict m.depth deep f))

expr-unfolds : (d : ℕ) (s : Bool) (i : List Token) → 1 ≤ d → (readers s d).expr i ≡ read.expr_of d (readers s d).unary s (readers s (pred d)).expr i
unfolding readers
expr-unfolds zero s i h = absurd (omega (arith, h))
expr-unfolds (suc d) s i h = refl

expr-step : (d : ℕ) (s : Bool) → BothExact d s → Exact (record { depth = suc d; strict = s }) (rule.level s (suc d)).expr expr_read (After after_expr) BeginsExpr
unfolding rule.level
expr-step d s b =
    let n : Mode = record { depth = d; strict = s } in
    same_readers expr_read
    (expr_of-exact (up n) (rule.level s (suc d)).unary unary_read (unary-step d s b) (rule.level s d).expr inner_expr_read (deeper n (rule.level s d).expr inner_expr_read b.expr_is))
    (λ m le i. expr-unfolds m.depth m.strict i (omega (arith, le.0)))

both-exact : (d : ℕ) (s : Bool) → BothExact d s
unfolding readers rule.level
both-exact zero s =
    let n : Mode = record { depth = zero; strict = s } in
    record {
      unary_is = closed n (has class.Expression) Deep unary_read (After after_unary) (λ a. ⊤) (λ m i h. unary_none m.strict m.depth i h) (λ i h. rw h refl)
          (record { text = null ∷ []; made = leaf 0 e.Null; wanted = tt; deep = 1; alive = λ m le deep z f. unary-null z m.strict m.depth deep f; starts = λ z f. refl });
      expr_is = closed n (has class.Expression) Deep expr_read (After after_expr) (λ a. ⊤) (λ m i h. expr_none m.strict m.depth i h) (λ i h. rw h refl)
          (record { text = null ∷ []; made = leaf 0 e.Null; wanted = tt; deep = 1; alive = λ m le deep z f. expr-null z m.strict m.depth deep f; starts = λ z f. refl });
    }
both-exact (suc d) s = let b = both-exact d s in record { unary_is = unary-step d s b; expr_is = expr-step d s b }

pub unary-exact : (n : Mode) → Exact n (rule.Unary n.strict n.depth) unary_read (After after_unary) BeginsExpr
unfolding rule.Unary
unary-exact n = (both-exact n.depth n.strict).unary_is

pub expr-exact : (n : Mode) → Exact n (rule.Expr_ n.strict n.depth) expr_read (After after_expr) BeginsExpr
unfolding rule.Expr_
expr-exact n = (both-exact n.depth n.strict).expr_is

-- behind arguments stands what may stand behind an expression, no comma, and nothing that begins an expression
abbrev pub AfterArgs : List Token → Type 0
AfterArgs i = After (t.COMMA ∷ after_expr) i × Lacks (has class.Expression) i

abbrev pub args_read : Mode → Q Args
args_read m = read.arg_list m.depth (readers m.strict m.depth).unary (readers m.strict m.depth).expr

pub args-exact : (n : Mode) → Exact n (rule.ArgsIn n.strict n.depth) args_read AfterArgs (λ i. BeginsExpr i ⊎ AfterArgs i)
unfolding rule.ArgsIn rule.Unary rule.Expr_
args-exact n =
    let b = both-exact n.depth n.strict in
    arg_list-exact n.depth n.strict (rule.level n.strict n.depth).unary unary_read (rule.level n.strict n.depth).expr expr_read b.unary_is b.expr_is

-- one level deeper
pub inner_expr-exact : (n : Mode) → Exact n (rule.Expr_ n.strict (inside n.depth)) (λ m. (readers m.strict (inside m.depth)).expr) (After after_expr) BeginsExpr
inner_expr-exact n = inside-exact rule.Expr_ (λ s d. (readers s d).expr) (After after_expr) BeginsExpr (λ d s. expr-exact (record { depth = d; strict = s })) n.depth n.strict

abbrev pub inner_args_read : Mode → Q Args
inner_args_read m = read.arg_list (inside m.depth) (readers m.strict (inside m.depth)).unary (readers m.strict (inside m.depth)).expr

pub inner_args-exact : (n : Mode) → Exact n (rule.ArgsIn n.strict (inside n.depth)) inner_args_read AfterArgs (λ i. BeginsExpr i ⊎ AfterArgs i)
inner_args-exact n =
    inside-exact rule.ArgsIn (λ s d. read.arg_list d (readers s d).unary (readers s d).expr) AfterArgs (λ i. BeginsExpr i ⊎ AfterArgs i)
    (λ d s. args-exact (record { depth = d; strict = s })) n.depth n.strict
