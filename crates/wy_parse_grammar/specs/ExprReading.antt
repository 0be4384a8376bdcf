-- How expressions are read: the grammar's shapes as steps, with each choice made by the next token.
use Rattle.std.specs.Prelude.{ℕ, ℤ, zero, suc, Bool, true, List}
use Rattle.wy_reading.specs.Reader.{◌>>=◌, pure, one, branch, while, refused, unless, fenced}
use Rattle.wy_ast.specs.declared.expressions.Op.TheVariants as op
use Rattle.wy_ast.specs.declared.expressions.ExprKind.TheVariants as e
use Rattle.wy_parse_grammar.specs.declared.fault.Kind.TheVariants.{Deep, Mixed}
use Rattle.wy_parse_grammar.specs.declared.sort.Class.TheVariants as class
use Rattle.wy_parse_grammar.specs.Sorts as t
use Rattle.wy_parse_grammar.specs.Sorts.{has, is}
use Rattle.wy_parse_grammar.specs.Steps.{Q, mark, inner, name, inner_name, operator}
use Rattle.wy_parse_grammar.specs.Trees as trees
use Rattle.wy_parse_grammar.specs.Trees.{pushed, named, none, leaf, binary}
use Rattle.wy_parse_grammar.specs.TypeReading.{type_term}
use Rattle.wy_parse_grammar.specs.ExprGrammar.{E, Args, Fields, Ranges, literal_kind, touches, opposite, is_all, joint}

unfoldable pub literal : Q E
literal = one (has class.Literal) >>= (λ s. pure (leaf s.at (literal_kind s.kind)))

unfoldable pub glued : ℕ → Q ℤ
glued at = one (touches at) >>= (λ s. pure (opposite s.kind))

unfoldable pub quantifier : Q (ℕ × Bool)
quantifier = one (has class.Quantifier) >>= (λ s. pure (s.at, is_all s.kind))

module _ (unary : Q E) where
  abbrev pub factor : E → Q E
  factor a = operator class.Factor >>= (λ o. unary >>= (λ b. pure (binary o.0 o.1 a b)))

  unfoldable pub product : Q E
  product = unary >>= (λ a. while (has class.Factor) factor a)

  abbrev pub summand : E → Q E
  summand a = operator class.Summand >>= (λ o. product >>= (λ b. pure (binary o.0 o.1 a b)))

  unfoldable pub sum : Q E
  sum = product >>= (λ a. while (has class.Summand) summand a)

module _ (levels : ℕ) (unary : Q E) where
  unfoldable pub related : E → Q E
  related a = operator class.Comparison >>= (λ o. sum unary >>= (λ b. pure (binary o.0 o.1 a b)))

  unfoldable pub tested : E → Q E
  tested a = mark t.IS >>= (λ at. type_term levels >>= (λ ty. pure (trees.is_expr at a ty)))

  unfoldable pub compared : E → Q E
  compared a = branch (has class.Comparison) (related a) (branch (is t.IS) (tested a) (pure a))

  unfoldable pub comparison : Q E
  comparison = sum unary >>= compared

  abbrev pub connected : ℕ → E → Q E
  connected c a = mark c >>= (λ at. comparison >>= (λ b. pure (binary at (joint c) a b)))

  unfoldable pub chain : ℕ → E → Q E
  chain c a = connected c a >>= (λ b. while (is c) (connected c) b)

  unfoldable pub either : E → Q E
  either a = branch (is t.AND) (connected t.AND a) (connected t.OR a)

  unfoldable pub mix : ℕ → E → Q E
  mix c a = connected c a >>= (λ b. while (has class.Connective) either b)

  unfoldable pub logic : Bool → Q E
  logic s = comparison >>= (λ a.
      branch (is t.AND) (chain t.AND a >>= (λ b. fenced s (is t.OR) Mixed (mix t.OR) b))
      (branch (is t.OR) (chain t.OR a >>= (λ b. fenced s (is t.AND) Mixed (mix t.AND) b))
      (pure a)))

  unfoldable pub expr_of : Bool → Q E → Q E
  expr_of s deeper = logic s >>= (λ a. branch (is t.IMPLIES) (mark t.IMPLIES >>= (λ at. deeper >>= (λ b. pure (binary at op.Implies a b)))) (pure a))

module _ (levels : ℕ) (unary expr : Q E) where
  abbrev pub next_arg : Args → Q Args
  next_arg es = mark t.COMMA >>= (λ _. expr >>= (λ a. pure (pushed es a)))

  unfoldable pub more_args : Args → Q Args
  more_args es = while (is t.COMMA) next_arg es

  unfoldable pub arg_list : Q Args
  arg_list = branch (has class.Expression) (expr >>= (λ a. more_args (pushed none a))) (pure none)

  unfoldable pub field : Fields → Q Fields
  field fs = inner_name levels >>= (λ w. mark t.COLON >>= (λ _. expr >>= (λ a. pure (pushed fs (named w.1 a)))))

  abbrev pub next_field : Fields → Q Fields
  next_field fs = mark t.COMMA >>= (λ _. field fs)

  unfoldable pub field_list : Q Fields
  field_list = branch (is t.NAME) (field none >>= (λ fs. while (is t.COMMA) next_field fs)) (pure none)

  unfoldable pub range : Ranges → Q Ranges
  range rs =
      inner_name levels >>= (λ w. mark t.IN >>= (λ _. sum unary >>= (λ a. mark t.RANGE >>= (λ _. sum unary >>= (λ b.
      pure (pushed rs (trees.range w.1 a b)))))))

  abbrev pub next_range : Ranges → Q Ranges
  next_range rs = mark t.COMMA >>= (λ _. range rs)

  unfoldable pub range_list : Q Ranges
  range_list = range none >>= (λ rs. while (is t.COMMA) next_range rs)

  -- behind the item: how often it stands
  unfoldable pub repeated : ℕ → E → Q E
  repeated at a = mark t.SEMICOLON >>= (λ _. expr >>= (λ n. mark t.CLOSE_BRACKET >>= (λ _. pure (trees.repeat at a n))))

  -- behind the first items: the others
  unfoldable pub itemized : ℕ → Args → Q E
  itemized at items = more_args items >>= (λ es. mark t.CLOSE_BRACKET >>= (λ _. pure (trees.list at es)))

  -- behind the first item
  unfoldable pub listed_rest : ℕ → E → Q E
  listed_rest at a = branch (is t.SEMICOLON) (repeated at a) (itemized at (pushed none a))

  unfoldable pub listed : ℕ → Q E
  listed at =
      branch (is t.CLOSE_BRACKET) (inner levels t.CLOSE_BRACKET >>= (λ _. pure (trees.list at none)))
      (expr >>= (λ a. listed_rest at a))

  unfoldable pub called : ℕ → List ℕ → Q E
  called at name =
      branch (is t.OPEN_PAREN) (mark t.OPEN_PAREN >>= (λ _. arg_list >>= (λ es. inner levels t.CLOSE_PAREN >>= (λ _. pure (trees.call at name es)))))
      (pure (leaf at (e.Var name)))

  unfoldable pub quantified : ℕ → Bool → Q E
  quantified at all =
      mark t.OPEN_BRACE >>= (λ _. range_list >>= (λ rs. mark t.BAR >>= (λ _. expr >>= (λ body. mark t.CLOSE_BRACE >>= (λ _.
      pure (trees.quant at all rs body))))))

  -- what begins with '[', '{', 'all' or 'some'
  unfoldable pub collected : Q E
  collected =
      branch (is t.OPEN_BRACKET) (mark t.OPEN_BRACKET >>= listed)
      (branch (is t.OPEN_BRACE) (mark t.OPEN_BRACE >>= (λ at. field_list >>= (λ fs. inner levels t.CLOSE_BRACE >>= (λ _. pure (trees.fields at fs)))))
      (quantifier >>= (λ q. quantified q.0 q.1)))

  unfoldable pub grouped : Q E
  grouped = mark t.OPEN_PAREN >>= (λ _. expr >>= (λ a. mark t.CLOSE_PAREN >>= (λ _. pure a)))

  unfoldable pub barred_in : Q E
  barred_in = mark t.BAR >>= (λ at. sum unary >>= (λ a. mark t.BAR >>= (λ _. pure (trees.len at a))))

  -- what begins with a bracket, a bar, 'all' or 'some'
  unfoldable pub enclosed : Q E
  enclosed = branch (is t.OPEN_PAREN) grouped (branch (is t.BAR) barred_in collected)

  unfoldable pub primary : Q E
  primary =
      branch (has class.Literal) literal
      (branch (is t.NAME) (name >>= (λ w. called w.0 w.1))
      enclosed)

  unfoldable pub indexed : E → Q E
  indexed a = mark t.OPEN_BRACKET >>= (λ at. expr >>= (λ i. mark t.CLOSE_BRACKET >>= (λ _. pure (trees.index at a i))))

  unfoldable pub selected : E → Q E
  selected a = mark t.DOT >>= (λ at. name >>= (λ w. pure (trees.field at a w.1)))

  unfoldable pub step : E → Q E
  step a = branch (is t.OPEN_BRACKET) (indexed a) (selected a)

  unfoldable pub steps : E → Q E
  steps a = while (has class.Step) step a

  unfoldable pub negated : ℕ → Q E
  negated at =
      branch (touches at) (glued at >>= (λ n. steps (leaf at (e.Int n))))
      (unless (touches at) unary >>= (λ a. pure (trees.neg at a)))

  unfoldable pub unary_of : Q E
  unary_of =
      branch (is t.NOT) (mark t.NOT >>= (λ at. unary >>= (λ a. pure (trees.not_expr at a))))
      (branch (is t.MINUS) (mark t.MINUS >>= negated)
      (primary >>= steps))

pub record Readers : Type 0 where
  pub unary : Q E
  pub expr : Q E

unfoldable pub readers : Bool → ℕ → Readers
readers s zero = record { unary = refused (has class.Expression) Deep; expr = refused (has class.Expression) Deep }
readers s (suc d) = record {
  unary = unary_of d (readers s d).unary (readers s d).expr;
  expr = expr_of (suc d) (unary_of d (readers s d).unary (readers s d).expr) s (readers s d).expr;
}

-- of a text that every check is made on
abbrev pub unary : ℕ → Q E
unary levels = (readers true levels).unary

abbrev pub expr : ℕ → Q E
expr levels = (readers true levels).expr

abbrev pub sum_in : ℕ → Q E
sum_in levels = sum (unary levels)

abbrev pub args_in : ℕ → Q Args
args_in levels = arg_list levels (unary levels) (expr levels)
