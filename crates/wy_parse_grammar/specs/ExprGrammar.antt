-- The grammar of expressions.
--   expr       = logic [ '==>' expr ]
--   logic      = comparison { '&&' comparison } | comparison { '||' comparison }
--   comparison = sum [ ( '==' | '!=' | '<' | '<=' | '>' | '>=' ) sum | 'is' type ]
--   sum        = product { ( '+' | '-' ) product }
--   product    = unary { ( '*' | '/' | '%' ) unary }
--   unary      = '!' unary | '-' unary | postfix, where a minus and a numeral that touches it are a literal
--   postfix    = primary { '[' expr ']' | '.' NAME }
--   primary    = NUMERAL | STRING | 'null' | 'true' | 'false' | NAME | NAME '(' args ')' | '(' expr ')' | '|' sum '|'
--              | '[' args ']' | '[' expr ';' expr ']' | '{' [ NAME ':' expr { ',' NAME ':' expr } ] '}'
--              | ( 'all' | 'some' ) '{' range { ',' range } '|' expr '}'
--   range      = NAME 'in' sum '..' sum
--   args       = [ expr { ',' expr } ]
-- What stands behind an opening bracket or bar, behind a prefix operator or behind '==>' stands one level deeper, a bracket that
-- closes too. Where two ways begin alike, what they have in common is written once.
use Rattle.std.specs.Prelude.{◌==◌, ◌&&◌, ◌+◌, nat_le, ℕ, ℤ, pos, neg_ℤ, zero, suc, Bool, true, false, List, [], ◌∷◌, if◌then◌else◌}
use Rattle.wy_reading.specs.Rule.{One, Pure, Then, Loop, Or, Refused, Unless, Fenced, among}
use Rattle.wy_ast.specs.declared.expressions.Op.{Op}
use Rattle.wy_ast.specs.declared.expressions.Op.TheVariants as op
use Rattle.wy_ast.specs.declared.expressions.Expr.{Expr}
use Rattle.wy_ast.specs.declared.expressions.ExprKind.{ExprKind}
use Rattle.wy_ast.specs.declared.expressions.ExprKind.TheVariants as e
use Rattle.wy_lex.specs.declared.token.Token.{Token}
use Rattle.wy_lex.specs.declared.token.TokenKind.{TokenKind}
use Rattle.wy_lex.specs.declared.token.TokenKind.TheVariants as k
use Rattle.wy_parse_grammar.specs.declared.fault.Kind.TheVariants.{Deep, Mixed}
use Rattle.wy_parse_grammar.specs.declared.measured.Measured.{Measured}
use Rattle.wy_parse_grammar.specs.declared.sort.Class.TheVariants as class
use Rattle.wy_parse_grammar.specs.Sorts as t
use Rattle.wy_parse_grammar.specs.Sorts.{has, is, sort}
use Rattle.wy_parse_grammar.specs.Steps.{R, Mark, Inner, Name, InnerName, Operator}
use Rattle.wy_parse_grammar.specs.Trees as trees
use Rattle.wy_parse_grammar.specs.Trees.{pushed, named, none, leaf, binary}
use Rattle.wy_parse_grammar.specs.TypeGrammar.{Type_}

abbrev pub E : Type 0
E = Measured Expr

-- arguments; fields, each a name and a value; ranges, each a name with its first number and the one behind its last
abbrev pub Args : Type 0
Args = Measured (List Expr)

abbrev pub Fields : Type 0
Fields = Measured (List (List ℕ × Expr))

abbrev pub Ranges : Type 0
Ranges = Measured (List (List ℕ × Expr × Expr))

-- ---- literals

abbrev pub literal_kind : TokenKind → ExprKind
literal_kind (k.Numeral n) = e.Int n
literal_kind (k.Text text) = e.Text text
literal_kind k.True = e.Bool true
literal_kind k.False = e.Bool false
literal_kind _ = e.Null

abbrev pub Literal : R E
Literal = Then (One (has class.Literal)) (λ s. Pure (leaf s.at (literal_kind s.kind)))

-- a numeral that touches a minus at the place
abbrev pub touches : ℕ → Token → Bool
touches at s = among (t.NUMERAL ∷ t.BEYOND ∷ []) (sort s.kind) && (s.at == at + 1)

abbrev pub opposite : TokenKind → ℤ
opposite (k.Numeral (pos m)) = if nat_le m 39614081257132168796771975168 then neg_ℤ (pos m) else pos 0
opposite _ = pos 0

-- the number that is written by a minus at the place and a numeral that touches it
abbrev pub Glued : ℕ → R ℤ
Glued at = Then (One (touches at)) (λ s. Pure (opposite s.kind))

abbrev pub is_all : TokenKind → Bool
is_all k.All = true
is_all _ = false

-- the word of a quantifier, by its place and whether it is `all`
abbrev pub Quantifier : R (ℕ × Bool)
Quantifier = Then (One (has class.Quantifier)) (λ s. Pure (s.at, is_all s.kind))

-- ---- operators of two operands, over `unary` of a level

module _ (unary : R E) where
  abbrev pub Factor : E → R E
  Factor a = Then (Operator class.Factor) (λ o. Then unary (λ b. Pure (binary o.0 o.1 a b)))

  abbrev pub Product : R E
  Product = Then unary (λ a. Loop Factor a)

  abbrev pub Summand : E → R E
  Summand a = Then (Operator class.Summand) (λ o. Then Product (λ b. Pure (binary o.0 o.1 a b)))

  abbrev pub Sum : R E
  Sum = Then Product (λ a. Loop Summand a)

abbrev pub joint : ℕ → Op
joint c = if c == t.AND then op.And else op.Or

module _ (levels : ℕ) (unary : R E) where
  abbrev pub Compared : E → R E
  Compared a =
      Or (Then (Operator class.Comparison) (λ o. Then (Sum unary) (λ b. Pure (binary o.0 o.1 a b))))
      (Or (Then (Mark t.IS) (λ at. Then (Type_ levels) (λ ty. Pure (trees.is_expr at a ty))))
      (Pure a))

  abbrev pub Comparison : R E
  Comparison = Then (Sum unary) Compared

  -- '&&' or '||', by its sort, and what stands behind it
  abbrev pub Connected : ℕ → E → R E
  Connected c a = Then (Mark c) (λ at. Then Comparison (λ b. Pure (binary at (joint c) a b)))

  abbrev pub Chain : ℕ → E → R E
  Chain c a = Then (Connected c a) (λ b. Loop (Connected c) b)

  -- what a chain keeps out: the other operator, and then any of both
  abbrev pub Either : E → R E
  Either a = Or (Connected t.AND a) (Connected t.OR a)

  abbrev pub Mix : ℕ → E → R E
  Mix c a = Then (Connected c a) (λ b. Loop Either b)

  -- the operators don't mix: the first that would is refused where checks are made
  abbrev pub Logic : Bool → R E
  Logic s = Then Comparison (λ a.
      Or (Then (Chain t.AND a) (λ b. Fenced s (is t.OR) Mixed (Mix t.OR) b))
      (Or (Then (Chain t.OR a) (λ b. Fenced s (is t.AND) Mixed (Mix t.AND) b))
      (Pure a)))

  abbrev pub ExprOf : Bool → R E → R E
  ExprOf s deeper = Then (Logic s) (λ a. Or (Then (Mark t.IMPLIES) (λ at. Then deeper (λ b. Pure (binary at op.Implies a b)))) (Pure a))

-- ---- what has an inside, over `unary` and `expr` of the level inside, where there are so many levels

module _ (levels : ℕ) (unary expr : R E) where
  abbrev pub NextArg : Args → R Args
  NextArg es = Then (Mark t.COMMA) (λ _. Then expr (λ a. Pure (pushed es a)))

  abbrev pub MoreArgs : Args → R Args
  MoreArgs es = Loop NextArg es

  abbrev pub ArgList : R Args
  ArgList = Or (Then expr (λ a. MoreArgs (pushed none a))) (Pure none)

  abbrev pub Field : Fields → R Fields
  Field fs = Then (InnerName levels) (λ w. Then (Mark t.COLON) (λ _. Then expr (λ a. Pure (pushed fs (named w.1 a)))))

  abbrev pub NextField : Fields → R Fields
  NextField fs = Then (Mark t.COMMA) (λ _. Field fs)

  abbrev pub FieldList : R Fields
  FieldList = Or (Then (Field none) (λ fs. Loop NextField fs)) (Pure none)

  abbrev pub Range : Ranges → R Ranges
  Range rs =
      Then (InnerName levels) (λ w. Then (Mark t.IN) (λ _. Then (Sum unary) (λ a. Then (Mark t.RANGE) (λ _. Then (Sum unary) (λ b.
      Pure (pushed rs (trees.range w.1 a b)))))))

  abbrev pub NextRange : Ranges → R Ranges
  NextRange rs = Then (Mark t.COMMA) (λ _. Range rs)

  abbrev pub RangeList : R Ranges
  RangeList = Then (Range none) (λ rs. Loop NextRange rs)

  -- behind '['
  abbrev pub Listed : ℕ → R E
  Listed at =
      Or (Then (Inner levels t.CLOSE_BRACKET) (λ _. Pure (trees.list at none)))
      (Then expr (λ a.
      Or (Then (Mark t.SEMICOLON) (λ _. Then expr (λ n. Then (Mark t.CLOSE_BRACKET) (λ _. Pure (trees.repeat at a n)))))
      (Then (MoreArgs (pushed none a)) (λ es. Then (Mark t.CLOSE_BRACKET) (λ _. Pure (trees.list at es))))))

  -- behind a name
  abbrev pub Called : ℕ → List ℕ → R E
  Called at name =
      Or (Then (Mark t.OPEN_PAREN) (λ _. Then ArgList (λ es. Then (Inner levels t.CLOSE_PAREN) (λ _. Pure (trees.call at name es)))))
      (Pure (leaf at (e.Var name)))

  -- behind 'all' or 'some'
  abbrev pub Quantified : ℕ → Bool → R E
  Quantified at all =
      Then (Mark t.OPEN_BRACE) (λ _. Then RangeList (λ rs. Then (Mark t.BAR) (λ _. Then expr (λ body. Then (Mark t.CLOSE_BRACE) (λ _.
      Pure (trees.quant at all rs body))))))

  abbrev pub Primary : R E
  Primary =
      Or Literal
      (Or (Then Name (λ w. Called w.0 w.1))
      (Or (Then (Mark t.OPEN_PAREN) (λ _. Then expr (λ a. Then (Mark t.CLOSE_PAREN) (λ _. Pure a))))
      (Or (Then (Mark t.BAR) (λ at. Then (Sum unary) (λ a. Then (Mark t.BAR) (λ _. Pure (trees.len at a)))))
      (Or (Then (Mark t.OPEN_BRACKET) Listed)
      (Or (Then (Mark t.OPEN_BRACE) (λ at. Then FieldList (λ fs. Then (Inner levels t.CLOSE_BRACE) (λ _. Pure (trees.fields at fs)))))
      (Then Quantifier (λ q. Quantified q.0 q.1)))))))

  abbrev pub Step : E → R E
  Step a =
      Or (Then (Mark t.OPEN_BRACKET) (λ at. Then expr (λ i. Then (Mark t.CLOSE_BRACKET) (λ _. Pure (trees.index at a i)))))
      (Then (Mark t.DOT) (λ at. Then Name (λ w. Pure (trees.field at a w.1))))

  abbrev pub Steps : E → R E
  Steps a = Loop Step a

  -- behind '-'
  abbrev pub Negated : ℕ → R E
  Negated at =
      Or (Then (Glued at) (λ n. Steps (leaf at (e.Int n))))
      (Then (Unless (touches at) unary) (λ a. Pure (trees.neg at a)))

  abbrev pub UnaryOf : R E
  UnaryOf =
      Or (Then (Mark t.NOT) (λ at. Then unary (λ a. Pure (trees.not_expr at a))))
      (Or (Then (Mark t.MINUS) Negated)
      (Then Primary Steps))

-- what stands on a level, where there are so many; where there are none, what would begin it is too deep
pub record Level : Type 1 where
  pub unary : R E
  pub expr : R E

unfoldable pub level : Bool → ℕ → Level
level s zero = record { unary = Refused (has class.Expression) Deep; expr = Refused (has class.Expression) Deep }
level s (suc d) =
    let below = level s d in
    let unary : R E = UnaryOf d below.unary below.expr in
    record { unary = unary; expr = ExprOf (suc d) unary s below.expr }

unfoldable pub Unary : Bool → ℕ → R E
Unary s levels = (level s levels).unary

unfoldable pub Expr_ : Bool → ℕ → R E
Expr_ s levels = (level s levels).expr

unfoldable pub SumIn : Bool → ℕ → R E
SumIn s levels = Sum (Unary s levels)

-- arguments that stand inside of a pair where there are so many levels inside
unfoldable pub ArgsIn : Bool → ℕ → R Args
ArgsIn s levels = ArgList levels (Unary s levels) (Expr_ s levels)
