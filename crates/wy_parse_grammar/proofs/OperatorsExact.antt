-- What operators of two operands join is read exactly: a line for each rule.
use Rattle.std.proofs.Common.{ℕ, List, [], ◌∷◌, ◌⊎◌, inl, inr, refl}
use Rattle.wy_reading.specs.Mode.{Mode}
use Rattle.wy_reading.proofs.Exactness.{Exact, Passes, Lacks, Any}
use Rattle.wy_reading.proofs.Single.{nothing}
use Rattle.wy_reading.proofs.Sequence.{sequence}
use Rattle.wy_reading.proofs.Choice.{choice}
use Rattle.wy_reading.proofs.Repetition.{repetition}
use Rattle.wy_reading.proofs.Adapting.{adapt}
use Rattle.wy_reading.proofs.Bars.{fenced-exact}
use Rattle.wy_ast.specs.declared.expressions.Op.TheVariants as op
use Rattle.wy_lex.specs.declared.token.Token.{Token}
use Rattle.wy_lex.specs.declared.token.TokenKind.TheVariants as k
use Rattle.wy_parse_grammar.specs.declared.fault.Kind.TheVariants.{Mixed}
use Rattle.wy_parse_grammar.specs.declared.sort.Class.TheVariants as class
use Rattle.wy_parse_grammar.specs.Sorts as t
use Rattle.wy_parse_grammar.specs.Sorts.{is, has, members}
use Rattle.wy_parse_grammar.specs.Steps.{R, Q}
use Rattle.wy_parse_grammar.specs.Trees as trees
use Rattle.wy_parse_grammar.specs.Trees.{binary}
use Rattle.wy_parse_grammar.specs.ExprGrammar as rule
use Rattle.wy_parse_grammar.specs.ExprGrammar.{E, joint}
use Rattle.wy_parse_grammar.specs.ExprReading as read
use Rattle.wy_parse_grammar.proofs.TokenLemmas.{among_these, some, at, at_other, one_out, fewer, apart, member}
use Rattle.wy_parse_grammar.proofs.StepsExact.{mark-exact, operator-exact}
use Rattle.wy_parse_grammar.proofs.TypesExact.{type-exact, joins_type}

-- what may not follow
abbrev pub after_unary : List ℕ
after_unary = t.OPEN_BRACKET ∷ t.DOT ∷ t.OPEN_PAREN ∷ []

abbrev pub after_product : List ℕ
after_product = t.STAR ∷ t.SLASH ∷ t.PERCENT ∷ after_unary

abbrev pub after_sum : List ℕ
after_sum = t.PLUS ∷ t.MINUS ∷ after_product

abbrev pub after_comparison : List ℕ
after_comparison =
    t.EQUAL ∷ t.NOT_EQUAL ∷ t.LESS ∷ t.LESS_EQUAL ∷ t.GREATER ∷ t.GREATER_EQUAL ∷ t.IS ∷ t.BAR ∷ t.AMPERSAND ∷ after_sum

abbrev pub after_logic : List ℕ
after_logic = t.AND ∷ t.OR ∷ after_comparison

abbrev pub after_expr : List ℕ
after_expr = t.IMPLIES ∷ after_logic

abbrev pub After : List ℕ → List Token → Type 0
After l i = Lacks (among_these l) i

abbrev pub BeginsExpr : List Token → Type 0
BeginsExpr i = Passes (has class.Expression) i

module _ (n : Mode) (U : R E) (u : Mode → Q E) (exact : Exact n U u (After after_unary) BeginsExpr) where
  factor-exact : (a : E) → Exact n (rule.Factor U a) (λ m. read.factor (u m) a) (After after_unary) (Passes (has class.Factor))
  factor-exact a = sequence (operator-exact {F = Any} class.Factor (some k.Star) refl) (λ o. sequence exact (λ b. nothing (binary o.0 o.1 a b)) (λ i f. f)) (λ i b. tt)

  product-exact : Exact n (rule.Product U) (λ m. read.product (u m)) (After after_product) BeginsExpr
  unfolding read.product
  product-exact = sequence exact
      (λ a. repetition (has class.Factor) factor-exact (λ i h. h) (λ i f. fewer (members class.Factor) after_product i refl f) (λ i f. fewer after_unary after_product i refl f)
      (λ i h. apart (members class.Factor) after_unary i refl h) refl a)
      (λ i b. elim b [ inl f ↦ fewer after_unary after_product i refl f | inr h ↦ apart (members class.Factor) after_unary i refl h ])

  summand-exact : (a : E) → Exact n (rule.Summand U a) (λ m. read.summand (u m) a) (After after_product) (Passes (has class.Summand))
  summand-exact a = sequence (operator-exact {F = Any} class.Summand (some k.Plus) refl) (λ o. sequence product-exact (λ b. nothing (binary o.0 o.1 a b)) (λ i f. f)) (λ i b. tt)

  pub sum-exact : Exact n (rule.Sum U) (λ m. read.sum (u m)) (After after_sum) BeginsExpr
  unfolding read.sum
  sum-exact = sequence product-exact
      (λ a. repetition (has class.Summand) summand-exact (λ i h. h) (λ i f. fewer (members class.Summand) after_sum i refl f) (λ i f. fewer after_product after_sum i refl f)
      (λ i h. apart (members class.Summand) after_product i refl h) refl a)
      (λ i b. elim b [ inl f ↦ fewer after_product after_sum i refl f | inr h ↦ apart (members class.Summand) after_product i refl h ])

  abbrev BeginsCompared : List Token → Type 0
  BeginsCompared i = Passes (has class.Comparison) i ⊎ (Passes (is t.IS) i ⊎ After after_comparison i)

  compared-exact : (a : E) → Exact n (rule.Compared n.depth U a) (λ m. read.compared m.depth (u m) a) (After after_comparison) BeginsCompared
  unfolding read.compared read.related read.tested
  compared-exact a =
      choice (has class.Comparison)
      (sequence (operator-exact {F = Any} class.Comparison (some k.Less) refl)
      (λ o. sequence sum-exact (λ b. nothing (binary o.0 o.1 a b)) (λ i f. fewer after_sum after_comparison i refl f)) (λ i b. tt))
      (choice (is t.IS)
      (sequence (mark-exact {F = Any} t.IS (some k.Is) refl)
      (λ place. sequence (type-exact n) (λ ty. nothing (trees.is_expr place a ty)) (λ i f. fewer joins_type after_comparison i refl f)) (λ i b. tt))
      (nothing a) (λ i h. h) (λ i f. one_out t.IS after_comparison i refl f))
      (λ i h. h)
      (λ i b. elim b [ inl h ↦ at t.IS (members class.Comparison) i h | inr f ↦ fewer (members class.Comparison) after_comparison i refl f ])

  comparison-exact : Exact n (rule.Comparison n.depth U) (λ m. read.comparison m.depth (u m)) (After after_comparison) BeginsExpr
  unfolding read.comparison
  comparison-exact = sequence sum-exact compared-exact (λ i b. link i b)
    where
      link : (i : List Token) → BeginsCompared i → After after_sum i
      link i (inl h) = apart (members class.Comparison) after_sum i refl h
      link i (inr (inl h)) = at t.IS after_sum i h
      link i (inr (inr f)) = fewer after_sum after_comparison i refl f

  -- '&&' or '||'
  and-exact : (a : E) → Exact n (rule.Connected n.depth U t.AND a) (λ m. read.connected m.depth (u m) t.AND a) (After after_comparison) (Passes (is t.AND))
  and-exact a = sequence (mark-exact {F = Any} t.AND (some k.And) refl) (λ place. sequence comparison-exact (λ b. nothing (binary place (joint t.AND) a b)) (λ i f. f)) (λ i b. tt)

  or-exact : (a : E) → Exact n (rule.Connected n.depth U t.OR a) (λ m. read.connected m.depth (u m) t.OR a) (After after_comparison) (Passes (is t.OR))
  or-exact a = sequence (mark-exact {F = Any} t.OR (some k.Or) refl) (λ place. sequence comparison-exact (λ b. nothing (binary place (joint t.OR) a b)) (λ i f. f)) (λ i b. tt)

  -- behind a chain of the one stands the other, or what may follow a chain of both
  abbrev AfterAnds : List Token → Type 0
  AfterAnds i = Passes (is t.OR) i ⊎ After after_logic i

  abbrev AfterOrs : List Token → Type 0
  AfterOrs i = Passes (is t.AND) i ⊎ After after_logic i

  ands-exact : (a : E) → Exact n (rule.Chain n.depth U t.AND a) (λ m. read.chain m.depth (u m) t.AND a) AfterAnds (Passes (is t.AND))
  unfolding read.chain
  ands-exact a = sequence (and-exact a)
      (λ b. repetition (is t.AND) and-exact (λ i h. h) halts weaken (λ i h. at t.AND after_comparison i h) (inr refl) b)
      (λ i b. elim b [ inl f ↦ weaken i f | inr h ↦ at t.AND after_comparison i h ])
    where
      halts : (i : List Token) → AfterAnds i → Lacks (is t.AND) i
      halts i (inl h) = at_other t.AND t.OR i refl h
      halts i (inr f) = one_out t.AND after_logic i refl f

      weaken : (i : List Token) → AfterAnds i → After after_comparison i
      weaken i (inl h) = at t.OR after_comparison i h
      weaken i (inr f) = fewer after_comparison after_logic i refl f

  ors-exact : (a : E) → Exact n (rule.Chain n.depth U t.OR a) (λ m. read.chain m.depth (u m) t.OR a) AfterOrs (Passes (is t.OR))
  unfolding read.chain
  ors-exact a = sequence (or-exact a)
      (λ b. repetition (is t.OR) or-exact (λ i h. h) halts weaken (λ i h. at t.OR after_comparison i h) (inr refl) b)
      (λ i b. elim b [ inl f ↦ weaken i f | inr h ↦ at t.OR after_comparison i h ])
    where
      halts : (i : List Token) → AfterOrs i → Lacks (is t.OR) i
      halts i (inl h) = at_other t.OR t.AND i refl h
      halts i (inr f) = one_out t.OR after_logic i refl f

      weaken : (i : List Token) → AfterOrs i → After after_comparison i
      weaken i (inl h) = at t.AND after_comparison i h
      weaken i (inr f) = fewer after_comparison after_logic i refl f

  -- what is kept out
  either-exact : (a : E) → Exact n (rule.Either n.depth U a) (λ m. read.either m.depth (u m) a) (After after_comparison) (Passes (has class.Connective))
  unfolding read.either
  either-exact a =
      adapt (choice (is t.AND) (and-exact a) (or-exact a) (λ i h. h) (λ i h. at_other t.AND t.OR i refl h)) (λ i f. f)
      (λ i b. elim b [ inl h ↦ member t.AND (members class.Connective) i refl h | inr h ↦ member t.OR (members class.Connective) i refl h ]) (λ a p. tt)

  mix_and-exact : (a : E) → Exact n (rule.Mix n.depth U t.AND a) (λ m. read.mix m.depth (u m) t.AND a) (After after_logic) (Passes (is t.AND))
  unfolding read.mix
  mix_and-exact a = sequence (and-exact a)
      (λ b. repetition (has class.Connective) either-exact (λ i h. h) (λ i f. fewer (members class.Connective) after_logic i refl f) (λ i f. fewer after_comparison after_logic i refl f)
      (λ i h. apart (members class.Connective) after_comparison i refl h) refl b)
      (λ i b. elim b [ inl f ↦ fewer after_comparison after_logic i refl f | inr h ↦ apart (members class.Connective) after_comparison i refl h ])

  mix_or-exact : (a : E) → Exact n (rule.Mix n.depth U t.OR a) (λ m. read.mix m.depth (u m) t.OR a) (After after_logic) (Passes (is t.OR))
  unfolding read.mix
  mix_or-exact a = sequence (or-exact a)
      (λ b. repetition (has class.Connective) either-exact (λ i h. h) (λ i f. fewer (members class.Connective) after_logic i refl f) (λ i f. fewer after_comparison after_logic i refl f)
      (λ i h. apart (members class.Connective) after_comparison i refl h) refl b)
      (λ i b. elim b [ inl f ↦ fewer after_comparison after_logic i refl f | inr h ↦ apart (members class.Connective) after_comparison i refl h ])

  abbrev BeginsMore : List Token → Type 0
  BeginsMore i = Passes (is t.AND) i ⊎ (Passes (is t.OR) i ⊎ After after_logic i)

  pub logic-exact : Exact n (rule.Logic n.depth U n.strict) (λ m. read.logic m.depth (u m) m.strict) (After after_logic) BeginsExpr
  unfolding read.logic
  logic-exact = sequence comparison-exact
      (λ a.
      choice (is t.AND)
      (sequence (ands-exact a)
      (λ b. fenced-exact (is t.OR) Mixed (rule.Mix n.depth U t.OR) (λ m. read.mix m.depth (u m) t.OR) (After after_logic) (λ i f. one_out t.OR after_logic i refl f)
      n.depth n.strict b (mix_or-exact b) (λ i h. h)) (λ i f. f))
      (choice (is t.OR)
      (sequence (ors-exact a)
      (λ b. fenced-exact (is t.AND) Mixed (rule.Mix n.depth U t.AND) (λ m. read.mix m.depth (u m) t.AND) (After after_logic) (λ i f. one_out t.AND after_logic i refl f)
      n.depth n.strict b (mix_and-exact b) (λ i h. h)) (λ i f. f))
      (nothing a) (λ i h. h) (λ i f. one_out t.OR after_logic i refl f))
      (λ i h. h) (λ i b. elim b [ inl h ↦ at_other t.AND t.OR i refl h | inr f ↦ one_out t.AND after_logic i refl f ]))
      (λ i b. link i b)
    where
      link : (i : List Token) → BeginsMore i → After after_comparison i
      link i (inl h) = at t.AND after_comparison i h
      link i (inr (inl h)) = at t.OR after_comparison i h
      link i (inr (inr f)) = fewer after_comparison after_logic i refl f

  -- over `expr` one level deeper
  pub expr_of-exact : (D : R E) (e : Mode → Q E) → Exact n D e (After after_expr) BeginsExpr
      → Exact n (rule.ExprOf n.depth U n.strict D) (λ m. read.expr_of m.depth (u m) m.strict (e m)) (After after_expr) BeginsExpr
  unfolding read.expr_of
  expr_of-exact D e deep_exact = sequence logic-exact
      (λ a. choice (is t.IMPLIES)
      (sequence (mark-exact {F = Any} t.IMPLIES (some k.Implies) refl) (λ place. sequence deep_exact (λ b. nothing (binary place op.Implies a b)) (λ i f. f)) (λ i b. tt))
      (nothing a) (λ i h. h) (λ i f. one_out t.IMPLIES after_expr i refl f))
      (λ i b. elim b [ inl h ↦ at t.IMPLIES after_logic i h | inr f ↦ fewer after_logic after_expr i refl f ])
