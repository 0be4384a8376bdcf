-- With a few more levels and without checks each reader reads what it does with them, and goes beyond each fault: a line for each.
use Rattle.std.proofs.Common.{◌≡◌, ◌<◌, ◌≤◌, ◌+◌, ℕ, zero, suc, Bool, true, false, List, ◌∷◌, ◌++◌, length, refl, arith}
use Rattle.wy_reading.specs.Mode.{Mode}
use Rattle.wy_reading.specs.Rule.{heads}
use Rattle.wy_reading.specs.Reader.{◌>>=◌, pure, refuse, branch, while, fenced}
use Rattle.wy_lex.specs.declared.token.Token.{Token}
use Rattle.wy_ast.specs.declared.expressions.Op.TheVariants as op
use Rattle.wy_parse_grammar.specs.declared.fault.Kind.TheVariants.{Deep, Mixed}
use Rattle.wy_parse_grammar.specs.declared.sort.Class.TheVariants as class
use Rattle.wy_parse_grammar.specs.Sorts as t
use Rattle.wy_parse_grammar.specs.Sorts.{is, has, members}
use Rattle.wy_parse_grammar.specs.Steps.{Q, mark, inner, inside}
use Rattle.wy_parse_grammar.specs.Trees as trees
use Rattle.wy_parse_grammar.specs.Trees.{none}
use Rattle.wy_parse_grammar.specs.TypeGrammar.{T}
use Rattle.wy_parse_grammar.specs.TypeGrammar as type_rules
use Rattle.wy_parse_grammar.specs.TypeReading as types
use Rattle.wy_parse_grammar.specs.ExprGrammar.{E, Args, touches}
use Rattle.wy_parse_grammar.specs.ExprGrammar as expr_rules
use Rattle.wy_parse_grammar.specs.ExprReading as exprs
use Rattle.wy_parse_grammar.specs.ExprReading.{readers}
use Rattle.wy_parse_grammar.proofs.TypesExact.{tight-exact, inside_reached}
use Rattle.wy_parse_grammar.proofs.ExprLevels.{unary-exact, expr-exact}
use Rattle.wy_parse_grammar.proofs.LooserLemmas.{Goes, Within, Takes, left, goes-then, goes-pure, goes-token, goes-mark, goes-name, goes-operator, goes-branch, goes-while, goes-unless, goes-refused, goes-none, goes-inner, goes-inner_name, goes-fenced, takes-is, takes-class, takes-one, takes-then, mark-on, name-on, left-then, exact-within}

-- ---- types

module _ (most d e : ℕ) (h : 2 ≤ e) where
  go-suffixes : (a : T) → Goes most (types.suffixes d a) (types.suffixes e a)
  unfolding types.suffixes
  go-suffixes a =
      goes-while (is t.OPEN_BRACKET) a (λ b. goes-then (goes-mark t.OPEN_BRACKET) (λ at. goes-then (goes-inner (inside d) (inside e) t.CLOSE_BRACKET (inside_reached e h)) (λ r. goes-pure _)))

  module _ (v w : Q T) (x : Goes most v w) where
    go-suffix : Goes most (types.suffix d v) (types.suffix e w)
    unfolding types.suffix
    go-suffix = goes-then x go-suffixes

    go-inters : (a : T) → Goes most (types.inters d v a) (types.inters e w a)
    unfolding types.inters
    go-inters a = goes-while (is t.AMPERSAND) a (λ b. goes-then (goes-mark t.AMPERSAND) (λ at. goes-then go-suffix (λ c. goes-pure _)))

    go-inter : Goes most (types.inter d v) (types.inter e w)
    unfolding types.inter
    go-inter = goes-then go-suffix go-inters

    go-unions : (a : T) → Goes most (types.unions d v a) (types.unions e w a)
    unfolding types.unions
    go-unions a = goes-while (is t.BAR) a (λ b. goes-then (goes-mark t.BAR) (λ at. goes-then go-inter (λ c. goes-pure _)))

    go-union : Goes most (types.union d v) (types.union e w)
    unfolding types.union
    go-union = goes-then go-inter go-unions

    go-tail : (a : T) → Goes most (types.tail d v a) (types.tail e w a)
    unfolding types.tail
    go-tail a = goes-then (go-inters a) go-unions

    go-field : (fs : type_rules.Fields) → Goes most (types.field d v fs) (types.field e w fs)
    unfolding types.field
    go-field fs = goes-then go-union (λ ty. goes-then goes-name (λ n. goes-pure _))

    go-fields : Goes most (types.field_list d v) (types.field_list e w)
    unfolding types.field_list
    go-fields =
        goes-branch (has class.Type) (goes-then (go-field none) (λ fs. goes-while (is t.COMMA) fs (λ gs. goes-then (goes-mark t.COMMA) (λ r. go-field gs)))) (goes-pure none)

    go-base : Goes most types.base types.base
    unfolding types.base
    go-base = goes-token (has class.BaseType) _

    not_on : (at : ℕ) → Goes most (v >>= (λ ty. pure (trees.not_ty at ty))) (w >>= (λ ty. pure (trees.not_ty at ty)))
    not_on at = goes-then x (λ ty. goes-pure _)

    paren_on : (r : ℕ) → Goes most (types.union d v >>= (λ ty. mark t.CLOSE_PAREN >>= (λ r. pure ty))) (types.union e w >>= (λ ty. mark t.CLOSE_PAREN >>= (λ r. pure ty)))
    paren_on r = goes-then go-union (λ ty. goes-then (goes-mark t.CLOSE_PAREN) (λ r. goes-pure _))

    record_on : (at : ℕ) → Goes most (types.field_list d v >>= (λ fs. inner d t.CLOSE_BRACE >>= (λ r. pure (trees.record_ty at fs))))
        (types.field_list e w >>= (λ fs. inner e t.CLOSE_BRACE >>= (λ r. pure (trees.record_ty at fs))))
    record_on at = goes-then go-fields (λ fs. goes-then (goes-inner d e t.CLOSE_BRACE (omega (arith, h))) (λ r. goes-pure _))

    go-tight_of : Goes most (types.tight_of d v) (types.tight_of e w)
    unfolding types.tight_of
    go-tight_of =
        goes-branch (is t.NOT) (goes-then (goes-mark t.NOT) not_on)
        (goes-branch (is t.OPEN_PAREN) (goes-then (goes-mark t.OPEN_PAREN) paren_on)
        (goes-branch (is t.OPEN_BRACE) (goes-then (goes-mark t.OPEN_BRACE) record_on)
        (goes-branch (is t.NAME) (goes-then goes-name (λ n. goes-pure _))
        go-base)))

    take-base : Takes (members class.BaseType) types.base
    unfolding types.base
    take-base = takes-then (takes-one (members class.BaseType)) (λ s. (goes-pure {most = 0} _).within)

    take-tight_of : Takes (members class.Type) (types.tight_of e w)
    unfolding types.tight_of
    take-tight_of =
        takes-is t.NOT (members class.Type) (t.OPEN_PAREN ∷ t.OPEN_BRACE ∷ t.NAME ∷ members class.BaseType) refl (mark-on t.NOT (λ at. (not_on at).within))
        (takes-is t.OPEN_PAREN (t.OPEN_PAREN ∷ t.OPEN_BRACE ∷ t.NAME ∷ members class.BaseType) (t.OPEN_BRACE ∷ t.NAME ∷ members class.BaseType) refl
        (mark-on t.OPEN_PAREN (λ r. (paren_on r).within))
        (takes-is t.OPEN_BRACE (t.OPEN_BRACE ∷ t.NAME ∷ members class.BaseType) (t.NAME ∷ members class.BaseType) refl (mark-on t.OPEN_BRACE (λ at. (record_on at).within))
        (takes-is t.NAME (t.NAME ∷ members class.BaseType) (members class.BaseType) refl (name-on (λ n. (goes-pure {most = 0} _).within)) take-base)))

within-tight : (d : ℕ) → Within (types.tight d)
within-tight d = exact-within (tight-exact d true)

tight-takes : (e : ℕ) → 2 ≤ e → Takes (members class.Type) (types.tight (suc e))
unfolding types.tight
tight-takes e h = take-tight_of 0 0 e h refuse (types.tight e) (goes-none (within-tight e))

go-tight : (most d e : ℕ) → 3 + d ≤ e → Goes most (types.tight d) (types.tight e)
unfolding types.tight
go-tight most d zero h = absurd (omega (arith, h))
go-tight most zero (suc e) h = goes-refused (has class.Type) Deep (tight-takes e (omega (arith, h))).first (within-tight (suc e))
go-tight most (suc d) (suc e) h = go-tight_of most d e (omega (arith, h)) (types.tight d) (types.tight e) (go-tight most d e (omega (arith, h)))

pub type-takes : (e : ℕ) → 3 ≤ e → Takes (members class.Type) (types.type_term e)
unfolding types.type_term types.union types.inter types.suffix
type-takes zero h = absurd (omega (arith, h))
type-takes (suc e) h =
    let g : Goes 0 refuse (types.tight (suc e)) = goes-none (within-tight (suc e)) in
    takes-then (takes-then (takes-then (tight-takes e (omega (arith, h))) (λ a. (go-suffixes 0 0 (suc e) (omega (arith, h)) a).within))
    (λ a. (go-inters 0 0 (suc e) (omega (arith, h)) refuse (types.tight (suc e)) g a).within))
    (λ a. (go-unions 0 0 (suc e) (omega (arith, h)) refuse (types.tight (suc e)) g a).within)

module _ (most : ℕ) where
  pub go-type : (d e : ℕ) → 3 + d ≤ e → Goes most (types.type_term d) (types.type_term e)
  unfolding types.type_term
  go-type d e h = go-union most d e (omega (arith, h)) (types.tight d) (types.tight e) (go-tight most d e h)

  pub go-type_rest : (d e : ℕ) → 3 + d ≤ e → (a : T) → Goes most (types.type_rest d a) (types.type_rest e a)
  unfolding types.type_rest types.rest
  go-type_rest d e h a = goes-then (go-suffixes most d e (omega (arith, h)) a) (go-tail most d e (omega (arith, h)) (types.tight d) (types.tight e) (go-tight most d e h))

  pub go-type_tail : (d e : ℕ) → 3 + d ≤ e → (a : T) → Goes most (types.type_tail d a) (types.type_tail e a)
  unfolding types.type_tail
  go-type_tail d e h a = go-tail most d e (omega (arith, h)) (types.tight d) (types.tight e) (go-tight most d e h) a

  -- ---- operators of two operands

  module _ (u w : Q E) (x : Goes most u w) where
    go-factors : (a : E) → Goes most (while (has class.Factor) (exprs.factor u) a) (while (has class.Factor) (exprs.factor w) a)
    go-factors a = goes-while (has class.Factor) a (λ b. goes-then (goes-operator class.Factor) (λ o. goes-then x (λ c. goes-pure _)))

    go-product : Goes most (exprs.product u) (exprs.product w)
    unfolding exprs.product
    go-product = goes-then x go-factors

    go-summands : (a : E) → Goes most (while (has class.Summand) (exprs.summand u) a) (while (has class.Summand) (exprs.summand w) a)
    go-summands a = goes-while (has class.Summand) a (λ b. goes-then (goes-operator class.Summand) (λ o. goes-then go-product (λ c. goes-pure _)))

    go-sum : Goes most (exprs.sum u) (exprs.sum w)
    unfolding exprs.sum
    go-sum = goes-then go-product go-summands

    module _ (d e : ℕ) (h : 3 + d ≤ e) where
      go-compared : (a : E) → Goes most (exprs.compared d u a) (exprs.compared e w a)
      unfolding exprs.compared exprs.related exprs.tested
      go-compared a =
          goes-branch (has class.Comparison) (goes-then (goes-operator class.Comparison) (λ o. goes-then go-sum (λ b. goes-pure _)))
          (goes-branch (is t.IS) (goes-then (goes-mark t.IS) (λ at. goes-then (go-type d e h) (λ ty. goes-pure _)))
          (goes-pure a))

      go-comparison : Goes most (exprs.comparison d u) (exprs.comparison e w)
      unfolding exprs.comparison
      go-comparison = goes-then go-sum go-compared

      joined_on : (c : ℕ) (a : E) (at : ℕ) → Goes most (exprs.comparison d u >>= (λ b. pure (trees.binary at (expr_rules.joint c) a b)))
          (exprs.comparison e w >>= (λ b. pure (trees.binary at (expr_rules.joint c) a b)))
      joined_on c a at = goes-then go-comparison (λ b. goes-pure _)

      go-connected : (c : ℕ) (a : E) → Goes most (exprs.connected d u c a) (exprs.connected e w c a)
      go-connected c a = goes-then (goes-mark c) (joined_on c a)

      go-chain : (c : ℕ) (a : E) → Goes most (exprs.chain d u c a) (exprs.chain e w c a)
      unfolding exprs.chain
      go-chain c a = goes-then (go-connected c a) (λ b. goes-while (is c) b (go-connected c))

      go-either : (a : E) → Goes most (exprs.either d u a) (exprs.either e w a)
      unfolding exprs.either
      go-either a = goes-branch (is t.AND) (go-connected t.AND a) (go-connected t.OR a)

      go-mix : (c : ℕ) (a : E) → Goes most (exprs.mix d u c a) (exprs.mix e w c a)
      unfolding exprs.mix
      go-mix c a = goes-then (go-connected c a) (λ b. goes-while (has class.Connective) b go-either)

      mix-takes : (c : ℕ) (a : E) (i : List Token) → heads (is c) i ≡ true → left (exprs.mix e w c a i) < length i
      unfolding exprs.mix
      mix-takes c a i g =
          let one = mark-on c (λ at. (joined_on c a at).within) i g in
          let rest = left-then (exprs.connected e w c a i) (λ b. while (has class.Connective) (exprs.either e w) b) (λ b. (goes-while (has class.Connective) b go-either).within) in
          omega (arith, one, rest)

      go-connectives : (s : Bool) (a : E) → Goes most
          (branch (is t.AND) (exprs.chain d u t.AND a >>= (λ b. fenced s (is t.OR) Mixed (exprs.mix d u t.OR) b))
          (branch (is t.OR) (exprs.chain d u t.OR a >>= (λ b. fenced s (is t.AND) Mixed (exprs.mix d u t.AND) b)) (pure a)))
          (branch (is t.AND) (exprs.chain e w t.AND a >>= (λ b. fenced false (is t.OR) Mixed (exprs.mix e w t.OR) b))
          (branch (is t.OR) (exprs.chain e w t.OR a >>= (λ b. fenced false (is t.AND) Mixed (exprs.mix e w t.AND) b)) (pure a)))
      go-connectives s a =
          goes-branch (is t.AND) (goes-then (go-chain t.AND a) (λ b. goes-fenced s t.OR Mixed b (go-mix t.OR) (mix-takes t.OR)))
          (goes-branch (is t.OR) (goes-then (go-chain t.OR a) (λ b. goes-fenced s t.AND Mixed b (go-mix t.AND) (mix-takes t.AND)))
          (goes-pure a))

      go-logic : (s : Bool) → Goes most (exprs.logic d u s) (exprs.logic e w false)
      unfolding exprs.logic
      go-logic s = goes-then go-comparison (go-connectives s)

      go-implied : (p q : Q E) → Goes most p q → (a : E) → Goes most (branch (is t.IMPLIES) (mark t.IMPLIES >>= (λ at. p >>= (λ b. pure (trees.binary at op.Implies a b)))) (pure a))
          (branch (is t.IMPLIES) (mark t.IMPLIES >>= (λ at. q >>= (λ b. pure (trees.binary at op.Implies a b)))) (pure a))
      go-implied p q y a = goes-branch (is t.IMPLIES) (goes-then (goes-mark t.IMPLIES) (λ at. goes-then y (λ b. goes-pure _))) (goes-pure a)

      go-expr_of : (s : Bool) (p q : Q E) → Goes most p q → Goes most (exprs.expr_of d u s p) (exprs.expr_of e w false q)
      unfolding exprs.expr_of
      go-expr_of s p q y = goes-then (go-logic s) (go-implied p q y)

-- ---- what has an inside

module _ (most d e : ℕ) (h : 2 ≤ e) (u w v x : Q E) (go_u : Goes most u w) (go_v : Goes most v x) where
  go-more_args : (es : Args) → Goes most (exprs.more_args d u v es) (exprs.more_args e w x es)
  unfolding exprs.more_args
  go-more_args es = goes-while (is t.COMMA) es (λ fs. goes-then (goes-mark t.COMMA) (λ r. goes-then go_v (λ a. goes-pure _)))

  go-arg_list : Goes most (exprs.arg_list d u v) (exprs.arg_list e w x)
  unfolding exprs.arg_list
  go-arg_list = goes-branch (has class.Expression) (goes-then go_v (λ a. go-more_args (trees.pushed none a))) (goes-pure none)

  go-record_field : (fs : expr_rules.Fields) → Goes most (exprs.field d u v fs) (exprs.field e w x fs)
  unfolding exprs.field
  go-record_field fs = goes-then (goes-inner_name d e (omega (arith, h))) (λ n. goes-then (goes-mark t.COLON) (λ r. goes-then go_v (λ a. goes-pure _)))

  go-record_fields : Goes most (exprs.field_list d u v) (exprs.field_list e w x)
  unfolding exprs.field_list
  go-record_fields =
      goes-branch (is t.NAME) (goes-then (go-record_field none) (λ fs. goes-while (is t.COMMA) fs (λ gs. goes-then (goes-mark t.COMMA) (λ r. go-record_field gs)))) (goes-pure none)

  go-range : (rs : expr_rules.Ranges) → Goes most (exprs.range d u v rs) (exprs.range e w x rs)
  unfolding exprs.range
  go-range rs =
      goes-then (goes-inner_name d e (omega (arith, h))) (λ n. goes-then (goes-mark t.IN) (λ r. goes-then (go-sum most u w go_u) (λ a.
      goes-then (goes-mark t.RANGE) (λ r. goes-then (go-sum most u w go_u) (λ b. goes-pure _)))))

  go-ranges : Goes most (exprs.range_list d u v) (exprs.range_list e w x)
  unfolding exprs.range_list
  go-ranges = goes-then (go-range none) (λ rs. goes-while (is t.COMMA) rs (λ qs. goes-then (goes-mark t.COMMA) (λ r. go-range qs)))

  go-listed : (at : ℕ) → Goes most (exprs.listed d u v at) (exprs.listed e w x at)
  unfolding exprs.listed exprs.listed_rest exprs.repeated exprs.itemized
  go-listed at =
      goes-branch (is t.CLOSE_BRACKET) (goes-then (goes-inner d e t.CLOSE_BRACKET (omega (arith, h))) (λ r. goes-pure _))
      (goes-then go_v (λ a.
      goes-branch (is t.SEMICOLON) (goes-then (goes-mark t.SEMICOLON) (λ r. goes-then go_v (λ n. goes-then (goes-mark t.CLOSE_BRACKET) (λ r. goes-pure _))))
      (goes-then (go-more_args (trees.pushed none a)) (λ es. goes-then (goes-mark t.CLOSE_BRACKET) (λ r. goes-pure _)))))

  go-called : (at : ℕ) (n : List ℕ) → Goes most (exprs.called d u v at n) (exprs.called e w x at n)
  unfolding exprs.called
  go-called at n =
      goes-branch (is t.OPEN_PAREN) (goes-then (goes-mark t.OPEN_PAREN) (λ r. goes-then go-arg_list (λ es. goes-then (goes-inner d e t.CLOSE_PAREN (omega (arith, h))) (λ r. goes-pure _))))
      (goes-pure _)

  go-quantified : (at : ℕ) (all : Bool) → Goes most (exprs.quantified d u v at all) (exprs.quantified e w x at all)
  unfolding exprs.quantified
  go-quantified at all =
      goes-then (goes-mark t.OPEN_BRACE) (λ r. goes-then go-ranges (λ rs. goes-then (goes-mark t.BAR) (λ r. goes-then go_v (λ body.
      goes-then (goes-mark t.CLOSE_BRACE) (λ r. goes-pure _)))))

  go-literal : Goes most exprs.literal exprs.literal
  unfolding exprs.literal
  go-literal = goes-token (has class.Literal) _

  go-quantifier : Goes most exprs.quantifier exprs.quantifier
  unfolding exprs.quantifier
  go-quantifier = goes-token (has class.Quantifier) _

  paren_expr : (r : ℕ) → Goes most (v >>= (λ a. mark t.CLOSE_PAREN >>= (λ r. pure a))) (x >>= (λ a. mark t.CLOSE_PAREN >>= (λ r. pure a)))
  paren_expr r = goes-then go_v (λ a. goes-then (goes-mark t.CLOSE_PAREN) (λ r. goes-pure _))

  length_on : (at : ℕ) → Goes most (exprs.sum u >>= (λ a. mark t.BAR >>= (λ r. pure (trees.len at a)))) (exprs.sum w >>= (λ a. mark t.BAR >>= (λ r. pure (trees.len at a))))
  length_on at = goes-then (go-sum most u w go_u) (λ a. goes-then (goes-mark t.BAR) (λ r. goes-pure _))

  record_expr : (at : ℕ) → Goes most (exprs.field_list d u v >>= (λ fs. inner d t.CLOSE_BRACE >>= (λ r. pure (trees.fields at fs))))
      (exprs.field_list e w x >>= (λ fs. inner e t.CLOSE_BRACE >>= (λ r. pure (trees.fields at fs))))
  record_expr at = goes-then go-record_fields (λ fs. goes-then (goes-inner d e t.CLOSE_BRACE (omega (arith, h))) (λ r. goes-pure _))

  go-primary : Goes most (exprs.primary d u v) (exprs.primary e w x)
  unfolding exprs.primary exprs.enclosed exprs.grouped exprs.barred_in exprs.collected
  go-primary =
      goes-branch (has class.Literal) go-literal
      (goes-branch (is t.NAME) (goes-then goes-name (λ n. go-called n.0 n.1))
      (goes-branch (is t.OPEN_PAREN) (goes-then (goes-mark t.OPEN_PAREN) paren_expr)
      (goes-branch (is t.BAR) (goes-then (goes-mark t.BAR) length_on)
      (goes-branch (is t.OPEN_BRACKET) (goes-then (goes-mark t.OPEN_BRACKET) go-listed)
      (goes-branch (is t.OPEN_BRACE) (goes-then (goes-mark t.OPEN_BRACE) record_expr)
      (goes-then go-quantifier (λ q. go-quantified q.0 q.1)))))))

  take-literal : Takes (members class.Literal) exprs.literal
  unfolding exprs.literal
  take-literal = takes-then (takes-one (members class.Literal)) (λ s. (goes-pure {most = 0} _).within)

  take-quantifier : Takes (members class.Quantifier) exprs.quantifier
  unfolding exprs.quantifier
  take-quantifier = takes-then (takes-one (members class.Quantifier)) (λ s. (goes-pure {most = 0} _).within)

  abbrev from_brace : List ℕ
  from_brace = t.OPEN_BRACE ∷ members class.Quantifier

  abbrev from_bracket : List ℕ
  from_bracket = t.OPEN_BRACKET ∷ from_brace

  abbrev from_bar : List ℕ
  from_bar = t.BAR ∷ from_bracket

  abbrev from_paren : List ℕ
  from_paren = t.OPEN_PAREN ∷ from_bar

  abbrev from_name : List ℕ
  from_name = t.NAME ∷ from_paren

  abbrev primaries : List ℕ
  primaries = members class.Literal ++ from_name

  take-primary : Takes primaries (exprs.primary e w x)
  unfolding exprs.primary exprs.enclosed exprs.grouped exprs.barred_in exprs.collected
  take-primary =
      takes-class (members class.Literal) primaries from_name refl take-literal
      (takes-is t.NAME from_name from_paren refl (name-on (λ n. (go-called n.0 n.1).within))
      (takes-is t.OPEN_PAREN from_paren from_bar refl (mark-on t.OPEN_PAREN (λ r. (paren_expr r).within))
      (takes-is t.BAR from_bar from_bracket refl (mark-on t.BAR (λ at. (length_on at).within))
      (takes-is t.OPEN_BRACKET from_bracket from_brace refl (mark-on t.OPEN_BRACKET (λ at. (go-listed at).within))
      (takes-is t.OPEN_BRACE from_brace (members class.Quantifier) refl (mark-on t.OPEN_BRACE (λ at. (record_expr at).within))
      (takes-then take-quantifier (λ q. (go-quantified q.0 q.1).within)))))))

  go-step : (a : E) → Goes most (exprs.step d u v a) (exprs.step e w x a)
  unfolding exprs.step exprs.indexed exprs.selected
  go-step a =
      goes-branch (is t.OPEN_BRACKET) (goes-then (goes-mark t.OPEN_BRACKET) (λ at. goes-then go_v (λ i. goes-then (goes-mark t.CLOSE_BRACKET) (λ r. goes-pure _))))
      (goes-then (goes-mark t.DOT) (λ at. goes-then goes-name (λ n. goes-pure _)))

  go-steps : (a : E) → Goes most (exprs.steps d u v a) (exprs.steps e w x a)
  unfolding exprs.steps
  go-steps a = goes-while (has class.Step) a go-step

  go-negated : (at : ℕ) → Goes most (exprs.negated d u v at) (exprs.negated e w x at)
  unfolding exprs.negated exprs.glued
  go-negated at =
      goes-branch (touches at) (goes-then (goes-token (touches at) (λ s. expr_rules.opposite s.kind)) (λ n. go-steps _))
      (goes-then (goes-unless (touches at) go_u) (λ a. goes-pure _))

  not_expr : (at : ℕ) → Goes most (u >>= (λ a. pure (trees.not_expr at a))) (w >>= (λ a. pure (trees.not_expr at a)))
  not_expr at = goes-then go_u (λ a. goes-pure _)

  go-unary_of : Goes most (exprs.unary_of d u v) (exprs.unary_of e w x)
  unfolding exprs.unary_of
  go-unary_of =
      goes-branch (is t.NOT) (goes-then (goes-mark t.NOT) not_expr)
      (goes-branch (is t.MINUS) (goes-then (goes-mark t.MINUS) go-negated)
      (goes-then go-primary go-steps))

  take-unary_of : Takes (members class.Expression) (exprs.unary_of e w x)
  unfolding exprs.unary_of
  take-unary_of =
      takes-is t.NOT (members class.Expression) (t.MINUS ∷ primaries) refl (mark-on t.NOT (λ at. (not_expr at).within))
      (takes-is t.MINUS (t.MINUS ∷ primaries) primaries refl (mark-on t.MINUS (λ at. (go-negated at).within))
      (takes-then take-primary (λ a. (go-steps a).within)))

-- ---- levels

abbrev pub lax_mode : ℕ → Mode
lax_mode d = record { depth = d; strict = false }

within-unary : (d : ℕ) → Within (readers false d).unary
within-unary d = exact-within (unary-exact (lax_mode d))

within-expr : (d : ℕ) → Within (readers false d).expr
within-expr d = exact-within (expr-exact (lax_mode d))

unary-takes : (e : ℕ) → 2 ≤ e → Takes (members class.Expression) (readers false (suc e)).unary
unfolding readers
unary-takes e h =
    take-unary_of 0 0 e h refuse (readers false e).unary refuse (readers false e).expr (goes-none (within-unary e)) (goes-none (within-expr e))

-- what begins with an operand
expr_of-takes : (e : ℕ) → 3 ≤ e → (w x : Q E) → Takes (members class.Expression) w → Within w → Within x → Takes (members class.Expression) (exprs.expr_of e w false x)
unfolding exprs.expr_of exprs.logic exprs.comparison exprs.sum exprs.product
expr_of-takes e h w x takes inside_w inside_x =
    let g : Goes 0 refuse w = goes-none inside_w in
    takes-then (takes-then (takes-then (takes-then (takes-then takes (λ a. (go-factors 0 refuse w g a).within)) (λ a. (go-summands 0 refuse w g a).within))
    (λ a. (go-compared 0 refuse w g 0 e h a).within)) (λ a. (go-connectives 0 refuse w g 0 e h false a).within)) (λ a. (go-implied 0 refuse w g 0 e h refuse x (goes-none inside_x) a).within)

expr-takes : (e : ℕ) → 2 ≤ e → Takes (members class.Expression) (readers false (suc e)).expr
unfolding readers
expr-takes e h = expr_of-takes (suc e) (omega (arith, h)) (readers false (suc e)).unary (readers false e).expr (unary-takes e h) (within-unary (suc e)) (within-expr e)

record GoLevel (most : ℕ) (s : Bool) (d e : ℕ) : Type 0 where
  unary_is : Goes most (readers s d).unary (readers false e).unary
  expr_is : Goes most (readers s d).expr (readers false e).expr

go-level : (most : ℕ) (s : Bool) (d e : ℕ) → 3 + d ≤ e → GoLevel most s d e
unfolding readers
go-level most s d zero h = absurd (omega (arith, h))
go-level most s zero (suc e) h = record {
  unary_is = goes-refused (has class.Expression) Deep (unary-takes e (omega (arith, h))).first (within-unary (suc e));
  expr_is = goes-refused (has class.Expression) Deep (expr-takes e (omega (arith, h))).first (within-expr (suc e));
}
go-level most s (suc d) (suc e) h =
    let below = go-level most s d e (omega (arith, h)) in
    let unary = go-unary_of most d e (omega (arith, h)) (readers s d).unary (readers false e).unary (readers s d).expr (readers false e).expr below.unary_is below.expr_is in
    record {
      unary_is = unary;
      expr_is = go-expr_of most (readers s (suc d)).unary (readers false (suc e)).unary unary (suc d) (suc e) h s (readers s d).expr (readers false e).expr below.expr_is;
    }

module _ (most : ℕ) (s : Bool) (d e : ℕ) (h : 3 + d ≤ e) where
  pub go-expr : Goes most (readers s d).expr (readers false e).expr
  go-expr = (go-level most s d e h).expr_is

  pub go-sum_in : Goes most (exprs.sum (readers s d).unary) (exprs.sum (readers false e).unary)
  go-sum_in = go-sum most (readers s d).unary (readers false e).unary (go-level most s d e h).unary_is

  pub go-args : Goes most (exprs.arg_list d (readers s d).unary (readers s d).expr) (exprs.arg_list e (readers false e).unary (readers false e).expr)
  go-args =
      let l = go-level most s d e h in
      go-arg_list most d e (omega (arith, h)) (readers s d).unary (readers false e).unary (readers s d).expr (readers false e).expr l.unary_is l.expr_is
