-- What the rules of expressions give: whatever they read is read again from its text.
use Rattle.std.proofs.Common.{ℕ, zero, suc, Bool, true, List, arith}
use Rattle.wy_ast.specs.declared.expressions.ExprKind.TheVariants as e
use Rattle.wy_parse_front.specs.wy_parse_grammar.declared.fault.Kind.TheVariants.{Deep}
use Rattle.wy_parse_front.specs.wy_parse_grammar.declared.sort.Class.TheVariants as kinds
use Rattle.wy_parse_front.specs.wy_parse_grammar.Sorts as t
use Rattle.wy_parse_front.specs.wy_parse_grammar.Sorts.{has}
use Rattle.wy_parse_front.specs.wy_parse_grammar.Trees.{pushed, named, none, leaf, neg, not_expr, len, index, field, call, list, repeat, fields, range, quant}
use Rattle.wy_parse_front.specs.wy_parse_grammar.ExprGrammar.{E, Args, Fields, Ranges, is_all, Quantifier, NextArg, MoreArgs, ArgList, Field, NextField, FieldList, Range, NextRange, RangeList, Listed, Called, Quantified, Primary, Step, Steps, touches, Negated, UnaryOf, level, Unary, Expr_}
use Rattle.wy_print_laws.proofs.round_lemmas.Gives.{Gives, gives-pure, gives-one, gives-then, gives-or, gives-loop, gives-refused, gives-unless, gives-less, Anything, gives-mark, gives-inner, gives-name, gives-inner_name}
use Rattle.wy_print_laws.proofs.round_lemmas.Commas as commas
use Rattle.wy_print_laws.proofs.round_lemmas.ExprShown.{view, view_value, view_range}
use Rattle.wy_print_laws.proofs.round_lemmas.ExprLines.{IsPart, From, part-by, in-paren}
use Rattle.wy_print_laws.proofs.round_lemmas.ExprLeaves.{gives-literal, var-part, gives-glued}
use Rattle.wy_print_laws.proofs.round_lemmas.ExprOperators.{gives-sum, gives-expr_of}
use Rattle.wy_print_laws.proofs.round_lemmas.ExprUnary.{not-part, neg-part, len-part, index-part, field-part}
use Rattle.wy_print_laws.proofs.round_lemmas.ExprInside.{arg_text, one_arg, IsArgs, AreArgs, args-pushed, call-part, none-part, list-part, repeat-part}
use Rattle.wy_print_laws.proofs.round_lemmas.ExprRanges.{value_text, one_value, IsValues, AreValues, values-pushed, record-part, ends_text, one_range, IsRanges, AreRanges, ranges-pushed, quant-part}

module _ (n : ℕ) (unary : Gives (Unary true n) (IsPart (From 6) n)) (expr : Gives (Expr_ true n) (IsPart (From 0) n)) where
  gives-next_arg : (es : Args) → AreArgs n es → Gives (NextArg n (Unary true n) (Expr_ true n) es) (AreArgs n)
  gives-next_arg es r = gives-then (gives-mark t.COMMA) (λ at h. gives-then expr (λ x p. gives-pure (pushed es x) (AreArgs n) (args-pushed n es x (commas.row-full arg_text view one_arg n es r) p)))

  gives-more_args : (es : Args) → AreArgs n es → Gives (MoreArgs n (Unary true n) (Expr_ true n) es) (AreArgs n)
  gives-more_args es r = gives-loop gives-next_arg es r

  pub gives-arg_list : Gives (ArgList n (Unary true n) (Expr_ true n)) (IsArgs n)
  gives-arg_list =
      gives-or (gives-then expr (λ x p. gives-less (λ es r. commas.row-full arg_text view one_arg n es r) (gives-more_args (pushed none x) (args-pushed n none x (commas.row-none arg_text view one_arg n) p))))
      (gives-pure none (IsArgs n) (commas.row-none arg_text view one_arg n))

  gives-field : (fs : Fields) → IsValues n fs → Gives (Field n (Unary true n) (Expr_ true n) fs) (AreValues n)
  gives-field fs r = gives-then (gives-inner_name n) (λ w v. gives-then (gives-mark t.COLON) (λ at h. gives-then expr (λ x p. gives-pure (pushed fs (named w.1 x)) (AreValues n) (values-pushed n fs w.1 x r v.1 v.0 p))))

  gives-next_field : (fs : Fields) → AreValues n fs → Gives (NextField n (Unary true n) (Expr_ true n) fs) (AreValues n)
  gives-next_field fs r = gives-then (gives-mark t.COMMA) (λ at h. gives-field fs (commas.row-full value_text view_value one_value n fs r))

  gives-field_list : Gives (FieldList n (Unary true n) (Expr_ true n)) (IsValues n)
  gives-field_list =
      gives-or (gives-less (λ fs r. commas.row-full value_text view_value one_value n fs r) (gives-then (gives-field none (commas.row-none value_text view_value one_value n)) (λ fs r. gives-loop gives-next_field fs r)))
      (gives-pure none (IsValues n) (commas.row-none value_text view_value one_value n))

  gives-range : (rs : Ranges) → IsRanges n rs → Gives (Range n (Unary true n) (Expr_ true n) rs) (AreRanges n)
  gives-range rs r =
      gives-then (gives-inner_name n) (λ w v. gives-then (gives-mark t.IN) (λ at h. gives-then (gives-sum n unary) (λ x p. gives-then (gives-mark t.RANGE) (λ there g. gives-then (gives-sum n unary) (λ z q.
      gives-pure (pushed rs (range w.1 x z)) (AreRanges n) (ranges-pushed n rs w.1 x z r v.1 v.0 p q))))))

  gives-next_range : (rs : Ranges) → AreRanges n rs → Gives (NextRange n (Unary true n) (Expr_ true n) rs) (AreRanges n)
  gives-next_range rs r = gives-then (gives-mark t.COMMA) (λ at h. gives-range rs (commas.row-full ends_text view_range one_range n rs r))

  gives-range_list : Gives (RangeList n (Unary true n) (Expr_ true n)) (AreRanges n)
  gives-range_list = gives-then (gives-range none (commas.row-none ends_text view_range one_range n)) (λ rs r. gives-loop gives-next_range rs r)

  gives-listed : (at : ℕ) → Gives (Listed n (Unary true n) (Expr_ true n) at) (IsPart (From 7) (suc n))
  gives-listed at =
      gives-or (gives-then (gives-inner n t.CLOSE_BRACKET) (λ r deep. gives-pure (list at none) (IsPart (From 7) (suc n)) (none-part n at deep)))
      (gives-then expr (λ x p.
      gives-or (gives-then (gives-mark t.SEMICOLON) (λ r h. gives-then expr (λ z q. gives-then (gives-mark t.CLOSE_BRACKET) (λ s g. gives-pure (repeat at x z) (IsPart (From 7) (suc n)) (repeat-part n at x z p q)))))
      (gives-then (gives-more_args (pushed none x) (args-pushed n none x (commas.row-none arg_text view one_arg n) p)) (λ es r. gives-then (gives-mark t.CLOSE_BRACKET) (λ s g. gives-pure (list at es) (IsPart (From 7) (suc n)) (list-part n at es r))))))

  gives-called : (w : ℕ × List ℕ) → Rattle.wy_data.specs.Words.IsName w.1 → Gives (Called n (Unary true n) (Expr_ true n) w.0 w.1) (IsPart (From 7) (suc n))
  gives-called w v =
      gives-or (gives-then (gives-mark t.OPEN_PAREN) (λ at h. gives-then gives-arg_list (λ es r. gives-then (gives-inner n t.CLOSE_PAREN) (λ s deep. gives-pure (call w.0 w.1 es) (IsPart (From 7) (suc n)) (call-part n w.0 w.1 es v deep r)))))
      (gives-pure (leaf w.0 (e.Var w.1)) (IsPart (From 7) (suc n)) (var-part n w.0 w.1 v))

  gives-quantified : (at : ℕ) (all : Bool) → Gives (Quantified n (Unary true n) (Expr_ true n) at all) (IsPart (From 7) (suc n))
  gives-quantified at all =
      gives-then (gives-mark t.OPEN_BRACE) (λ b h. gives-then gives-range_list (λ rs r. gives-then (gives-mark t.BAR) (λ c g. gives-then expr (λ x p. gives-then (gives-mark t.CLOSE_BRACE) (λ d f.
      gives-pure (quant at all rs x) (IsPart (From 7) (suc n)) (quant-part n at all rs x r p))))))

  gives-quantifier : Gives Quantifier (Anything {A = ℕ × Bool})
  gives-quantifier = gives-then (gives-one (has kinds.Quantifier)) (λ s h. gives-pure (s.at, is_all s.kind) (Anything {A = ℕ × Bool}) tt)

  gives-primary : Gives (Primary n (Unary true n) (Expr_ true n)) (IsPart (From 7) (suc n))
  gives-primary =
      gives-or (gives-literal n)
      (gives-or (gives-then gives-name gives-called)
      (gives-or (gives-then (gives-mark t.OPEN_PAREN) (λ at h. gives-then expr (λ x p. gives-then (gives-mark t.CLOSE_PAREN) (λ r g. gives-pure x (IsPart (From 7) (suc n)) (in-paren (From 0) (From 7) n x p)))))
      (gives-or (gives-then (gives-mark t.BAR) (λ at h. gives-then (gives-sum n unary) (λ x p. gives-then (gives-mark t.BAR) (λ r g. gives-pure (len at x) (IsPart (From 7) (suc n)) (len-part n at x p)))))
      (gives-or (gives-then (gives-mark t.OPEN_BRACKET) (λ at h. gives-listed at))
      (gives-or (gives-then (gives-mark t.OPEN_BRACE) (λ at h. gives-then gives-field_list (λ fs r. gives-then (gives-inner n t.CLOSE_BRACE) (λ s deep. gives-pure (fields at fs) (IsPart (From 7) (suc n)) (record-part n at fs deep r)))))
      (gives-then gives-quantifier (λ q h. gives-quantified q.0 q.1)))))))

  gives-step : (x : E) → IsPart (From 7) (suc n) x → Gives (Step n (Unary true n) (Expr_ true n) x) (IsPart (From 7) (suc n))
  gives-step x p =
      gives-or (gives-then (gives-mark t.OPEN_BRACKET) (λ at h. gives-then expr (λ z q. gives-then (gives-mark t.CLOSE_BRACKET) (λ r g. gives-pure (index at x z) (IsPart (From 7) (suc n)) (index-part n at x z p q)))))
      (gives-then (gives-mark t.DOT) (λ at h. gives-then gives-name (λ w v. gives-pure (field at x w.1) (IsPart (From 7) (suc n)) (field-part n at x w.1 v p))))

  gives-steps : (x : E) → IsPart (From 7) (suc n) x → Gives (Steps n (Unary true n) (Expr_ true n) x) (IsPart (From 6) (suc n))
  gives-steps x p = gives-less (λ y q. part-by (From 7) (From 6) (suc n) y (λ l h. omega (arith, h)) q) (gives-loop gives-step x p)

  gives-negated : (at : ℕ) → Gives (Negated n (Unary true n) (Expr_ true n) at) (IsPart (From 6) (suc n))
  gives-negated at =
      gives-or (gives-then (gives-glued n at) (λ z p. gives-steps (leaf at (e.Int z)) p))
      (gives-then (gives-unless (touches at) unary) (λ x p. gives-pure (neg at x) (IsPart (From 6) (suc n)) (neg-part n at x p)))

  pub gives-unary_of : Gives (UnaryOf n (Unary true n) (Expr_ true n)) (IsPart (From 6) (suc n))
  gives-unary_of =
      gives-or (gives-then (gives-mark t.NOT) (λ at h. gives-then unary (λ x p. gives-pure (not_expr at x) (IsPart (From 6) (suc n)) (not-part n at x p))))
      (gives-or (gives-then (gives-mark t.MINUS) (λ at h. gives-negated at))
      (gives-then gives-primary gives-steps))

-- what stands on a level
pub record LevelGives (n : ℕ) : Type 0 where
  pub unary : Gives (Unary true n) (IsPart (From 6) n)
  pub expr : Gives (Expr_ true n) (IsPart (From 0) n)

pub gives-level : (n : ℕ) → LevelGives n
unfolding Unary Expr_ level
gives-level zero = record { unary = gives-refused (IsPart (From 6) 0) (has kinds.Expression) Deep; expr = gives-refused (IsPart (From 0) 0) (has kinds.Expression) Deep }
gives-level (suc n) =
    let below = gives-level n in
    let unary = gives-unary_of n below.unary below.expr in
    record { unary = unary; expr = gives-expr_of n unary below.expr }
