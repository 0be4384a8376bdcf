-- What has an inside is read exactly: a line for each rule.
use Rattle.std.proofs.Common.{◌≡◌, ◌+◌, ℕ, pos, Bool, true, List, [], ◌∷◌, ◌⊎◌, inl, inr, refl, sym, ◌≤◌, true≢false, Ok, eq-eqb}
use Rattle.std.specs.Bool.{⊤}
use Rattle.wy_reading.specs.Mode.{Mode, Looser}
use Rattle.wy_reading.specs.Rule.{Then}
use Rattle.wy_reading.specs.Reader.{◌>>=◌}
use Rattle.wy_reading.proofs.Exactness.{Exact, Passes, Lacks, Any, Sample}
use Rattle.wy_reading.proofs.Single.{nothing}
use Rattle.wy_reading.proofs.Sequence.{sequence}
use Rattle.wy_reading.proofs.Choice.{choice}
use Rattle.wy_reading.proofs.Repetition.{repetition, repetition_before}
use Rattle.wy_reading.proofs.Adapting.{adapt}
use Rattle.wy_reading.proofs.Bars.{unless-exact}
use Rattle.wy_ast.specs.declared.expressions.ExprKind.TheVariants as e
use Rattle.wy_lex.specs.declared.token.Token.{Token}
use Rattle.wy_lex.specs.declared.token.TokenKind.TheVariants as k
use Rattle.wy_parse_grammar.specs.declared.sort.Class.TheVariants as class
use Rattle.wy_parse_grammar.specs.Sorts as t
use Rattle.wy_parse_grammar.specs.Sorts.{is, has, members}
use Rattle.wy_parse_grammar.specs.Steps.{R, Q, Inner, inner}
use Rattle.wy_parse_grammar.specs.Trees as trees
use Rattle.wy_parse_grammar.specs.Trees.{pushed, named, none, leaf}
use Rattle.wy_parse_grammar.specs.ExprGrammar as rule
use Rattle.wy_parse_grammar.specs.ExprGrammar.{E, Args, Fields, Ranges, literal_kind, touches, opposite, is_all}
use Rattle.wy_parse_grammar.specs.ExprReading as read
use Rattle.wy_parse_grammar.proofs.TokenLemmas.{among_these, some, at, at_other, no, one_out, fewer, apart, member, choice_of, choice_among}
use Rattle.wy_parse_grammar.proofs.StepsExact.{token-exact, mark-exact, name-exact, inner-exact, inner_name-exact}
use Rattle.wy_parse_grammar.proofs.OperatorsExact.{after_unary, after_sum, after_expr, After, BeginsExpr, sum-exact}

-- what begins a primary
abbrev pub primaries : List ℕ
primaries =
    t.NUMERAL ∷ t.TEXT ∷ t.NULL ∷ t.TRUE ∷ t.FALSE ∷ t.NAME ∷ t.OPEN_PAREN ∷ t.BAR ∷ t.OPEN_BRACKET ∷ t.OPEN_BRACE ∷ t.ALL ∷ t.SOME ∷ []

abbrev after_name : List ℕ
after_name = t.OPEN_PAREN ∷ []

abbrev after_args : List ℕ
after_args = t.COMMA ∷ after_expr

abbrev after_ranges : List ℕ
after_ranges = t.COMMA ∷ after_sum

literal-exact : {n : Mode} {F : List Token → Type 0} → Exact n rule.Literal (λ m. read.literal) F (Passes (has class.Literal))
unfolding read.literal
literal-exact = token-exact (has class.Literal) (λ s. leaf s.at (literal_kind s.kind)) (some k.Null) refl

quantifier-exact : {n : Mode} {F : List Token → Type 0} → Exact n rule.Quantifier (λ m. read.quantifier) F (Passes (has class.Quantifier))
unfolding read.quantifier
quantifier-exact = token-exact (has class.Quantifier) (λ s. (s.at, is_all s.kind)) (some k.All) refl

-- a numeral that touches a minus at the place
abbrev touching : ℕ → Token
touching place = record { kind = k.Numeral (pos 0); at = place + 1 }

pub glued-exact : {n : Mode} {F : List Token → Type 0} (place : ℕ) → Exact n (rule.Glued place) (λ m. read.glued place) F (Passes (touches place))
unfolding read.glued
glued-exact place = token-exact (touches place) (λ s. opposite s.kind) (touching place) (eq-eqb (place + 1) (place + 1) refl)

module _ (d : ℕ) (s : Bool) (U : R E) (u : Mode → Q E) (V : R E) (v : Mode → Q E) where
  abbrev n : Mode
  n = record { depth = d; strict = s }

  module _ (uexact : Exact n U u (After after_unary) BeginsExpr) (vexact : Exact n V v (After after_expr) BeginsExpr) where
    next_arg-exact : (es : Args) → Exact n (rule.NextArg d U V es) (λ m. read.next_arg m.depth (u m) (v m) es) (After after_expr) (Passes (is t.COMMA))
    next_arg-exact es = sequence (mark-exact {F = Any} t.COMMA (some k.Comma) refl) (λ r. sequence vexact (λ a. nothing (pushed es a)) (λ i f. f)) (λ i b. tt)

    -- arguments of a call, and items of a list
    abbrev pub AfterArgs : List Token → Type 0
    AfterArgs i = After after_args i × Lacks (has class.Expression) i

    pub arg_list-exact : Exact n (rule.ArgList d U V) (λ m. read.arg_list m.depth (u m) (v m)) AfterArgs (λ i. BeginsExpr i ⊎ AfterArgs i)
    unfolding read.arg_list read.more_args
    arg_list-exact =
        choice (has class.Expression)
        (sequence vexact
        (λ a. repetition (is t.COMMA) next_arg-exact (λ i h. h) (λ i f. one_out t.COMMA after_args i refl f.0) (λ i f. fewer after_expr after_args i refl f.0)
        (λ i h. at t.COMMA after_expr i h) (refl, refl) (pushed none a))
        (λ i b. elim b [ inl f ↦ fewer after_expr after_args i refl f.0 | inr h ↦ at t.COMMA after_expr i h ]))
        (nothing none) (λ i h. h) (λ i f. f.1)

    items-exact : (es : Args) → Exact n (rule.MoreArgs d U V es) (λ m. read.more_args m.depth (u m) (v m) es) (Passes (is t.CLOSE_BRACKET))
        (λ i. Passes (is t.CLOSE_BRACKET) i ⊎ Passes (is t.COMMA) i)
    unfolding read.more_args
    items-exact es =
        repetition_before (is t.COMMA) next_arg-exact (λ i h. h) (λ i f. at_other t.COMMA t.CLOSE_BRACKET i refl f) (λ i f. at t.CLOSE_BRACKET after_expr i f)
        (λ i h. at t.COMMA after_expr i h) (some k.CloseBracket ∷ []) refl es

    field-exact : (fs : Fields) → Exact n (rule.Field d U V fs) (λ m. read.field m.depth (u m) (v m) fs) (After after_expr) (Passes (is t.NAME))
    unfolding read.field
    field-exact fs =
        sequence (inner_name-exact {F = Any} d s)
        (λ w. sequence (mark-exact {F = Any} t.COLON (some k.Colon) refl) (λ r. sequence vexact (λ a. nothing (pushed fs (named w.1 a))) (λ i f. f)) (λ i b. tt)) (λ i b. tt)

    next_field-exact : (fs : Fields) → Exact n (rule.NextField d U V fs) (λ m. read.next_field m.depth (u m) (v m) fs) (After after_expr) (Passes (is t.COMMA))
    next_field-exact fs = sequence (mark-exact {F = Any} t.COMMA (some k.Comma) refl) (λ r. field-exact fs) (λ i b. tt)

    abbrev AfterFields : List Token → Type 0
    AfterFields i = After after_args i × Lacks (is t.NAME) i

    field_list-exact : Exact n (rule.FieldList d U V) (λ m. read.field_list m.depth (u m) (v m)) AfterFields (λ i. Passes (is t.NAME) i ⊎ AfterFields i)
    unfolding read.field_list
    field_list-exact =
        choice (is t.NAME)
        (sequence (field-exact none)
        (λ fs. repetition (is t.COMMA) next_field-exact (λ i h. h) (λ i f. one_out t.COMMA after_args i refl f.0) (λ i f. fewer after_expr after_args i refl f.0)
        (λ i h. at t.COMMA after_expr i h) (refl, refl) fs)
        (λ i b. elim b [ inl f ↦ fewer after_expr after_args i refl f.0 | inr h ↦ at t.COMMA after_expr i h ]))
        (nothing none) (λ i h. h) (λ i f. f.1)

    range-exact : (rs : Ranges) → Exact n (rule.Range d U V rs) (λ m. read.range m.depth (u m) (v m) rs) (After after_sum) (Passes (is t.NAME))
    unfolding read.range
    range-exact rs =
        sequence (inner_name-exact {F = Any} d s)
        (λ w. sequence (mark-exact {F = Any} t.IN (some k.In) refl)
        (λ r. sequence (sum-exact n U u uexact)
        (λ a. sequence (mark-exact {F = Any} t.RANGE (some k.Range) refl)
        (λ r. sequence (sum-exact n U u uexact) (λ b. nothing (pushed rs (trees.range w.1 a b))) (λ i f. f)) (λ i b. tt))
        (λ i h. at t.RANGE after_sum i h)) (λ i b. tt)) (λ i b. tt)

    next_range-exact : (rs : Ranges) → Exact n (rule.NextRange d U V rs) (λ m. read.next_range m.depth (u m) (v m) rs) (After after_sum) (Passes (is t.COMMA))
    next_range-exact rs = sequence (mark-exact {F = Any} t.COMMA (some k.Comma) refl) (λ r. range-exact rs) (λ i b. tt)

    range_list-exact : Exact n (rule.RangeList d U V) (λ m. read.range_list m.depth (u m) (v m)) (After after_ranges) (Passes (is t.NAME))
    unfolding read.range_list
    range_list-exact =
        sequence (range-exact none)
        (λ rs. repetition (is t.COMMA) next_range-exact (λ i h. h) (λ i f. one_out t.COMMA after_ranges i refl f) (λ i f. fewer after_sum after_ranges i refl f)
        (λ i h. at t.COMMA after_sum i h) refl rs)
        (λ i b. elim b [ inl f ↦ fewer after_sum after_ranges i refl f | inr h ↦ at t.COMMA after_sum i h ])

    -- a bracket that closes a pair which may be empty
    closing-exact : {F : List Token → Type 0} (c : ℕ) (s' : Token) → is c s' ≡ true → Exact n (Inner d c) (λ m. inner m.depth c) F (Passes (is c))
    closing-exact {F} c s' good = inner-exact (λ l. l) 1 (λ a b h. h) (λ l h. h) c s' good {F = F} n

    listed-exact : (place : ℕ) → Exact n (rule.Listed d U V place) (λ m. read.listed m.depth (u m) (v m) place) Any (λ i. Passes (is t.CLOSE_BRACKET) i ⊎ BeginsExpr i)
    unfolding read.listed read.listed_rest read.repeated read.itemized
    listed-exact place =
        choice (is t.CLOSE_BRACKET)
        (sequence (closing-exact {F = Any} t.CLOSE_BRACKET (some k.CloseBracket) refl) (λ r. nothing (trees.list place none)) (λ i b. tt))
        (sequence vexact
        (λ a. choice (is t.SEMICOLON)
        (sequence (mark-exact {F = Any} t.SEMICOLON (some k.Semicolon) refl)
        (λ r. sequence vexact
        (λ c. sequence (mark-exact {F = Any} t.CLOSE_BRACKET (some k.CloseBracket) refl) (λ r. nothing (trees.repeat place a c)) (λ i b. tt))
        (λ i h. at t.CLOSE_BRACKET after_expr i h)) (λ i b. tt))
        (sequence (items-exact (pushed none a))
        (λ es. sequence (mark-exact {F = Any} t.CLOSE_BRACKET (some k.CloseBracket) refl) (λ r. nothing (trees.list place es)) (λ i b. tt)) (λ i h. h))
        (λ i h. h)
        (λ i b. elim b [ inl h ↦ at_other t.SEMICOLON t.CLOSE_BRACKET i refl h | inr h ↦ at_other t.SEMICOLON t.COMMA i refl h ]))
        (λ i b. link i b))
        (λ i h. h) (λ i h. no t.CLOSE_BRACKET (members class.Expression) i refl h)
      where
        link : (i : List Token) → Passes (is t.SEMICOLON) i ⊎ (Passes (is t.CLOSE_BRACKET) i ⊎ Passes (is t.COMMA) i) → After after_expr i
        link i (inl h) = at t.SEMICOLON after_expr i h
        link i (inr (inl h)) = at t.CLOSE_BRACKET after_expr i h
        link i (inr (inr h)) = at t.COMMA after_expr i h

    called-exact : (place : ℕ) (w : List ℕ) → Exact n (rule.Called d U V place w) (λ m. read.called m.depth (u m) (v m) place w) (After after_name)
        (λ i. Passes (is t.OPEN_PAREN) i ⊎ After after_name i)
    unfolding read.called
    called-exact place w =
        choice (is t.OPEN_PAREN)
        (sequence (mark-exact {F = Any} t.OPEN_PAREN (some k.OpenParen) refl)
        (λ r. sequence arg_list-exact
        (λ es. sequence (closing-exact {F = Any} t.CLOSE_PAREN (some k.CloseParen) refl) (λ r. nothing (trees.call place w es)) (λ i b. tt))
        (λ i h. (at t.CLOSE_PAREN after_args i h, at t.CLOSE_PAREN (members class.Expression) i h))) (λ i b. tt))
        (nothing (leaf place (e.Var w))) (λ i h. h) (λ i f. one_out t.OPEN_PAREN after_name i refl f)

    quantified-exact : (place : ℕ) (all : Bool) → Exact n (rule.Quantified d U V place all) (λ m. read.quantified m.depth (u m) (v m) place all) Any (Passes (is t.OPEN_BRACE))
    unfolding read.quantified
    quantified-exact place all =
        sequence (mark-exact {F = Any} t.OPEN_BRACE (some k.OpenBrace) refl)
        (λ r. sequence range_list-exact
        (λ rs. sequence (mark-exact {F = Any} t.BAR (some k.Bar) refl)
        (λ r. sequence vexact
        (λ body. sequence (mark-exact {F = Any} t.CLOSE_BRACE (some k.CloseBrace) refl) (λ r. nothing (trees.quant place all rs body)) (λ i b. tt))
        (λ i h. at t.CLOSE_BRACE after_expr i h)) (λ i b. tt))
        (λ i h. at t.BAR after_ranges i h)) (λ i b. tt)

    primary-exact : Exact n (rule.Primary d U V) (λ m. read.primary m.depth (u m) (v m)) (After after_name) (Passes (among_these primaries))
    unfolding read.primary read.enclosed read.grouped read.barred_in read.collected
    primary-exact =
        choice_among (members class.Literal) (t.NAME ∷ t.OPEN_PAREN ∷ t.BAR ∷ t.OPEN_BRACKET ∷ t.OPEN_BRACE ∷ t.ALL ∷ t.SOME ∷ []) primaries literal-exact
        (choice_of t.NAME (t.OPEN_PAREN ∷ t.BAR ∷ t.OPEN_BRACKET ∷ t.OPEN_BRACE ∷ t.ALL ∷ t.SOME ∷ []) (t.NAME ∷ t.OPEN_PAREN ∷ t.BAR ∷ t.OPEN_BRACKET ∷ t.OPEN_BRACE ∷ t.ALL ∷ t.SOME ∷ [])
        (sequence (name-exact {F = Any}) (λ w. called-exact w.0 w.1) (λ i b. tt))
        (choice_of t.OPEN_PAREN (t.BAR ∷ t.OPEN_BRACKET ∷ t.OPEN_BRACE ∷ t.ALL ∷ t.SOME ∷ []) (t.OPEN_PAREN ∷ t.BAR ∷ t.OPEN_BRACKET ∷ t.OPEN_BRACE ∷ t.ALL ∷ t.SOME ∷ [])
        (sequence (mark-exact {F = Any} t.OPEN_PAREN (some k.OpenParen) refl)
        (λ r. sequence vexact (λ a. sequence (mark-exact {F = Any} t.CLOSE_PAREN (some k.CloseParen) refl) (λ r. nothing a) (λ i b. tt)) (λ i h. at t.CLOSE_PAREN after_expr i h)) (λ i b. tt))
        (choice_of t.BAR (t.OPEN_BRACKET ∷ t.OPEN_BRACE ∷ t.ALL ∷ t.SOME ∷ []) (t.BAR ∷ t.OPEN_BRACKET ∷ t.OPEN_BRACE ∷ t.ALL ∷ t.SOME ∷ [])
        (sequence (mark-exact {F = Any} t.BAR (some k.Bar) refl)
        (λ place. sequence (sum-exact n U u uexact) (λ a. sequence (mark-exact {F = Any} t.BAR (some k.Bar) refl) (λ r. nothing (trees.len place a)) (λ i b. tt)) (λ i h. at t.BAR after_sum i h)) (λ i b. tt))
        (choice_of t.OPEN_BRACKET (t.OPEN_BRACE ∷ t.ALL ∷ t.SOME ∷ []) (t.OPEN_BRACKET ∷ t.OPEN_BRACE ∷ t.ALL ∷ t.SOME ∷ [])
        (adapt (sequence (mark-exact {F = Any} t.OPEN_BRACKET (some k.OpenBracket) refl) listed-exact (λ i b. tt)) (λ i f. tt) (λ i b. b) (λ a p. tt))
        (choice_of t.OPEN_BRACE (t.ALL ∷ t.SOME ∷ []) (t.OPEN_BRACE ∷ t.ALL ∷ t.SOME ∷ [])
        (sequence (mark-exact {F = Any} t.OPEN_BRACE (some k.OpenBrace) refl)
        (λ place. sequence field_list-exact
        (λ fs. sequence (closing-exact {F = Any} t.CLOSE_BRACE (some k.CloseBrace) refl) (λ r. nothing (trees.fields place fs)) (λ i b. tt))
        (λ i h. (at t.CLOSE_BRACE after_args i h, at_other t.NAME t.CLOSE_BRACE i refl h))) (λ i b. tt))
        (adapt (sequence (quantifier-exact {F = Any}) (λ q. quantified-exact q.0 q.1) (λ i b. tt)) (λ i f. tt) (λ i b. b) (λ a p. tt))
        refl refl refl) refl refl refl) refl refl refl) refl refl refl) refl refl refl) refl refl refl

    step-exact : (a : E) → Exact n (rule.Step d U V a) (λ m. read.step m.depth (u m) (v m) a) Any (Passes (has class.Step))
    unfolding read.step read.indexed read.selected
    step-exact a =
        adapt (choice (is t.OPEN_BRACKET)
        (sequence (mark-exact {F = Any} t.OPEN_BRACKET (some k.OpenBracket) refl)
        (λ place. sequence vexact (λ i. sequence (mark-exact {F = Any} t.CLOSE_BRACKET (some k.CloseBracket) refl) (λ r. nothing (trees.index place a i)) (λ i b. tt))
        (λ i h. at t.CLOSE_BRACKET after_expr i h)) (λ i b. tt))
        (sequence (mark-exact {F = Any} t.DOT (some k.Dot) refl) (λ place. sequence (name-exact {F = Any}) (λ w. nothing (trees.field place a w.1)) (λ i b. tt)) (λ i b. tt))
        (λ i h. h) (λ i h. at_other t.OPEN_BRACKET t.DOT i refl h))
        (λ i f. f) (λ i b. elim b [ inl h ↦ member t.OPEN_BRACKET (members class.Step) i refl h | inr h ↦ member t.DOT (members class.Step) i refl h ]) (λ a p. tt)

    abbrev BeginsSteps : List Token → Type 0
    BeginsSteps i = After after_unary i ⊎ Passes (has class.Step) i

    steps-exact : (a : E) → Exact n (rule.Steps d U V a) (λ m. read.steps m.depth (u m) (v m) a) (After after_unary) BeginsSteps
    unfolding read.steps
    steps-exact a =
        repetition (has class.Step) step-exact (λ i h. h) (λ i f. fewer (members class.Step) after_unary i refl f) (λ i f. tt) (λ i h. tt) refl a

    postfix-exact : Exact n (Then (rule.Primary d U V) (λ a. rule.Steps d U V a)) (λ m. read.primary m.depth (u m) (v m) >>= (λ a. read.steps m.depth (u m) (v m) a))
        (After after_unary) (Passes (among_these primaries))
    postfix-exact = sequence primary-exact steps-exact
        (λ i b. elim b [ inl f ↦ fewer after_name after_unary i refl f | inr h ↦ apart (members class.Step) after_name i refl h ])

    -- ---- what may be an operand; some token that may is given

    module _ (null_reads : (m : Mode) → Looser n m → 1 ≤ m.depth → (z : List Token) → After after_unary z → u m (some k.Null ∷ z) ≡ Ok (leaf 0 e.Null, z)) where
      sample : Sample n u (λ a. After after_unary) BeginsExpr (λ a. ⊤)
      sample = record {
        text = some k.Null ∷ [];
        made = leaf 0 e.Null;
        wanted = tt;
        deep = 1;
        alive = λ m le deep z f. null_reads m le deep z f;
        starts = λ z f. refl;
      }

      negated-exact : (place : ℕ) → Exact n (rule.Negated d U V place) (λ m. read.negated m.depth (u m) (v m) place) (After after_unary)
          (λ i. Passes (touches place) i ⊎ (BeginsExpr i × Lacks (touches place) i))
      unfolding read.negated sample
      negated-exact place =
          choice (touches place)
          (sequence (glued-exact {F = Any} place) (λ c. steps-exact (leaf place (e.Int c))) (λ i b. tt))
          (sequence (unless-exact n (touches place) U u (λ a. After after_unary) BeginsExpr (λ a. ⊤) uexact sample (λ z f. refl) (λ a. refl) (λ h. absurd (true≢false (sym h))))
          (λ a. nothing (trees.neg place a)) (λ i f. f))
          (λ i h. h) (λ i h. h.1)

      after_minus-exact : (place : ℕ) → Exact n (rule.Negated d U V place) (λ m. read.negated m.depth (u m) (v m) place) (After after_unary) Any
      after_minus-exact place = adapt (negated-exact place) (λ i f. f) (λ i b. tt) (λ a p. tt)

      pub unary_of-exact : Exact n (rule.UnaryOf d U V) (λ m. read.unary_of m.depth (u m) (v m)) (After after_unary) BeginsExpr
      unfolding read.unary_of
      unary_of-exact =
          choice_of t.NOT (t.MINUS ∷ primaries) (members class.Expression)
          (sequence (mark-exact {F = Any} t.NOT (some k.Not) refl) (λ place. sequence uexact (λ a. nothing (trees.not_expr place a)) (λ i f. f)) (λ i b. tt))
          (choice_of t.MINUS primaries (t.MINUS ∷ primaries)
          (sequence (mark-exact {F = Any} t.MINUS (some k.Minus) refl) after_minus-exact (λ i b. tt))
          postfix-exact refl refl refl) refl refl refl
