-- Statements without blocks are read exactly: a line for each rule.
use Rattle.std.proofs.Common.{ℕ, true≢false, List, [], ◌∷◌, ◌⊎◌, inl, inr, refl, sym, None}
use Rattle.wy_reading.specs.Mode.{Mode}
use Rattle.wy_reading.proofs.Exactness.{Exact, Passes, Any}
use Rattle.wy_reading.proofs.Single.{nothing}
use Rattle.wy_reading.proofs.Sequence.{sequence}
use Rattle.wy_reading.proofs.Choice.{choice}
use Rattle.wy_reading.proofs.Repetition.{repetition_before, repetition}
use Rattle.wy_reading.proofs.Adapting.{adapt}
use Rattle.wy_lex.specs.declared.token.Token.{Token}
use Rattle.wy_lex.specs.declared.token.TokenKind.TheVariants as k
use Rattle.wy_parse_grammar.specs.declared.measured.Measured.TheVariants.{Low}
use Rattle.wy_parse_grammar.specs.declared.sort.Class.TheVariants as class
use Rattle.wy_parse_grammar.specs.Sorts as t
use Rattle.wy_parse_grammar.specs.Sorts.{is, has, members}
use Rattle.wy_parse_grammar.specs.Trees as parts
use Rattle.wy_parse_grammar.specs.TypeGrammar.{T, Type_}
use Rattle.wy_parse_grammar.specs.TypeReading.{type_term}
use Rattle.wy_parse_grammar.specs.ExprGrammar.{Args}
use Rattle.wy_parse.specs.StmtTrees as trees
use Rattle.wy_parse.specs.StmtTrees.{S, Path}
use Rattle.wy_parse.specs.StmtGrammar as rule
use Rattle.wy_parse.specs.StmtGrammar.{word_kind}
use Rattle.wy_parse.specs.StmtReading as read
use Rattle.wy_parse_grammar.proofs.TokenLemmas.{some, at, at_other, no, one_out, fewer, member, choice_of, choice_among}
use Rattle.wy_parse_grammar.proofs.StepsExact.{token-exact, mark-exact, name-exact}
use Rattle.wy_parse_grammar.proofs.TypesExact.{type-exact, type_rest-exact, type_tail-exact, closing-exact, joins_type, AfterType, BeginsType}
use Rattle.wy_parse_grammar.proofs.OperatorsExact.{after_expr, After}
use Rattle.wy_parse_grammar.proofs.ExprLevels.{expr-exact, inner_expr-exact, inner_args-exact}
use Rattle.wy_parse_grammar.proofs.PlacedExact.{placed-exact}

word-exact : {n : Mode} {F : List Token → Type 0} → Exact n rule.Word (λ m. read.word) F (Passes (has class.Word))
unfolding read.word
word-exact = token-exact (has class.Word) (λ s. trees.stmt_node s.at (Low (word_kind s.kind) 0)) (some k.Skip) refl

pub word_stmt-exact : {n : Mode} → Exact n rule.WordStmt (λ m. read.word_stmt) Any (Passes (has class.Word))
unfolding read.word_stmt rule.WordStmt
word_stmt-exact = sequence (word-exact {F = Any}) (λ st. sequence (mark-exact {F = Any} t.LINE_END (some k.LineEnd) refl) (λ r. nothing st) (λ i b. tt)) (λ i b. tt)

module _ (n : Mode) where
  pub return_stmt-exact : Exact n (rule.ReturnStmt n.strict n.depth) (λ m. read.return_stmt m.strict m.depth) Any (Passes (is t.RETURN))
  unfolding read.return_stmt rule.ReturnStmt
  return_stmt-exact =
      sequence (mark-exact {F = Any} t.RETURN (some k.Return) refl)
      (λ place. choice (is t.LINE_END)
      (sequence (mark-exact {F = Any} t.LINE_END (some k.LineEnd) refl) (λ r. nothing (trees.return_node place (Low None 0))) (λ i b. tt))
      (sequence (expr-exact n)
      (λ a. sequence (mark-exact {F = Any} t.LINE_END (some k.LineEnd) refl) (λ r. nothing (trees.return_node place (parts.some a))) (λ i b. tt))
      (λ i h. at t.LINE_END after_expr i h))
      (λ i h. h) (λ i h. no t.LINE_END (members class.Expression) i refl h))
      (λ i b. tt)

  pub assert_stmt-exact : Exact n (rule.AssertStmt n.strict n.depth) (λ m. read.assert_stmt m.strict m.depth) Any (Passes (is t.ASSERT))
  unfolding read.assert_stmt rule.AssertStmt
  assert_stmt-exact =
      sequence (mark-exact {F = Any} t.ASSERT (some k.Assert) refl)
      (λ place. sequence (expr-exact n)
      (λ a. sequence (mark-exact {F = Any} t.LINE_END (some k.LineEnd) refl) (λ r. nothing (trees.assert_node place a)) (λ i b. tt))
      (λ i h. at t.LINE_END after_expr i h))
      (λ i b. tt)

  pub declared-exact : (place : ℕ) (ty : T) → Exact n (rule.Declared n.strict n.depth place ty) (λ m. read.declared m.strict m.depth place ty) Any (Passes (is t.NAME))
  unfolding read.declared rule.Declared
  declared-exact place ty =
      sequence (name-exact {F = Any})
      (λ w. choice (is t.ASSIGN)
      (sequence (mark-exact {F = Any} t.ASSIGN (some k.Assign) refl)
      (λ r. sequence (expr-exact n)
      (λ a. sequence (mark-exact {F = Any} t.LINE_END (some k.LineEnd) refl) (λ r. nothing (trees.declare_node place ty w.1 (parts.some a))) (λ i b. tt))
      (λ i h. at t.LINE_END after_expr i h))
      (λ i b. tt))
      (sequence (mark-exact {F = Any} t.LINE_END (some k.LineEnd) refl) (λ r. nothing (trees.declare_node place ty w.1 (Low None 0))) (λ i b. tt))
      (λ i h. h) (λ i h. at_other t.ASSIGN t.LINE_END i refl h))
      (λ i b. tt)

  pub valued-exact : (place : ℕ) (w : List ℕ) (p : Path) → Exact n (rule.Valued n.strict n.depth place w p) (λ m. read.valued m.strict m.depth place w p) Any (Passes (is t.ASSIGN))
  unfolding read.valued rule.Valued
  valued-exact place w p =
      sequence (mark-exact {F = Any} t.ASSIGN (some k.Assign) refl)
      (λ r. sequence (expr-exact n)
      (λ a. sequence (mark-exact {F = Any} t.LINE_END (some k.LineEnd) refl) (λ r. nothing (trees.assign_node place w p a)) (λ i b. tt))
      (λ i h. at t.LINE_END after_expr i h))
      (λ i b. tt)

  pub declare_stmt-exact : Exact n (rule.DeclareStmt n.strict n.depth) (λ m. read.declare_stmt m.strict m.depth) Any BeginsType
  unfolding read.declare_stmt rule.DeclareStmt
  declare_stmt-exact =
      sequence (placed-exact n (Type_ n.depth) (λ m. type_term m.depth) AfterType BeginsType (type-exact n) refl (λ h. absurd (true≢false (sym h))))
      (λ p. declared-exact p.0 p.1) (λ i h. at t.NAME joins_type i h)

  call_stmt-exact : (place : ℕ) (w : List ℕ) → Exact n (rule.CallStmt n.strict n.depth place w) (λ m. read.call_stmt m.strict m.depth place w) Any (Passes (is t.OPEN_PAREN))
  unfolding read.call_stmt rule.CallStmt
  call_stmt-exact place w =
      sequence (mark-exact {F = Any} t.OPEN_PAREN (some k.OpenParen) refl)
      (λ r. sequence (inner_args-exact n)
      (λ es. sequence (closing-exact {F = Any} n t.CLOSE_PAREN (some k.CloseParen) refl)
      (λ r. sequence (mark-exact {F = Any} t.LINE_END (some k.LineEnd) refl) (λ r. nothing (trees.call_node place w es)) (λ i b. tt)) (λ i b. tt))
      (λ i h. (at t.CLOSE_PAREN (t.COMMA ∷ after_expr) i h, at t.CLOSE_PAREN (members class.Expression) i h)))
      (λ i b. tt)

  field_step-exact : (p : Path) → Exact n (rule.FieldStep p) (λ m. read.field_step p) Any (Passes (is t.DOT))
  unfolding read.field_step
  field_step-exact p =
      sequence (mark-exact {F = Any} t.DOT (some k.Dot) refl) (λ place. sequence (name-exact {F = Any}) (λ w. nothing (parts.pushed p (trees.field_step place w.1))) (λ i b. tt)) (λ i b. tt)

  step-exact : (p : Path) → Exact n (rule.Step n.strict n.depth p) (λ m. read.step m.strict m.depth p) Any (Passes (has class.Step))
  unfolding read.step
  step-exact p =
      adapt (choice (is t.OPEN_BRACKET)
      (sequence (mark-exact {F = Any} t.OPEN_BRACKET (some k.OpenBracket) refl)
      (λ place. sequence (inner_expr-exact n)
      (λ i. sequence (mark-exact {F = Any} t.CLOSE_BRACKET (some k.CloseBracket) refl) (λ r. nothing (parts.pushed p (trees.index_step place i))) (λ j b. tt))
      (λ i h. at t.CLOSE_BRACKET after_expr i h))
      (λ i b. tt))
      (field_step-exact p) (λ i h. h) (λ i h. at_other t.OPEN_BRACKET t.DOT i refl h))
      (λ i f. f) (λ i b. elim b [ inl h ↦ member t.OPEN_BRACKET (members class.Step) i refl h | inr h ↦ member t.DOT (members class.Step) i refl h ]) (λ a p. tt)

  assigned-exact : (place : ℕ) (w : List ℕ) (p : Path) → Exact n (rule.Assigned n.strict n.depth place w p) (λ m. read.assigned m.strict m.depth place w p) Any Any
  unfolding read.assigned rule.Assigned read.steps
  assigned-exact place w p =
      adapt (sequence
      (repetition_before (has class.Step) step-exact (λ i h. h) (λ i f. at t.ASSIGN (members class.Step) i f) (λ i f. tt) (λ i h. tt) (some k.Assign ∷ []) refl p)
      (λ q. valued-exact place w q) (λ i h. h))
      (λ i f. f) (λ i b. tt) (λ a x. tt)

  bracket_stmt-exact : (place : ℕ) (w : List ℕ) → Exact n (rule.BracketStmt n.strict n.depth place w) (λ m. read.bracket_stmt m.strict m.depth place w) Any (Passes (is t.OPEN_BRACKET))
  unfolding read.bracket_stmt read.array_stmt read.index_stmt rule.BracketStmt
  bracket_stmt-exact place w =
      sequence (mark-exact {F = Any} t.OPEN_BRACKET (some k.OpenBracket) refl)
      (λ b. choice (is t.CLOSE_BRACKET)
      (sequence (closing-exact {F = Any} n t.CLOSE_BRACKET (some k.CloseBracket) refl)
      (λ r. sequence (type_rest-exact n (parts.array_ty b (parts.named_ty place w))) (λ ty. declared-exact place ty) (λ i h. at t.NAME joins_type i h)) (λ i b. tt))
      (sequence (inner_expr-exact n)
      (λ i. sequence (mark-exact {F = Any} t.CLOSE_BRACKET (some k.CloseBracket) refl) (λ r. assigned-exact place w (parts.pushed parts.none (trees.index_step b i))) (λ j b. tt))
      (λ i h. at t.CLOSE_BRACKET after_expr i h))
      (λ i h. h) (λ i h. no t.CLOSE_BRACKET (members class.Expression) i refl h))
      (λ i b. tt)

  pub named_stmt-exact : Exact n (rule.NamedStmt n.strict n.depth) (λ m. read.named_stmt m.strict m.depth) Any (Passes (is t.NAME))
  unfolding read.named_stmt read.named_rest read.path_stmt rule.NamedStmt
  named_stmt-exact =
      sequence (name-exact {F = Any})
      (λ w. adapt {F' = Any} {B' = Any} (choice_of t.OPEN_PAREN (t.OPEN_BRACKET ∷ t.NAME ∷ t.BAR ∷ t.AMPERSAND ∷ t.DOT ∷ t.ASSIGN ∷ []) (t.OPEN_PAREN ∷ t.OPEN_BRACKET ∷ t.NAME ∷ t.BAR ∷ t.AMPERSAND ∷ t.DOT ∷ t.ASSIGN ∷ [])
      (call_stmt-exact w.0 w.1)
      (choice_of t.OPEN_BRACKET (t.NAME ∷ t.BAR ∷ t.AMPERSAND ∷ t.DOT ∷ t.ASSIGN ∷ []) (t.OPEN_BRACKET ∷ t.NAME ∷ t.BAR ∷ t.AMPERSAND ∷ t.DOT ∷ t.ASSIGN ∷ [])
      (bracket_stmt-exact w.0 w.1)
      (choice_among (members class.TypeGoesOn) (t.DOT ∷ t.ASSIGN ∷ []) (t.NAME ∷ t.BAR ∷ t.AMPERSAND ∷ t.DOT ∷ t.ASSIGN ∷ [])
      (sequence (type_tail-exact n (parts.named_ty w.0 w.1)) (λ ty. declared-exact w.0 ty) (λ i h. h))
      (choice_of t.DOT (t.ASSIGN ∷ []) (t.DOT ∷ t.ASSIGN ∷ [])
      (sequence (field_step-exact parts.none) (λ p. assigned-exact w.0 w.1 p) (λ i b. tt))
      (adapt (valued-exact w.0 w.1 parts.none) (λ i f. f) (λ i h. member t.ASSIGN (t.ASSIGN ∷ []) i refl h) (λ a x. tt)) refl refl refl)
      refl refl refl) refl refl refl) refl refl refl)
      (λ i f. f) (λ i b. any i) (λ a x. tt))
      (λ i b. tt)
    where
      any : (i : List Token) → Any i
      any i = tt

  pub where_clause-exact : (es : Args) → Exact n (rule.Where n.strict n.depth es) (λ m. read.where_clause m.strict m.depth es) (After after_expr) (Passes (is t.WHERE))
  where_clause-exact es = sequence (mark-exact {F = Any} t.WHERE (some k.Where) refl) (λ r. sequence (expr-exact n) (λ a. nothing (parts.pushed es a)) (λ i f. f)) (λ i b. tt)

  -- clauses may stand behind an expression
  pub wheres-exact : (es : Args) → Exact n (rule.Wheres n.strict n.depth es) (λ m. read.wheres m.strict m.depth es) (After (t.WHERE ∷ after_expr))
      (λ i. After (t.WHERE ∷ after_expr) i ⊎ Passes (is t.WHERE) i)
  unfolding read.wheres rule.Wheres
  wheres-exact es =
      repetition (is t.WHERE) where_clause-exact (λ i h. h) (λ i f. one_out t.WHERE (t.WHERE ∷ after_expr) i refl f) (λ i f. fewer after_expr (t.WHERE ∷ after_expr) i refl f)
      (λ i h. at t.WHERE after_expr i h) refl es
