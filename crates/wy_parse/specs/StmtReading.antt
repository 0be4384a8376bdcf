-- How statements without blocks are read: the grammar's shapes as steps, with each choice made by the next token.
use Rattle.std.specs.Prelude.{ℕ, Bool, List, None}
use Rattle.wy_reading.specs.Reader.{◌>>=◌, pure, one, branch, while}
use Rattle.wy_parse_grammar.specs.declared.measured.Measured.TheVariants.{Low}
use Rattle.wy_parse_grammar.specs.declared.sort.Class.TheVariants as class
use Rattle.wy_parse_grammar.specs.Sorts as t
use Rattle.wy_parse_grammar.specs.Sorts.{has, is}
use Rattle.wy_parse_grammar.specs.Steps.{Q, mark, inner, name, placed, inside}
use Rattle.wy_parse_grammar.specs.Trees.{pushed, none, some, named_ty, array_ty}
use Rattle.wy_parse_grammar.specs.TypeGrammar.{T}
use Rattle.wy_parse_grammar.specs.TypeReading.{type_term, type_rest, type_tail}
use Rattle.wy_parse_grammar.specs.ExprGrammar.{E, Args}
use Rattle.wy_parse_grammar.specs.ExprReading.{readers, arg_list}
use Rattle.wy_parse.specs.StmtTrees as trees
use Rattle.wy_parse.specs.StmtTrees.{S, Path}
use Rattle.wy_parse.specs.StmtGrammar.{word_kind}

unfoldable pub word : Q S
word = one (has class.Word) >>= (λ s. pure (trees.stmt_node s.at (Low (word_kind s.kind) 0)))

unfoldable pub word_stmt : Q S
word_stmt = word >>= (λ st. mark t.LINE_END >>= (λ _. pure st))

unfoldable pub field_step : Path → Q Path
field_step p = mark t.DOT >>= (λ at. name >>= (λ w. pure (pushed p (trees.field_step at w.1))))

module _ (s : Bool) (levels : ℕ) where
  abbrev pub expr : Q E
  expr = (readers s levels).expr

  abbrev pub inner_expr : Q E
  inner_expr = (readers s (inside levels)).expr

  abbrev pub args : Q Args
  args = arg_list (inside levels) (readers s (inside levels)).unary (readers s (inside levels)).expr

  unfoldable pub return_stmt : Q S
  return_stmt =
      mark t.RETURN >>= (λ at.
      branch (is t.LINE_END) (mark t.LINE_END >>= (λ _. pure (trees.return_node at (Low None 0))))
      (expr >>= (λ a. mark t.LINE_END >>= (λ _. pure (trees.return_node at (some a))))))

  unfoldable pub assert_stmt : Q S
  assert_stmt = mark t.ASSERT >>= (λ at. expr >>= (λ a. mark t.LINE_END >>= (λ _. pure (trees.assert_node at a))))

  unfoldable pub declared : ℕ → T → Q S
  declared at ty =
      name >>= (λ w.
      branch (is t.ASSIGN) (mark t.ASSIGN >>= (λ _. expr >>= (λ a. mark t.LINE_END >>= (λ _. pure (trees.declare_node at ty w.1 (some a))))))
      (mark t.LINE_END >>= (λ _. pure (trees.declare_node at ty w.1 (Low None 0)))))

  unfoldable pub declare_stmt : Q S
  declare_stmt = placed (type_term levels) >>= (λ p. declared p.0 p.1)

  unfoldable pub call_stmt : ℕ → List ℕ → Q S
  call_stmt at name =
      mark t.OPEN_PAREN >>= (λ _. args >>= (λ es. inner (inside levels) t.CLOSE_PAREN >>= (λ _.
      mark t.LINE_END >>= (λ _. pure (trees.call_node at name es)))))

  unfoldable pub step : Path → Q Path
  step p =
      branch (is t.OPEN_BRACKET) (mark t.OPEN_BRACKET >>= (λ at. inner_expr >>= (λ i. mark t.CLOSE_BRACKET >>= (λ _. pure (pushed p (trees.index_step at i))))))
      (field_step p)

  unfoldable pub steps : Path → Q Path
  steps p = while (has class.Step) step p

  unfoldable pub valued : ℕ → List ℕ → Path → Q S
  valued at name p = mark t.ASSIGN >>= (λ _. expr >>= (λ a. mark t.LINE_END >>= (λ _. pure (trees.assign_node at name p a))))

  unfoldable pub assigned : ℕ → List ℕ → Path → Q S
  assigned at name p = steps p >>= (λ q. valued at name q)

  unfoldable pub array_stmt : ℕ → List ℕ → ℕ → Q S
  array_stmt at name b =
      inner (inside levels) t.CLOSE_BRACKET >>= (λ _. type_rest levels (array_ty b (named_ty at name)) >>= (λ ty. declared at ty))

  unfoldable pub index_stmt : ℕ → List ℕ → ℕ → Q S
  index_stmt at name b =
      inner_expr >>= (λ i. mark t.CLOSE_BRACKET >>= (λ _. assigned at name (pushed none (trees.index_step b i))))

  unfoldable pub bracket_stmt : ℕ → List ℕ → Q S
  bracket_stmt at name = mark t.OPEN_BRACKET >>= (λ b. branch (is t.CLOSE_BRACKET) (array_stmt at name b) (index_stmt at name b))

  unfoldable pub path_stmt : ℕ → List ℕ → Q S
  path_stmt at name = branch (is t.DOT) (field_step none >>= (λ p. assigned at name p)) (valued at name none)

  unfoldable pub named_rest : ℕ → List ℕ → Q S
  named_rest at name =
      branch (has class.TypeGoesOn) (type_tail levels (named_ty at name) >>= (λ ty. declared at ty))
      (path_stmt at name)

  unfoldable pub named_stmt : Q S
  named_stmt =
      name >>= (λ w.
      branch (is t.OPEN_PAREN) (call_stmt w.0 w.1)
      (branch (is t.OPEN_BRACKET) (bracket_stmt w.0 w.1)
      (named_rest w.0 w.1)))

  abbrev pub where_clause : Args → Q Args
  where_clause es = mark t.WHERE >>= (λ _. expr >>= (λ a. pure (pushed es a)))

  unfoldable pub wheres : Args → Q Args
  wheres es = while (is t.WHERE) where_clause es
