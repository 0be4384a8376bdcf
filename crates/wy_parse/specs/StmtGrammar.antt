-- The grammar of statements without blocks.
--   stmt = type NAME [ '=' expr ] LINE | NAME { '[' expr ']' | '.' NAME } '=' expr LINE | NAME '(' args ')' LINE
--        | 'return' [ expr ] LINE | 'assert' expr LINE | ( 'break' | 'continue' | 'skip' | 'fail' ) LINE
-- Three of these ways begin with a name: what they have in common is written once, so each choice is made by the next token.
use Rattle.std.specs.Prelude.{ℕ, Bool, List, None}
use Rattle.wy_reading.specs.Rule.{One, Pure, Then, Loop, Or}
use Rattle.wy_ast.specs.declared.statements.StmtKind.{StmtKind}
use Rattle.wy_ast.specs.declared.statements.StmtKind.TheVariants as stmt
use Rattle.wy_lex.specs.declared.token.TokenKind.{TokenKind}
use Rattle.wy_lex.specs.declared.token.TokenKind.TheVariants as k
use Rattle.wy_parse_grammar.specs.declared.measured.Measured.TheVariants.{Low}
use Rattle.wy_parse_grammar.specs.declared.sort.Class.TheVariants as class
use Rattle.wy_parse_grammar.specs.Sorts as t
use Rattle.wy_parse_grammar.specs.Sorts.{has, is}
use Rattle.wy_parse_grammar.specs.Steps.{R, Mark, Inner, Name, Placed, inside}
use Rattle.wy_parse_grammar.specs.Trees.{pushed, none, some, named_ty, array_ty}
use Rattle.wy_parse_grammar.specs.TypeGrammar.{T, Type_, TypeRest, TypeTail}
use Rattle.wy_parse_grammar.specs.ExprGrammar.{Args, Expr_, ArgsIn}
use Rattle.wy_parse.specs.StmtTrees as trees
use Rattle.wy_parse.specs.StmtTrees.{S, Path}

abbrev pub word_kind : TokenKind → StmtKind
word_kind k.Break = stmt.Break
word_kind k.Continue = stmt.Continue
word_kind k.Skip = stmt.Skip
word_kind _ = stmt.Fail

abbrev pub Word : R S
Word = Then (One (has class.Word)) (λ s. Pure (trees.stmt_node s.at (Low (word_kind s.kind) 0)))

unfoldable pub WordStmt : R S
WordStmt = Then Word (λ st. Then (Mark t.LINE_END) (λ _. Pure st))

abbrev pub FieldStep : Path → R Path
FieldStep p = Then (Mark t.DOT) (λ at. Then Name (λ w. Pure (pushed p (trees.field_step at w.1))))

module _ (s : Bool) (levels : ℕ) where
  unfoldable pub ReturnStmt : R S
  ReturnStmt =
      Then (Mark t.RETURN) (λ at.
      Or (Then (Mark t.LINE_END) (λ _. Pure (trees.return_node at (Low None 0))))
      (Then (Expr_ s levels) (λ a. Then (Mark t.LINE_END) (λ _. Pure (trees.return_node at (some a))))))

  unfoldable pub AssertStmt : R S
  AssertStmt = Then (Mark t.ASSERT) (λ at. Then (Expr_ s levels) (λ a. Then (Mark t.LINE_END) (λ _. Pure (trees.assert_node at a))))

  -- behind the type of a declaration
  unfoldable pub Declared : ℕ → T → R S
  Declared at ty =
      Then Name (λ w.
      Or (Then (Mark t.ASSIGN) (λ _. Then (Expr_ s levels) (λ a. Then (Mark t.LINE_END) (λ _. Pure (trees.declare_node at ty w.1 (some a))))))
      (Then (Mark t.LINE_END) (λ _. Pure (trees.declare_node at ty w.1 (Low None 0)))))

  unfoldable pub DeclareStmt : R S
  DeclareStmt = Then (Placed (Type_ levels)) (λ p. Declared p.0 p.1)

  -- behind the name: a call
  unfoldable pub CallStmt : ℕ → List ℕ → R S
  CallStmt at name =
      Then (Mark t.OPEN_PAREN) (λ _. Then (ArgsIn s (inside levels)) (λ es. Then (Inner (inside levels) t.CLOSE_PAREN) (λ _.
      Then (Mark t.LINE_END) (λ _. Pure (trees.call_node at name es)))))

  abbrev pub Step : Path → R Path
  Step p =
      Or (Then (Mark t.OPEN_BRACKET) (λ at. Then (Expr_ s (inside levels)) (λ i. Then (Mark t.CLOSE_BRACKET) (λ _. Pure (pushed p (trees.index_step at i))))))
      (FieldStep p)

  -- behind the name and its path, and behind the name and its first step
  unfoldable pub Valued : ℕ → List ℕ → Path → R S
  Valued at name p = Then (Mark t.ASSIGN) (λ _. Then (Expr_ s levels) (λ a. Then (Mark t.LINE_END) (λ _. Pure (trees.assign_node at name p a))))

  unfoldable pub Assigned : ℕ → List ℕ → Path → R S
  Assigned at name p = Then (Loop Step p) (λ q. Valued at name q)

  -- behind the name: a bracket that closes at once makes a type of arrays, and else it is the first step of a path
  unfoldable pub BracketStmt : ℕ → List ℕ → R S
  BracketStmt at name =
      Then (Mark t.OPEN_BRACKET) (λ b.
      Or (Then (Inner (inside levels) t.CLOSE_BRACKET) (λ _. Then (TypeRest levels (array_ty b (named_ty at name))) (λ ty. Declared at ty)))
      (Then (Expr_ s (inside levels)) (λ i. Then (Mark t.CLOSE_BRACKET) (λ _. Assigned at name (pushed none (trees.index_step b i))))))

  unfoldable pub NamedStmt : R S
  NamedStmt =
      Then Name (λ w.
      Or (CallStmt w.0 w.1)
      (Or (BracketStmt w.0 w.1)
      (Or (Then (TypeTail levels (named_ty w.0 w.1)) (λ ty. Declared w.0 ty))
      (Or (Then (FieldStep none) (λ p. Assigned w.0 w.1 p))
      (Valued w.0 w.1 none)))))

  -- 'where' expr, behind others
  abbrev pub Where : Args → R Args
  Where es = Then (Mark t.WHERE) (λ _. Then (Expr_ s levels) (λ a. Pure (pushed es a)))

  unfoldable pub Wheres : Args → R Args
  Wheres es = Loop Where es
