-- Statements with blocks are read exactly over blocks of the level inside: a line for each rule.
use Rattle.std.proofs.Common.{ℕ, List, ◌∷◌, ◌⊎◌, inl, inr, refl, None}
use Rattle.wy_reading.specs.Mode.{Mode}
use Rattle.wy_reading.proofs.Exactness.{Exact, Passes, Lacks, Any}
use Rattle.wy_reading.proofs.Single.{nothing}
use Rattle.wy_reading.proofs.Sequence.{sequence}
use Rattle.wy_reading.proofs.Choice.{choice}
use Rattle.wy_lex.specs.declared.token.Token.{Token}
use Rattle.wy_lex.specs.declared.token.TokenKind.TheVariants as k
use Rattle.wy_parse_grammar.specs.Sorts as t
use Rattle.wy_parse_grammar.specs.Sorts.{is, has, members}
use Rattle.wy_parse_grammar.specs.Steps.{R, Q}
use Rattle.wy_parse_grammar.specs.Trees as parts
use Rattle.wy_parse_grammar.specs.ExprGrammar.{SumIn, Unary}
use Rattle.wy_parse.specs.StmtTrees as trees
use Rattle.wy_parse.specs.StmtTrees.{S, Stmts}
use Rattle.wy_parse_grammar.specs.declared.measured.Measured.TheVariants.{Low}
use Rattle.wy_parse.specs.BlockGrammar as rule
use Rattle.wy_parse.specs.BlockReading as read
use Rattle.wy_parse_grammar.proofs.TokenLemmas.{some, at, at_other, fewer}
use Rattle.wy_parse_grammar.proofs.StepsExact.{mark-exact, name-exact}
use Rattle.wy_parse_grammar.proofs.LabelsExact.{labels-exact}
use Rattle.wy_parse_grammar.proofs.OperatorsExact.{after_sum, after_expr, After, sum-exact}
use Rattle.wy_parse_grammar.proofs.ExprLevels.{expr-exact, unary-exact, unary_read}
use Rattle.wy_parse.proofs.StmtsExact.{wheres-exact}

abbrev pub after_clauses : List ℕ
after_clauses = t.WHERE ∷ after_expr

-- what stands behind an expression, where clauses may
behind : (i : List Token) → After after_clauses i ⊎ Passes (is t.WHERE) i → After after_expr i
behind i (inl f) = fewer after_expr after_clauses i refl f
behind i (inr h) = at t.WHERE after_expr i h

behind_sum : (i : List Token) → After after_clauses i ⊎ Passes (is t.WHERE) i → After after_sum i
behind_sum i (inl f) = fewer after_sum after_clauses i refl f
behind_sum i (inr h) = at t.WHERE after_sum i h

-- behind a block stands no `else` of it
abbrev pub NoElse : List Token → Type 0
NoElse i = Lacks (is t.ELSE) i

abbrev pub BeginsBlock : List Token → Type 0
BeginsBlock i = Passes (is t.LINE_END) i

-- ---- statements with blocks

module _ (n : Mode) (B : R Stmts) (b : Mode → Q Stmts) (exact : (F : List Token → Type 0) → Exact n B b F BeginsBlock) where
  pub while_stmt-exact : Exact n (rule.WhileStmt n.strict n.depth B) (λ m. read.while_stmt m.strict m.depth (b m)) NoElse (Passes (is t.WHILE))
  unfolding read.while_stmt read.while_rest rule.WhileStmt
  while_stmt-exact =
      sequence (mark-exact {F = Any} t.WHILE (some k.While) refl)
      (λ place. sequence (expr-exact n)
      (λ test. sequence (wheres-exact n parts.none)
      (λ invariants. sequence (mark-exact {F = Any} t.COLON (some k.Colon) refl)
      (λ r. sequence (exact NoElse) (λ body. nothing (trees.while_node place test invariants body)) (λ i f. f)) (λ i h. tt))
      (λ i h. at t.COLON after_clauses i h))
      behind)
      (λ i h. tt)

  pub do_stmt-exact : Exact n (rule.DoStmt n.strict n.depth B) (λ m. read.do_stmt m.strict m.depth (b m)) NoElse (Passes (is t.DO))
  unfolding read.do_stmt read.do_rest rule.DoStmt
  do_stmt-exact =
      sequence (mark-exact {F = Any} t.DO (some k.Do) refl)
      (λ place. sequence (mark-exact {F = Any} t.COLON (some k.Colon) refl)
      (λ r. sequence (exact Any)
      (λ body. sequence (mark-exact {F = Any} t.WHILE (some k.While) refl)
      (λ r. sequence (expr-exact n)
      (λ test. sequence (wheres-exact n parts.none)
      (λ invariants. sequence (mark-exact {F = Any} t.LINE_END (some k.LineEnd) refl) (λ r. nothing (trees.do_node place body test invariants)) (λ i h. tt))
      (λ i h. at t.LINE_END after_clauses i h))
      behind)
      (λ i h. tt))
      (λ i h. tt))
      (λ i h. tt))
      (λ i h. tt)

  pub if_stmt-exact : (I : R S) (inner : Mode → Q S) → Exact n I inner NoElse (Passes (is t.IF))
      → Exact n (rule.IfStmt n.strict n.depth B I) (λ m. read.if_stmt m.strict m.depth (b m) (inner m)) NoElse (Passes (is t.IF))
  unfolding read.if_stmt read.if_rest rule.IfStmt read.otherwise rule.Otherwise
  if_stmt-exact I inner inner_exact =
      sequence (mark-exact {F = Any} t.IF (some k.If) refl)
      (λ place. sequence (expr-exact n)
      (λ test. sequence (mark-exact {F = Any} t.COLON (some k.Colon) refl)
      (λ r. sequence (exact Any)
      (λ first. sequence
      (choice (is t.ELSE)
      (sequence (mark-exact {F = Any} t.ELSE (some k.Else) refl)
      (λ r. choice (is t.COLON)
      (sequence (mark-exact {F = Any} t.COLON (some k.Colon) refl) (λ r. exact NoElse) (λ i h. tt))
      (sequence inner_exact (λ st. nothing (parts.pushed parts.none st)) (λ i f. f))
      (λ i h. h) (λ i h. at_other t.COLON t.IF i refl h))
      (λ i h. tt))
      (nothing parts.none) (λ i h. h) (λ i f. f))
      (λ second. nothing (trees.if_node place test first second)) (λ i f. f))
      (λ i h. tt))
      (λ i h. tt))
      (λ i h. at t.COLON after_expr i h))
      (λ i h. tt)

  pub for_stmt-exact : Exact n (rule.ForStmt n.strict n.depth B) (λ m. read.for_stmt m.strict m.depth (b m)) NoElse (Passes (is t.FOR))
  unfolding read.for_stmt read.for_range read.for_rest rule.ForStmt SumIn
  for_stmt-exact =
      sequence (mark-exact {F = Any} t.FOR (some k.For) refl)
      (λ place. sequence (name-exact {F = Any})
      (λ w. sequence (mark-exact {F = Any} t.IN (some k.In) refl)
      (λ r. sequence (sum-exact n (Unary n.strict n.depth) unary_read (unary-exact n))
      (λ low. sequence (mark-exact {F = Any} t.RANGE (some k.Range) refl)
      (λ r. sequence (sum-exact n (Unary n.strict n.depth) unary_read (unary-exact n))
      (λ high. sequence (wheres-exact n parts.none)
      (λ invariants. sequence (mark-exact {F = Any} t.COLON (some k.Colon) refl)
      (λ r. sequence (exact NoElse) (λ body. nothing (trees.for_node place w.1 (parts.both low high) invariants body)) (λ i f. f)) (λ i h. tt))
      (λ i h. at t.COLON after_clauses i h))
      behind_sum)
      (λ i h. tt))
      (λ i h. at t.RANGE after_sum i h))
      (λ i h. tt))
      (λ i h. tt))
      (λ i h. tt)

  -- behind 'case'
  pub case_rest-exact : (cs : rule.CaseList) → Exact n (rule.CaseRest B cs) (λ m. read.case_rest (b m) cs) Any Any
  unfolding read.case_rest rule.CaseRest
  case_rest-exact cs =
      sequence (labels-exact n)
      (λ ls. sequence (mark-exact {F = Any} t.COLON (some k.Colon) refl)
      (λ r. sequence (exact Any) (λ body. nothing (parts.pushed cs (trees.case_node ls body))) (λ i h. tt)) (λ i h. tt))
      (λ i h. at_other t.COMMA t.COLON i refl h)

  pub default-exact : (cs : rule.CaseList) → Exact n (rule.Default B cs) (λ m. read.default (b m) cs) Any (Passes (is t.DEFAULT))
  unfolding read.default rule.Default
  default-exact cs =
      sequence (mark-exact {F = Any} t.DEFAULT (some k.Default) refl)
      (λ r. sequence (mark-exact {F = Any} t.COLON (some k.Colon) refl)
      (λ r. sequence (exact Any)
      (λ body. sequence (mark-exact {F = Any} t.BLOCK_OUT (some k.BlockOut) refl) (λ r. nothing (parts.both cs (parts.some body))) (λ i h. tt)) (λ i h. tt)) (λ i h. tt))
      (λ i h. tt)

pub last_out-exact : (n : Mode) (cs : rule.CaseList) → Exact n (rule.LastOut cs) (λ m. read.last_out cs) Any (Passes (is t.BLOCK_OUT))
unfolding read.last_out rule.LastOut
last_out-exact n cs = sequence (mark-exact {F = Any} t.BLOCK_OUT (some k.BlockOut) refl) (λ r. nothing (parts.both cs (Low None 0))) (λ i h. tt)
