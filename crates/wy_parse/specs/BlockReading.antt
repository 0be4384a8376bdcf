-- How blocks are read: the grammar's shapes as steps, with each choice made by the next token.
use Rattle.std.specs.Prelude.{ℕ, zero, suc, Bool, true, List, None}
use Rattle.wy_reading.specs.Reader.{◌>>=◌, pure, branch, while, refused, unless}
use Rattle.wy_parse_grammar.specs.declared.fault.Kind.TheVariants.{Deep}
use Rattle.wy_parse_grammar.specs.declared.measured.Measured.{Measured}
use Rattle.wy_parse_grammar.specs.declared.measured.Measured.TheVariants.{Low}
use Rattle.wy_parse_grammar.specs.declared.sort.Class.TheVariants as class
use Rattle.wy_parse_grammar.specs.Sorts as t
use Rattle.wy_parse_grammar.specs.Sorts.{has, is}
use Rattle.wy_parse_grammar.specs.Steps.{Q, mark, name}
use Rattle.wy_parse_grammar.specs.Trees.{pushed, none, some, both}
use Rattle.wy_ast.specs.declared.expressions.Expr.{Expr}
use Rattle.wy_parse_grammar.specs.ExprGrammar.{E}
use Rattle.wy_parse_grammar.specs.ExprReading.{readers, sum}
use Rattle.wy_parse.specs.StmtTrees as trees
use Rattle.wy_parse.specs.StmtTrees.{S, Stmts, Cases}
use Rattle.wy_parse.specs.StmtReading.{return_stmt, assert_stmt, word_stmt, declare_stmt, named_stmt, wheres}
use Rattle.wy_parse_grammar.specs.LabelReading.{labels}
use Rattle.wy_parse.specs.BlockGrammar.{CaseList, width}

unfoldable pub otherwise : Q Stmts → Q S → Q Stmts
otherwise block inner =
    branch (is t.ELSE) (mark t.ELSE >>= (λ _. branch (is t.COLON) (mark t.COLON >>= (λ _. block)) (inner >>= (λ st. pure (pushed none st)))))
    (pure none)

unfoldable pub if_rest : Q Stmts → Q S → ℕ → E → Q S
if_rest block inner at test = block >>= (λ first. otherwise block inner >>= (λ second. pure (trees.if_node at test first second)))

unfoldable pub do_rest : Bool → ℕ → ℕ → Stmts → Q S
do_rest s levels at body =
    mark t.WHILE >>= (λ _. (readers s levels).expr >>= (λ test. wheres s levels none >>= (λ invariants. mark t.LINE_END >>= (λ _.
    pure (trees.do_node at body test invariants)))))

module _ (s : Bool) (levels : ℕ) (block : Q Stmts) where
  unfoldable pub while_rest : ℕ → E → Q S
  while_rest at test =
      wheres s levels none >>= (λ invariants. mark t.COLON >>= (λ _. block >>= (λ body. pure (trees.while_node at test invariants body))))

  unfoldable pub while_stmt : Q S
  while_stmt = mark t.WHILE >>= (λ at. (readers s levels).expr >>= (λ test. while_rest at test))

  unfoldable pub do_stmt : Q S
  do_stmt = mark t.DO >>= (λ at. mark t.COLON >>= (λ _. block >>= (λ body. do_rest s levels at body)))

  unfoldable pub for_rest : ℕ → List ℕ → Measured (Expr × Expr) → Q S
  for_rest at name ends =
      wheres s levels none >>= (λ invariants. mark t.COLON >>= (λ _. block >>= (λ body. pure (trees.for_node at name ends invariants body))))

  unfoldable pub for_range : ℕ → List ℕ → Q S
  for_range at name =
      sum (readers s levels).unary >>= (λ from. mark t.RANGE >>= (λ _. sum (readers s levels).unary >>= (λ to. for_rest at name (both from to))))

  unfoldable pub for_stmt : Q S
  for_stmt = mark t.FOR >>= (λ at. name >>= (λ w. mark t.IN >>= (λ _. for_range at w.1)))

  unfoldable pub if_stmt : Q S → Q S
  if_stmt inner = mark t.IF >>= (λ at. (readers s levels).expr >>= (λ test. mark t.COLON >>= (λ _. if_rest block inner at test)))

unfoldable pub case_rest : Q Stmts → CaseList → Q CaseList
case_rest block cs = labels >>= (λ ls. mark t.COLON >>= (λ _. block >>= (λ body. pure (pushed cs (trees.case_node ls body)))))

unfoldable pub default : Q Stmts → CaseList → Q Cases
default block cs = mark t.DEFAULT >>= (λ _. mark t.COLON >>= (λ _. block >>= (λ body. mark t.BLOCK_OUT >>= (λ _. pure (both cs (some body))))))

unfoldable pub last_out : CaseList → Q Cases
last_out cs = mark t.BLOCK_OUT >>= (λ _. pure (both cs (Low None 0)))

pub record Nested : Type 0 where
  pub block : Q Stmts
  pub branch : Q S
  pub cases : CaseList → Q Cases

module _ (s : Bool) (levels : ℕ) (below : Nested) where
  module _ (alone : Q Cases) where
    unfoldable pub switch : Q S
    switch =
        mark t.SWITCH >>= (λ at. (readers s levels).expr >>= (λ value. mark t.COLON >>= (λ _. mark t.LINE_END >>= (λ _. mark t.BLOCK_IN >>= (λ _.
        branch (is t.CASE) (mark t.CASE >>= (λ _. case_rest below.block none >>= below.cases)) alone >>= (λ cs.
        pure (trees.switch_node at value cs)))))))

    unfoldable pub statement : Q S
    statement =
        branch (is t.SWITCH) switch
        (branch (is t.NAME) (named_stmt s levels)
        (branch (is t.RETURN) (return_stmt s levels)
        (branch (is t.ASSERT) (assert_stmt s levels)
        (branch (has class.Word) word_stmt
        (branch (is t.IF) (if_stmt s levels below.block below.branch)
        (branch (is t.WHILE) (while_stmt s levels below.block)
        (branch (is t.DO) (do_stmt s levels below.block)
        (branch (is t.FOR) (for_stmt s levels below.block)
        (unless (is t.NAME) (declare_stmt s levels))))))))))

    abbrev pub piece : Stmts → Q Stmts
    piece ss = statement >>= (λ st. pure (pushed ss st))

    unfoldable pub rest : Stmts → Q Stmts
    rest ss = while (has class.Statement) piece ss >>= (λ all. mark t.BLOCK_OUT >>= (λ _. pure all))

    unfoldable pub block_of : Q Stmts
    block_of = mark t.LINE_END >>= (λ _. mark t.BLOCK_IN >>= (λ _. piece none >>= rest))

  unfoldable pub block : ℕ → Q Stmts
  block zero = block_of (refused (is t.DEFAULT) Deep)
  block (suc w) = block_of (default (block w) none)

unfoldable pub shut_block : Q Stmts
shut_block = mark t.LINE_END >>= (λ _. mark t.BLOCK_IN >>= (λ _. refused (has class.Statement) Deep))

unfoldable pub nested : Bool → ℕ → Nested
nested s zero = record {
  block = shut_block;
  branch = refused (is t.IF) Deep;
  cases = λ cs. branch (is t.CASE) (refused (is t.CASE) Deep) (branch (is t.DEFAULT) (default shut_block cs) (last_out cs));
}
nested s (suc d) = record {
  block = block s (suc d) (nested s d) width;
  branch = if_stmt s (suc d) (nested s d).block (nested s d).branch;
  cases = λ cs.
      branch (is t.CASE) (mark t.CASE >>= (λ _. case_rest (nested s d).block cs >>= (nested s d).cases))
      (branch (is t.DEFAULT) (default (block s (suc d) (nested s d) width) cs) (last_out cs));
}

-- of a text that every check is made on
abbrev pub block_at : ℕ → Q Stmts
block_at levels = (nested true levels).block

abbrev pub branch_at : ℕ → Q S
branch_at levels = (nested true levels).branch

abbrev pub cases_at : ℕ → CaseList → Q Cases
cases_at levels = (nested true levels).cases
