-- The grammar of blocks, and of statements that have them.
--   block = LINE IN stmt { stmt } OUT
--   stmt  = 'if' expr ':' block { 'else' 'if' expr ':' block } [ 'else' ':' block ] | 'while' expr { where } ':' block
--         | 'do' ':' block 'while' expr { where } LINE | 'for' NAME 'in' sum '..' sum { where } ':' block
--         | 'switch' expr ':' LINE IN { case } [ 'default' ':' block ] OUT, with a case or a default at least
--   case  = 'case' label { ',' label } ':' block
-- A block's statements stand one level deeper. What stands behind 'else' does too, so that an 'else if' is a block of that 'if'. The
-- block of the k-th case of a switch stands k levels deeper, and the block of a default behind k cases likewise: without cases it
-- stands on the level of its switch. How deep such blocks stand in one another is counted apart, by a width that is so great that no
-- list of tokens reaches it.
use Rattle.std.specs.Prelude.{ℕ, ◌^◌, zero, suc, Bool, List, None}
use Rattle.wy_reading.specs.Rule.{Pure, Then, Loop, Or, Refused, Unless}
use Rattle.wy_ast.specs.declared.statements.Case.{Case}
use Rattle.wy_parse_grammar.specs.declared.fault.Kind.TheVariants.{Deep}
use Rattle.wy_parse_grammar.specs.declared.measured.Measured.{Measured}
use Rattle.wy_parse_grammar.specs.declared.measured.Measured.TheVariants.{Low}
use Rattle.wy_parse_grammar.specs.declared.sort.Class.TheVariants as class
use Rattle.wy_parse_grammar.specs.Sorts as t
use Rattle.wy_parse_grammar.specs.Sorts.{has, is}
use Rattle.wy_parse_grammar.specs.Steps.{R, Mark, Name}
use Rattle.wy_parse_grammar.specs.Trees.{pushed, none, some, both}
use Rattle.wy_parse_grammar.specs.ExprGrammar.{Expr_, SumIn}
use Rattle.wy_parse.specs.StmtTrees as trees
use Rattle.wy_parse.specs.StmtTrees.{S, Stmts, Cases}
use Rattle.wy_parse.specs.StmtGrammar.{ReturnStmt, AssertStmt, WordStmt, DeclareStmt, NamedStmt, Wheres}
use Rattle.wy_parse_grammar.specs.LabelGrammar.{Labels}

abbrev pub CaseList : Type 0
CaseList = Measured (List Case)

-- what stands behind the block of an 'if', over the block and the 'if' of the level inside
unfoldable pub Otherwise : R Stmts → R S → R Stmts
Otherwise block branch =
    Or (Then (Mark t.ELSE) (λ _. Or (Then (Mark t.COLON) (λ _. block)) (Then branch (λ st. Pure (pushed none st)))))
    (Pure none)

-- over the block of the level inside, where there are so many levels
module _ (s : Bool) (levels : ℕ) (block : R Stmts) where
  unfoldable pub WhileStmt : R S
  WhileStmt =
      Then (Mark t.WHILE) (λ at. Then (Expr_ s levels) (λ test. Then (Wheres s levels none) (λ invariants. Then (Mark t.COLON) (λ _. Then block (λ body.
      Pure (trees.while_node at test invariants body))))))

  unfoldable pub DoStmt : R S
  DoStmt =
      Then (Mark t.DO) (λ at. Then (Mark t.COLON) (λ _. Then block (λ body. Then (Mark t.WHILE) (λ _. Then (Expr_ s levels) (λ test.
      Then (Wheres s levels none) (λ invariants. Then (Mark t.LINE_END) (λ _. Pure (trees.do_node at body test invariants))))))))

  unfoldable pub ForStmt : R S
  ForStmt =
      Then (Mark t.FOR) (λ at. Then Name (λ w. Then (Mark t.IN) (λ _. Then (SumIn s levels) (λ from. Then (Mark t.RANGE) (λ _. Then (SumIn s levels) (λ to.
      Then (Wheres s levels none) (λ invariants. Then (Mark t.COLON) (λ _. Then block (λ body.
      Pure (trees.for_node at w.1 (both from to) invariants body))))))))))

  unfoldable pub IfStmt : R S → R S
  IfStmt branch =
      Then (Mark t.IF) (λ at. Then (Expr_ s levels) (λ test. Then (Mark t.COLON) (λ _. Then block (λ first. Then (Otherwise block branch) (λ second.
      Pure (trees.if_node at test first second))))))

-- behind 'case'
unfoldable pub CaseRest : R Stmts → CaseList → R CaseList
CaseRest block cs = Then Labels (λ ls. Then (Mark t.COLON) (λ _. Then block (λ body. Pure (pushed cs (trees.case_node ls body)))))

-- a default with the end of its switch, behind the cases
unfoldable pub Default : R Stmts → CaseList → R Cases
Default block cs = Then (Mark t.DEFAULT) (λ _. Then (Mark t.COLON) (λ _. Then block (λ body. Then (Mark t.BLOCK_OUT) (λ _. Pure (both cs (some body))))))

-- what stands on a level
pub record Nest : Type 1 where
  -- a block whose statements do
  pub block : R Stmts
  -- an 'if'
  pub branch : R S
  -- the rest of a switch behind a case whose block's statements do
  pub cases : CaseList → R Cases

-- how deep blocks of defaults without cases may stand in one another: a list of tokens is shorter
unfoldable pub width : ℕ
width = 2 ^ 64

module _ (s : Bool) (levels : ℕ) (below : Nest) where
  -- `alone` reads a default without cases
  module _ (alone : R Cases) where
    unfoldable pub Switch : R S
    Switch =
        Then (Mark t.SWITCH) (λ at. Then (Expr_ s levels) (λ value. Then (Mark t.COLON) (λ _. Then (Mark t.LINE_END) (λ _. Then (Mark t.BLOCK_IN) (λ _.
        Then (Or (Then (Mark t.CASE) (λ _. Then (CaseRest below.block none) below.cases)) alone) (λ cs.
        Pure (trees.switch_node at value cs)))))))

    unfoldable pub Statement : R S
    Statement =
        Or Switch
        (Or (NamedStmt s levels)
        (Or (ReturnStmt s levels)
        (Or (AssertStmt s levels)
        (Or WordStmt
        (Or (IfStmt s levels below.block below.branch)
        (Or (WhileStmt s levels below.block)
        (Or (DoStmt s levels below.block)
        (Or (ForStmt s levels below.block)
        (Unless (is t.NAME) (DeclareStmt s levels))))))))))

    abbrev pub Piece : Stmts → R Stmts
    Piece ss = Then Statement (λ st. Pure (pushed ss st))

    -- what stands behind some statements of a block
    abbrev pub Rest : Stmts → R Stmts
    Rest ss = Then (Loop Piece ss) (λ all. Then (Mark t.BLOCK_OUT) (λ _. Pure all))

    unfoldable pub BlockOf : R Stmts
    BlockOf = Then (Mark t.LINE_END) (λ _. Then (Mark t.BLOCK_IN) (λ _. Then (Piece none) Rest))

  -- by the width: a default without cases has a block on this level
  unfoldable pub Block : ℕ → R Stmts
  Block zero = BlockOf (Refused (is t.DEFAULT) Deep)
  Block (suc w) = BlockOf (Default (Block w) none)

-- a block that stands too deep
unfoldable pub ShutBlock : R Stmts
ShutBlock = Then (Mark t.LINE_END) (λ _. Then (Mark t.BLOCK_IN) (λ _. Refused (has class.Statement) Deep))

-- a switch ends behind its cases
unfoldable pub LastOut : CaseList → R Cases
LastOut cs = Then (Mark t.BLOCK_OUT) (λ _. Pure (both cs (Low None 0)))

unfoldable pub nest : Bool → ℕ → Nest
nest s zero = record {
  block = ShutBlock;
  branch = Refused (is t.IF) Deep;
  cases = λ cs. Or (Refused (is t.CASE) Deep) (Or (Default ShutBlock cs) (LastOut cs));
}
nest s (suc d) = let below = nest s d in record {
  block = Block s (suc d) below width;
  branch = IfStmt s (suc d) below.block below.branch;
  cases = λ cs. Or (Then (Mark t.CASE) (λ _. Then (CaseRest below.block cs) below.cases)) (Or (Default (Block s (suc d) below width) cs) (LastOut cs));
}
