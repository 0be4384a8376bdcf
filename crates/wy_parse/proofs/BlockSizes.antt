-- A statement takes a token, and so does a block.
use Rattle.std.proofs.Common.{ℕ, zero, suc, true}
use Rattle.wy_reading.specs.Mode.{Mode}
use Rattle.wy_reading.specs.Reader.{◌>>=◌}
use Rattle.wy_parse_grammar.specs.declared.fault.Kind.TheVariants.{Deep}
use Rattle.wy_parse_grammar.specs.declared.sort.Class.TheVariants as class
use Rattle.wy_parse_grammar.specs.Sorts as t
use Rattle.wy_parse_grammar.specs.Sorts.{has, is}
use Rattle.wy_parse_grammar.specs.Steps.{Q, mark}
use Rattle.wy_parse_grammar.specs.Trees.{none}
use Rattle.wy_parse_grammar.specs.ExprGrammar.{Args}
use Rattle.wy_parse_grammar.specs.ExprReading.{readers, sum}
use Rattle.wy_parse.specs.StmtTrees.{S, Stmts, Cases}
use Rattle.wy_parse_grammar.specs.LabelReading.{labels}
use Rattle.wy_parse.specs.StmtReading as stmts
use Rattle.wy_parse.specs.BlockGrammar.{CaseList}
use Rattle.wy_parse.specs.BlockReading as read
use Rattle.wy_parse.specs.BlockReading.{Nested}
use Rattle.wy_parse.specs.OpenBlocks as blocks
use Rattle.wy_parse.proofs.Shrinking.{Shrinks, Eats, eats-shrinks, pure-shrinks, then-shrinks, then-eats, branch-shrinks, branch-eats, refused-eats, unless-eats, while-shrinks, exact-shrinks, exact-eats, mark-eats, mark-shrinks, name-shrinks}
use Rattle.wy_parse_grammar.proofs.OperatorsExact.{sum-exact}
use Rattle.wy_parse_grammar.proofs.ExprLevels.{expr-exact, unary-exact, unary_read}
use Rattle.wy_parse_grammar.specs.ExprGrammar.{Unary}
use Rattle.wy_parse.proofs.StmtsExact.{word_stmt-exact, return_stmt-exact, assert_stmt-exact, declare_stmt-exact, named_stmt-exact, wheres-exact}
use Rattle.wy_parse_grammar.proofs.LabelsExact.{labels-exact}

-- with so many levels, and each check made
abbrev at_level : ℕ → Mode
at_level levels = record { depth = levels; strict = true }

expr-shrinks : (levels : ℕ) → Shrinks (readers true levels).expr
expr-shrinks levels = exact-shrinks (expr-exact (at_level levels))

sum-shrinks : (levels : ℕ) → Shrinks (sum (readers true levels).unary)
sum-shrinks levels = exact-shrinks (sum-exact (at_level levels) (Unary true levels) unary_read (unary-exact (at_level levels)))

wheres-shrinks : (levels : ℕ) (es : Args) → Shrinks (stmts.wheres true levels es)
wheres-shrinks levels es = exact-shrinks (wheres-exact (at_level levels) es)

labels-shrinks : Shrinks labels
labels-shrinks = exact-shrinks (labels-exact (at_level 0))

-- a mark, and then what is no longer than was left
after_mark : {A : Type 0} (c : ℕ) (f : ℕ → Q A) → ((at : ℕ) → Shrinks (f at)) → Eats (mark c >>= f)
after_mark c f rest = then-eats (mark c) f (mark-eats c) rest

past : {A : Type 0} (c : ℕ) (f : ℕ → Q A) → ((at : ℕ) → Shrinks (f at)) → Shrinks (mark c >>= f)
past c f rest = then-shrinks (mark c) f (mark-shrinks c) rest

otherwise-shrinks : (block : Q Stmts) (inner : Q S) → Shrinks block → Shrinks inner → Shrinks (read.otherwise block inner)
unfolding read.otherwise
otherwise-shrinks block inner b e =
    branch-shrinks (is t.ELSE) _ _
    (past t.ELSE _ (λ x. branch-shrinks (is t.COLON) _ _ (past t.COLON _ (λ y. b)) (then-shrinks inner _ e (λ st. pure-shrinks _))))
    (pure-shrinks _)

module _ (levels : ℕ) (block : Q Stmts) (b : Shrinks block) where
  while-eats : Eats (read.while_stmt true levels block)
  unfolding read.while_stmt read.while_rest
  while-eats =
      after_mark t.WHILE _ (λ at. then-shrinks _ _ (expr-shrinks levels) (λ test. then-shrinks _ _ (wheres-shrinks levels none) (λ invariants. past t.COLON _ (λ x.
      then-shrinks block _ b (λ body. pure-shrinks _)))))

  do-eats : Eats (read.do_stmt true levels block)
  unfolding read.do_stmt read.do_rest
  do-eats =
      after_mark t.DO _ (λ at. past t.COLON _ (λ x. then-shrinks block _ b (λ body. past t.WHILE _ (λ y. then-shrinks _ _ (expr-shrinks levels) (λ test.
      then-shrinks _ _ (wheres-shrinks levels none) (λ invariants. past t.LINE_END _ (λ z. pure-shrinks _)))))))

  for-eats : Eats (read.for_stmt true levels block)
  unfolding read.for_stmt read.for_range read.for_rest
  for-eats =
      after_mark t.FOR _ (λ at. then-shrinks _ _ name-shrinks (λ w. past t.IN _ (λ x. then-shrinks _ _ (sum-shrinks levels) (λ low. past t.RANGE _ (λ y.
      then-shrinks _ _ (sum-shrinks levels) (λ high. then-shrinks _ _ (wheres-shrinks levels none) (λ invariants. past t.COLON _ (λ z.
      then-shrinks block _ b (λ body. pure-shrinks _)))))))))

  if-eats : (inner : Q S) → Shrinks inner → Eats (read.if_stmt true levels block inner)
  unfolding read.if_stmt read.if_rest
  if-eats inner e =
      after_mark t.IF _ (λ at. then-shrinks _ _ (expr-shrinks levels) (λ test. past t.COLON _ (λ x. then-shrinks block _ b (λ first.
      then-shrinks _ _ (otherwise-shrinks block inner b e) (λ second. pure-shrinks _)))))

case_rest-shrinks : (block : Q Stmts) (cs : CaseList) → Shrinks block → Shrinks (read.case_rest block cs)
unfolding read.case_rest
case_rest-shrinks block cs b = then-shrinks _ _ labels-shrinks (λ ls. past t.COLON _ (λ x. then-shrinks block _ b (λ body. pure-shrinks _)))

default-eats : (block : Q Stmts) (cs : CaseList) → Shrinks block → Eats (read.default block cs)
unfolding read.default
default-eats block cs b = after_mark t.DEFAULT _ (λ x. past t.COLON _ (λ y. then-shrinks block _ b (λ body. past t.BLOCK_OUT _ (λ z. pure-shrinks _))))

last_out-eats : (cs : CaseList) → Eats (read.last_out cs)
unfolding read.last_out
last_out-eats cs = after_mark t.BLOCK_OUT _ (λ x. pure-shrinks _)

-- what a level has
pub record Sizes (n : Nested) : Type 0 where
  pub block : Shrinks n.block
  pub branch : Shrinks n.branch
  pub cases : (cs : CaseList) → Shrinks (n.cases cs)

module _ (levels : ℕ) (below : Nested) (sizes : Sizes below) where
  pub switch-eats : (alone : Q Cases) → Shrinks alone → Eats (read.switch true levels below alone)
  unfolding read.switch
  switch-eats alone e =
      after_mark t.SWITCH _ (λ at. then-shrinks _ _ (expr-shrinks levels) (λ value. past t.COLON _ (λ x. past t.LINE_END _ (λ y. past t.BLOCK_IN _ (λ z.
      then-shrinks _ _
      (branch-shrinks (is t.CASE) _ _ (past t.CASE _ (λ u. then-shrinks _ _ (case_rest-shrinks below.block none sizes.block) (λ cs. sizes.cases cs))) e)
      (λ cs. pure-shrinks _))))))

  pub statement-eats : (alone : Q Cases) → Shrinks alone → Eats (read.statement true levels below alone)
  unfolding read.statement
  statement-eats alone e =
      let n = at_level levels in
      branch-eats (is t.SWITCH) _ _ (switch-eats alone e)
      (branch-eats (is t.NAME) _ _ (exact-eats (named_stmt-exact n))
      (branch-eats (is t.RETURN) _ _ (exact-eats (return_stmt-exact n))
      (branch-eats (is t.ASSERT) _ _ (exact-eats (assert_stmt-exact n))
      (branch-eats (has class.Word) _ _ (exact-eats (word_stmt-exact {n = n}))
      (branch-eats (is t.IF) _ _ (if-eats levels below.block sizes.block below.branch sizes.branch)
      (branch-eats (is t.WHILE) _ _ (while-eats levels below.block sizes.block)
      (branch-eats (is t.DO) _ _ (do-eats levels below.block sizes.block)
      (branch-eats (is t.FOR) _ _ (for-eats levels below.block sizes.block)
      (unless-eats (is t.NAME) _ (exact-eats (declare_stmt-exact n)))))))))))

  pub piece-eats : (alone : Q Cases) (ss : Stmts) → Shrinks alone → Eats (read.piece true levels below alone ss)
  piece-eats alone ss e = then-eats _ _ (statement-eats alone e) (λ st. pure-shrinks _)

  pub rest-shrinks : (alone : Q Cases) (ss : Stmts) → Shrinks alone → Shrinks (read.rest true levels below alone ss)
  unfolding read.rest
  rest-shrinks alone ss e =
      then-shrinks _ _ (while-shrinks (has class.Statement) (read.piece true levels below alone) (λ a. eats-shrinks _ (piece-eats alone a e)) ss)
      (λ all. past t.BLOCK_OUT _ (λ x. pure-shrinks _))

  block_of-shrinks : (alone : Q Cases) → Shrinks alone → Shrinks (read.block_of true levels below alone)
  unfolding read.block_of
  block_of-shrinks alone e =
      past t.LINE_END _ (λ x. past t.BLOCK_IN _ (λ y. then-shrinks _ _ (eats-shrinks _ (piece-eats alone none e)) (λ ss. rest-shrinks alone ss e)))

  pub block-shrinks : (w : ℕ) → Shrinks (read.block true levels below w)
  unfolding read.block
  block-shrinks zero = block_of-shrinks _ (eats-shrinks _ (refused-eats (is t.DEFAULT) Deep))
  block-shrinks (suc w) = block_of-shrinks _ (eats-shrinks _ (default-eats _ none (block-shrinks w)))

shut-shrinks : Shrinks read.shut_block
unfolding read.shut_block
shut-shrinks = past t.LINE_END _ (λ x. past t.BLOCK_IN _ (λ y. eats-shrinks _ (refused-eats (has class.Statement) Deep)))

pub nested-sizes : (levels : ℕ) → Sizes (read.nested true levels)
unfolding read.nested
nested-sizes zero = record {
  block = shut-shrinks;
  branch = eats-shrinks _ (refused-eats (is t.IF) Deep);
  cases = λ cs.
      branch-shrinks (is t.CASE) _ _ (eats-shrinks _ (refused-eats (is t.CASE) Deep))
      (branch-shrinks (is t.DEFAULT) _ _ (eats-shrinks _ (default-eats _ cs shut-shrinks)) (eats-shrinks _ (last_out-eats cs)));
}
nested-sizes (suc d) =
    let s = nested-sizes d in
    record {
      block = block-shrinks (suc d) (read.nested true d) s _;
      branch = eats-shrinks _ (if-eats (suc d) _ s.block _ s.branch);
      cases = λ cs.
          branch-shrinks (is t.CASE) _ _ (past t.CASE _ (λ u. then-shrinks _ _ (case_rest-shrinks _ cs s.block) (λ all. s.cases all)))
          (branch-shrinks (is t.DEFAULT) _ _ (eats-shrinks _ (default-eats _ cs (block-shrinks (suc d) (read.nested true d) s _))) (eats-shrinks _ (last_out-eats cs)));
    }

-- ---- blocks with open switches

pub alone-shrinks : (levels w : ℕ) → Shrinks (blocks.alone levels w)
unfolding blocks.alone
alone-shrinks levels zero = eats-shrinks _ (refused-eats (is t.DEFAULT) Deep)
alone-shrinks levels (suc w) = eats-shrinks _ (default-eats _ none (block-shrinks levels (blocks.below levels) (nested-sizes _) w))

pub piece_at-eats : (levels w : ℕ) (ss : Stmts) → Eats (read.piece true levels (blocks.below levels) (blocks.alone levels w) ss)
piece_at-eats levels w ss = piece-eats levels (blocks.below levels) (nested-sizes _) (blocks.alone levels w) ss (alone-shrinks levels w)

pub statement_at-eats : (levels w : ℕ) → Eats (read.statement true levels (blocks.below levels) (blocks.alone levels w))
statement_at-eats levels w = statement-eats levels (blocks.below levels) (nested-sizes _) (blocks.alone levels w) (alone-shrinks levels w)

pub header-eats : (levels : ℕ) → Eats (blocks.header levels)
unfolding blocks.header
header-eats levels = after_mark t.SWITCH _ (λ at. then-shrinks _ _ (expr-shrinks levels) (λ value. past t.COLON _ (λ x. past t.LINE_END _ (λ y. past t.BLOCK_IN _ (λ z. pure-shrinks _)))))

pub lone_default-eats : Eats blocks.lone_default
unfolding blocks.lone_default
lone_default-eats = after_mark t.DEFAULT _ (λ x. past t.COLON _ (λ y. past t.LINE_END _ (λ z. mark-shrinks t.BLOCK_IN)))

pub with_cases-shrinks : (levels : ℕ) → Shrinks (blocks.with_cases levels)
unfolding blocks.with_cases
with_cases-shrinks levels =
    let s = nested-sizes _ in
    past t.CASE _ (λ u. then-shrinks _ _ (case_rest-shrinks _ none s.block) (λ cs. s.cases cs))
