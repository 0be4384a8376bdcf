use Rattle.std.proofs.Common.{rules, ◌≡◌, ◌∙◌, ◌-◌, List, ◌++◌, IfOk, ℕ, length, ap, subst, sym, arith}
use Rattle.wy_core.specs.CoreSeen.{seen_block, seen_expr, seen_exprs}
use Rattle.wy_core.specs.CoreTree as tree
use Rattle.wy_core.specs.declared.statements.Stmt as s
use Rattle.wy_core.specs.declared.statements.Stmt.{Stmt}
use Rattle.std.proofs.lemmas.Grind.{common_steps}
use Rattle.wy_core.specs.declared.statements.StmtKind as kind
use Rattle.wy_code.specs.declared.pieces.steps.Step.{Step}
use Rattle.wy_code.specs.pieces.Steps.{jumped}
use Rattle.wy_code_spec.specs.compiled.Expressions.{released}
use Rattle.wy_code_spec.specs.compiled.Statements as spec
use Rattle.wy_gen.proofs.BlockLemmas.{block_turn, block_turn_live, if_same, seen_if, seen_while, while_same, within_jumped}
use Rattle.wy_gen.proofs.blocks.+stmt.Goals as goal

-- the first block stands before the jump over the second one
pub stmt_code-block_code-requires-in-If : goal.stmt_code-block_code-requires-in-If
stmt_code-block_code-requires-in-If t c =
    let old = c.args.behind.steps in
    let around = c.args.around.now in
    let one = c.in_ok-second-in-If.second in
    let choice = c.in_ok-choice-in-If.choice in
    let rest = spec.stmts_code c.args.context.now (seen_block c.as_slice-in-If.result.now) c.args.behind.live around.ends c.args.free (length old - around.exit) (length old - around.again) in
    let start_is : choice.start.steps ≡ jumped (released choice.both one.live ++ rest) old = c.in_ok-choice-in-If.ensures.value rest old c.in_ok-second-in-If.ensures.value (sym c.len-end.ensures.value) in (
      first_of (search (rules, s.the_lemmas), search (arith, s.the_lemmas), omega (arith, c.decreases), grind (arith, common_steps)),
      (
        within_jumped (released choice.both one.live ++ rest) old choice.start.steps around.exit start_is c.requires.exit,
        within_jumped (released choice.both one.live ++ rest) old choice.start.steps around.again start_is c.requires.again,
      ),
    )

pub stmt_code-returns-in_ok-made-in-If-clause-value : goal.stmt_code-returns-in_ok-made-in-If-clause-value
stmt_code-returns-in_ok-made-in-If-clause-value t c =
    let x = c.args.stmt.now in
    let e = seen_expr c.in-If.test in
    let first = seen_block c.as_slice-first.result.now in
    let second = seen_block c.as_slice-in-If.result.now in
    let s = c.args.behind.live in
    let old = c.args.behind.steps in
    let around = c.args.around.now in
    let one = c.in_ok-second-in-If.second in
    let choice = c.in_ok-choice-in-If.choice in
    let start = choice.start.steps in
    let two = released choice.both one.live ++ spec.stmts_code c.args.context.now second s around.ends c.args.free (length old - around.exit) (length old - around.again) in
    let start_is : start ≡ jumped two old = c.in_ok-choice-in-If.ensures.value (spec.stmts_code c.args.context.now second s around.ends c.args.free (length old - around.exit) (length old - around.again)) old c.in_ok-second-in-If.ensures.value (sym c.len-end.ensures.value) in
    let p = sym c.as_slice-first.ensures in let q = sym c.as_slice-in-If.ensures in
    let is : x.kind ≡ kind.If c.in-If.test c.as_slice-first.result.now c.as_slice-in-If.result.now = c.in-If.is ∙ (λ i. kind.If c.in-If.test (p i) (q i)) in
    subst (λ (z : List Step). IfOk c.end_choice.result (λ m. m.steps ≡ z))
    (if_same c.args.context.now x.at e first second s choice.start.live c.in_ok-again-in-If.again choice.both c.in_ok-made-in-If.made.live one.live around.ends c.args.free around.exit around.again old start
    c.in_ok-again-in-If.ensures.value c.in_ok-choice-in-If.ensures.live c.in_ok-second-in-If.ensures.live c.in_ok-choice-in-If.ensures.both c.in_ok-made-in-If.ensures.live c.requires.exit c.requires.again start_is
    ∙ ap (λ (st : tree.Stmt ℕ). spec.stmt_code c.args.context.now st s around.ends c.args.free (length old - around.exit) (length old - around.again) ++ old) (sym (seen_if x c.in-If.test c.as_slice-first.result.now c.as_slice-in-If.result.now is)))
    (c.end_choice.ensures.value (spec.stmts_code c.args.context.now first choice.start.live around.ends c.args.free (length start - around.exit) (length start - around.again)) two old
    (c.in_ok-made-in-If.ensures.value ∙ ap (λ (l : List Step). spec.stmts_code c.args.context.now first choice.start.live around.ends c.args.free (length start - around.exit) (length start - around.again) ++ l) start_is)
    (sym c.len-end.ensures.value) (ap length (sym start_is) ∙ sym c.in_ok-choice-in-If.ensures.mid))

pub stmt_code-returns-in_ok-made-in-While-clause-value : goal.stmt_code-returns-in_ok-made-in-While-clause-value
stmt_code-returns-in_ok-made-in-While-clause-value t c =
    let x = c.args.stmt.now in
    let e = seen_expr c.in-While.test in
    let body = seen_block c.as_slice-body.result.now in
    let s = c.args.behind.live in
    let old = c.args.behind.steps in
    let around = c.args.around.now in
    let g = c.in_ok-begun-in-While.begun in
    let gone = released (spec.turn e body s) s in
    let rest = spec.stmts_code c.args.context.now body g.start.live g.around.ends c.args.free (length g.start.steps - g.around.exit) (length g.start.steps - g.around.again) in
    let p = sym c.as_slice-body.ensures in
    let is : x.kind ≡ kind.While c.in-While.test c.in-While.field-1 c.as_slice-body.result.now = c.in-While.is ∙ (λ i. kind.While c.in-While.test c.in-While.field-1 (p i)) in
    subst (λ (z : List Step). IfOk c.end_loop.result (λ m. m.steps ≡ z))
    (while_same c.args.context.now x.at e (seen_exprs c.in-While.field-1) body s g.live g.start.live c.in_ok-made-in-While.made.live around.ends g.around.ends c.args.free (length old - around.exit) (length old - around.again) g.around.exit g.around.again g.done old g.start.steps
    c.in_ok-begun-in-While.ensures.behind c.in_ok-begun-in-While.ensures.live (c.in_ok-begun-in-While.ensures.ends) c.in_ok-made-in-While.ensures.live c.in_ok-begun-in-While.ensures.exit c.in_ok-begun-in-While.ensures.again c.in_ok-begun-in-While.ensures.done c.in_ok-begun-in-While.ensures.value
    ∙ ap (λ (st : tree.Stmt ℕ). spec.stmt_code c.args.context.now st s around.ends c.args.free (length old - around.exit) (length old - around.again) ++ old) (sym (seen_while x c.in-While.test c.in-While.field-1 c.as_slice-body.result.now is)))
    (c.end_loop.ensures.value rest (gone ++ old)
    (c.in_ok-made-in-While.ensures.value ∙ ap (λ (l : List Step). rest ++ l) c.in_ok-begun-in-While.ensures.value)
    (sym c.in_ok-begun-in-While.ensures.done))

pub block_code-loop-left-preserved : goal.block_code-loop-left-preserved
block_code-loop-left-preserved t c =
    let l = c.loop-left in
    let b = c.args.block.now in
    let around = c.args.around.now in
    let x = c.index-block-left.result in
    record {
      within = omega (arith, l.invariant.within);
      live = block_turn_live c.args.context.now b l.left x c.args.behind.live l.made.live around.ends c.loop-left-test.true l.invariant.within c.index-block-left.is l.invariant.live c.in_ok-made.made.live c.in_ok-made.ensures.live;
      value = block_turn c.args.context.now b l.left x c.args.behind.live l.made.live around.ends c.loop-left-test.true l.invariant.within c.index-block-left.is l.invariant.live c.args.free around.exit around.again c.args.behind.steps l.made.steps c.in_ok-made.made.steps c.requires.exit c.requires.again l.invariant.value c.in_ok-made.ensures.value;
    }
