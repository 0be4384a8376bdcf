use Rattle.std.proofs.Common.{rules}
use Rattle.wy_print.proofs.WritingLemmas.{two, four, five}
use Rattle.wy_print.proofs.StmtLemmas.{if_text, while_stmt_text, do_text, for_stmt_text}
use Rattle.wy_print.proofs.statements.+stmt.Goals as goal

pub write_stmt-returns-in-If : goal.write_stmt-returns-in-If
write_stmt-returns-in-If t c =
    four _ _ _ _ _ _ _ _ _ _ c.in_ok-write_bytes-in-If.ensures c.in_ok-write_expr-in-If.ensures c.in_ok-write_block-in-If.ensures
    c.in_ok-write_otherwise-in-If.ensures
    (if_text c.args.stmt.now c.args.margin.now c.in-If.test c.as_slice-in-If.result.now c.as_slice-in-If-2.result.now (search rules))

pub write_stmt-returns-in-While : goal.write_stmt-returns-in-While
write_stmt-returns-in-While t c =
    two _ _ _ _ _ _ c.in_ok-write_while-in-While.ensures c.in_ok-write_block-in-While.ensures
    (while_stmt_text c.args.stmt.now c.args.margin.now c.in-While.test c.as_slice-in-While.result.now c.as_slice-in-While-2.result.now (search rules))

pub write_stmt-returns-in-Do : goal.write_stmt-returns-in-Do
write_stmt-returns-in-Do t c =
    five _ _ _ _ _ _ _ _ _ _ _ _ c.in_ok-write_bytes-in-Do.ensures c.in_ok-write_block-in-Do.ensures c.in_ok-write_bytes-in-Do-2.ensures
    c.in_ok-write_while-in-Do.ensures c.in_ok-write_bytes-in-Do-3.ensures
    (do_text c.args.stmt.now c.args.margin.now c.as_slice-in-Do.result.now c.in-Do.test c.as_slice-in-Do-2.result.now (search rules))

pub write_stmt-returns-in-For : goal.write_stmt-returns-in-For
write_stmt-returns-in-For t c =
    two _ _ _ _ _ _ c.in_ok-write_for-in-For.ensures c.in_ok-write_block-in-For.ensures
    (for_stmt_text c.args.stmt.now c.args.margin.now c.in-For.name c.in-For.from c.in-For.to c.as_slice-in-For.result.now c.as_slice-in-For-2.result.now (search rules))
