use Rattle.std.proofs.Common.{arith}
use Rattle.wy_core_lemmas.proofs.BlockDepths.{first_falls, second_falls, body_falls}
use Rattle.wy_code_spec.proofs.tables.tables.+stmts.Goals as goal

pub stmt_table-block_table-requires : goal.stmt_table-block_table-requires
stmt_table-block_table-requires t c =
    (first_of (omega (arith, c.decreases, first_falls c.args.stmt.now c.in-If.test c.in-If.first c.in-If.second c.as_slice-in-If.result.now c.in-If.is c.as_slice-in-If.ensures), grind (arith, c.decreases, first_falls c.args.stmt.now c.in-If.test c.in-If.first c.in-If.second c.as_slice-in-If.result.now c.in-If.is c.as_slice-in-If.ensures)), tt)

pub stmt_table-block_table-requires-in-If : goal.stmt_table-block_table-requires-in-If
stmt_table-block_table-requires-in-If t c =
    (first_of (omega (arith, c.decreases, second_falls c.args.stmt.now c.in-If.test c.in-If.first c.in-If.second c.as_slice-in-If-2.result.now c.in-If.is c.as_slice-in-If-2.ensures), grind (arith, c.decreases, second_falls c.args.stmt.now c.in-If.test c.in-If.first c.in-If.second c.as_slice-in-If-2.result.now c.in-If.is c.as_slice-in-If-2.ensures)), tt)

pub stmt_table-block_table-requires-in-While : goal.stmt_table-block_table-requires-in-While
stmt_table-block_table-requires-in-While t c =
    (first_of (omega (arith, c.decreases, body_falls c.args.stmt.now c.in-While.test c.in-While.field-1 c.in-While.body c.as_slice-in-While.result.now c.in-While.is c.as_slice-in-While.ensures), grind (arith, c.decreases, body_falls c.args.stmt.now c.in-While.test c.in-While.field-1 c.in-While.body c.as_slice-in-While.result.now c.in-While.is c.as_slice-in-While.ensures)), tt)
