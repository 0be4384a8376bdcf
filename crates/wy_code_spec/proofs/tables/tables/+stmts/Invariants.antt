use Rattle.std.proofs.Common.{◌≡◌, drop}
use Rattle.wy_core.specs.CoreSeen.{seen_block}
use Rattle.wy_code_spec.specs.tables.Tables as spec
use Rattle.wy_code_spec.proofs.tables.tables.+stmts.Given as goal

abbrev pub invariant-block_table-loop-stmt : goal.invariant-block_table-loop-stmt
invariant-block_table-loop-stmt l = spec.stmts_table (seen_block (drop l.stmt-index l.block)) l.table ≡ spec.stmts_table (seen_block l.block) l.fn.table
