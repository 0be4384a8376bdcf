use Rattle.std.proofs.Common.{◌≡◌, ◌++◌, drop}
use Rattle.wy_print.specs.StmtText.{block_text, lines, case_lines, shown_cases, shown_stmts}
use Rattle.wy_print.proofs.statements.+stmt.Given as goal

-- what is left completes what is written
abbrev pub invariant-write_block-loop-stmt : goal.invariant-write_block-loop-stmt
invariant-write_block-loop-stmt l =
    l.text.items ++ lines l.further (shown_stmts (drop l.stmt-index l.stmts)) ≡ l.fn.text.items ++ block_text l.margin l.stmts

abbrev pub invariant-write_cases-loop-case : goal.invariant-write_cases-loop-case
invariant-write_cases-loop-case l =
    l.text.items ++ case_lines l.margin (shown_cases (drop l.case-index l.cases)) ≡ l.fn.text.items ++ case_lines l.margin (shown_cases l.cases)
