use Rattle.std.proofs.Common.{◌≡◌, ◌++◌, drop}
use Rattle.wy_print.specs.ExprText.{expr_texts}
use Rattle.wy_print.specs.StmtText.{clause_lines}
use Rattle.wy_print.proofs.clauses.write_clauses.Given as goal

-- what is left completes what is written
abbrev pub invariant-loop-clause : goal.invariant-loop-clause
invariant-loop-clause l =
    l.text.items ++ clause_lines l.margin l.word (expr_texts (drop l.clause-index l.clauses)) ≡ l.fn.text.items ++ clause_lines l.margin l.word (expr_texts l.clauses)
