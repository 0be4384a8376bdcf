use Rattle.std.proofs.Common.{◌≡◌, ◌++◌, drop}
use Rattle.wy_print.specs.StmtText.{path_text}
use Rattle.wy_print.proofs.statements.write_path.Given as goal

-- what is left completes what is written
abbrev pub invariant-loop-step : goal.invariant-loop-step
invariant-loop-step l = l.text.items ++ path_text (drop l.step-index l.path) ≡ l.fn.text.items ++ path_text l.path
