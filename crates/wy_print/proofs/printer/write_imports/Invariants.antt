use Rattle.std.proofs.Common.{◌≡◌, ◌++◌, drop}
use Rattle.wy_print.specs.ProgramText.{import_lines}
use Rattle.wy_print.proofs.printer.write_imports.Given as goal

-- what is left completes what is written
abbrev pub invariant-loop-import : goal.invariant-loop-import
invariant-loop-import l = l.text.items ++ import_lines (drop l.import-index l.imports) ≡ l.fn.text.items ++ import_lines l.imports
