use Rattle.std.proofs.Common.{◌≡◌, ◌++◌, drop}
use Rattle.wy_print.specs.ProgramText.{more_decls}
use Rattle.wy_print.proofs.printer.write_more_decls.Given as goal

-- what is left completes what is written
abbrev pub invariant-loop-decl : goal.invariant-loop-decl
invariant-loop-decl l = l.text.items ++ more_decls (drop l.decl-index l.decls) ≡ l.fn.text.items ++ more_decls l.decls
