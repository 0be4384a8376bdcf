use Rattle.std.proofs.Common.{◌≡◌, ◌++◌, drop}
use Rattle.wy_print.specs.Pieces.{listed, more_listed}
use Rattle.wy_print.specs.ProgramText.{param_texts}
use Rattle.wy_print.proofs.declarations.write_params.Given as goal

-- what is left completes what is written
abbrev pub invariant-loop-param : goal.invariant-loop-param
invariant-loop-param l = l.text.items ++ more_listed (param_texts (drop l.param-index l.rest)) ≡ l.fn.text.items ++ listed (param_texts l.fn.params)
