use Rattle.wy_vc_body.proofs.EquationLemmas.{IsEquated}
use Rattle.wy_vc_body.proofs.known.path_formula.Given as goal

abbrev pub invariant-loop-entry : goal.invariant-loop-entry
invariant-loop-entry l = IsEquated l.fn.maker l.maker l.names l.path l.entry-index l.since.items
