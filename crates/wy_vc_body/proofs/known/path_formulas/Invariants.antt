use Rattle.wy_vc_body.proofs.EquationLemmas.{AreMade}
use Rattle.wy_vc_body.proofs.known.path_formulas.Given as goal

abbrev pub invariant-loop-path : goal.invariant-loop-path
invariant-loop-path l = AreMade l.fn.maker l.maker l.names l.paths l.path-index l.formulas.items
