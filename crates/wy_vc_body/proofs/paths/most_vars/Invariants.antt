use Rattle.std.proofs.Common.{◌≡◌, List, drop}
use Rattle.wy_term.specs.Nodes.{Plain}
use Rattle.wy_vc_exprs.specs.wy_vc_spec.Joins as spec
use Rattle.wy_vc_body.specs.Paths.{seen_paths}
use Rattle.wy_vc_body.proofs.paths.most_vars.Given as goal

abbrev pub invariant-loop-path : goal.invariant-loop-path
invariant-loop-path l = (nodes : List Plain) → spec.max l.most (spec.most_vars (seen_paths nodes (drop l.path-index l.paths))) ≡ spec.most_vars (seen_paths nodes l.paths)
