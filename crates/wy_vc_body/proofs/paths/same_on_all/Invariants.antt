use Rattle.std.proofs.Common.{◌≡◌, drop}
use Rattle.wy_term.specs.Nodes.{tree_at}
use Rattle.wy_vc_exprs.specs.wy_vc_spec.Joins as spec
use Rattle.wy_vc_body.specs.Paths.{seen_paths}
use Rattle.wy_vc_body.proofs.paths.same_on_all.Given as goal

abbrev pub invariant-loop-path : goal.invariant-loop-path
invariant-loop-path l = spec.same_on_all (seen_paths l.terms (drop l.path-index l.paths)) l.x (tree_at l.terms l.term) ≡ spec.same_on_all (seen_paths l.terms l.paths) l.x (tree_at l.terms l.term)
