use Rattle.std.proofs.Common.{suc, [], map, drop}
use Rattle.wy_vc.specs.Counted.{passing_told}
use Rattle.wy_vc.specs.Told.{seen_cond}
use Rattle.wy_vc.proofs.SeenLemmas.{IsPassing}
use Rattle.wy_vc.proofs.limits.first_limit.Given as goal

abbrev pub invariant-loop-index : goal.invariant-loop-index
invariant-loop-index l = IsPassing l.terms l.seen l.gathered l.last (suc l.index) (drop l.index l.conds) (passing_told [] 1 (map (seen_cond l.terms) l.conds))
