use Rattle.std.proofs.Common.{◌≡◌, drop}
use Rattle.wy_cong.specs.wy_search_spec.Bounds.{first_with}
use Rattle.wy_search_bounds.proofs.firsts.first_with.Given as goal

abbrev pub invariant-loop-m : goal.invariant-loop-m
invariant-loop-m l = first_with (drop l.m-index l.labels) l.l l.found ≡ first_with l.labels l.l 0
