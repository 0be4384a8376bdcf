use Rattle.std.proofs.Common.{◌≡◌, drop}
use Rattle.wy_ast.specs.SurfaceSeen.{seen_ranges}
use Rattle.wy_names_expand.specs.Sizes.{behind_ranges}
use Rattle.wy_names_expand.proofs.expressions.behind_ranges.Given as goal

abbrev pub invariant-loop-range : goal.invariant-loop-range
invariant-loop-range l = behind_ranges l.spot (seen_ranges (drop l._range-index l.ranges)) ≡ behind_ranges l.fn.spot (seen_ranges l.ranges)
