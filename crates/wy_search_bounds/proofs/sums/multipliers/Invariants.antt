use Rattle.std.proofs.Common.{◌≡◌, ◌+◌, ◌++◌, drop, length, true}
use Rattle.wy_cong.specs.wy_search_spec.Bounds.{named_from, all_fit}
use Rattle.wy_search_bounds.specs.Seen.{seen_takings, multipliers_of}
use Rattle.wy_search_bounds.proofs.sums.multipliers.Given as goal

abbrev pub invariant-loop-taking : goal.invariant-loop-taking
invariant-loop-taking l = record {
  count : length l.made.items ≡ l.taking-index + 1;
  left : l.made.items ++ named_from l.k (seen_takings (drop l.taking-index l.takings)) (l.taking-index + 1) ≡ multipliers_of l.k (seen_takings l.takings);
  fit : all_fit l.made.items ≡ true;
}
