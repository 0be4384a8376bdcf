use Rattle.std.proofs.Common.{◌≡◌, ◌++◌, drop}
use Rattle.wy_cong.specs.wy_search_spec.Bounds.{takings}
use Rattle.wy_search_bounds.specs.Seen.{seen_takings}
use Rattle.wy_search_bounds.proofs.removal.takings_by.Given as goal

abbrev pub invariant-loop-part : goal.invariant-loop-part
invariant-loop-part l = seen_takings l.made.items ++ takings l.labels (drop l.part-index l.parts) ≡ takings l.labels l.parts
