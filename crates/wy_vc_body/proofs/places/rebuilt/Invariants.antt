use Rattle.std.proofs.Common.{length}
use Rattle.wy_vc_body.proofs.PlaceLemmas.{IsRebuilt}
use Rattle.wy_vc_body.proofs.places.rebuilt.Given as goal

abbrev pub invariant-loop-part : goal.invariant-loop-part
invariant-loop-part l = IsRebuilt l.fn.terms l.terms l.parts.items l.fn.parts.items l.value l.whole

abbrev pub decreases-loop-part : goal.decreases-loop-part
decreases-loop-part l = length l.parts.items
