use Rattle.std.proofs.Common.{◌≡◌, ◌≤◌, ◌-◌, false}
use Rattle.wy_vc_body.proofs.LargeLemmas.{IsSeen, is_past}
use Rattle.wy_vc_body.proofs.large.is_large.Given as goal

abbrev pub invariant-loop-next : goal.invariant-loop-next
invariant-loop-next l = IsSeen l.terms l.term l.count l.named l.left.items × (l.count ≤ 1024) × (is_past l.count l.named ≡ false)

abbrev pub decreases-loop-next : goal.decreases-loop-next
decreases-loop-next l = 1024 - l.count
