use Rattle.std.proofs.Common.{◌≡◌, drop}
use Rattle.wy_check_nodes.specs.wy_facts.Seen.{terms_at}
use Rattle.wy_check_splits.specs.Groups.{have_common}
use Rattle.wy_check_splits.proofs.meeting.have_common.Given as goal

-- none so far is one of the others
abbrev pub invariant-loop-t : goal.invariant-loop-t
invariant-loop-t l = have_common (terms_at l.terms (drop l.t-index l.ts)) (terms_at l.terms l.us) ≡ have_common (terms_at l.terms l.ts) (terms_at l.terms l.us)
