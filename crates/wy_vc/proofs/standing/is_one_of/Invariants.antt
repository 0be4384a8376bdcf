use Rattle.std.proofs.Common.{◌≡◌, drop}
use Rattle.wy_vc_spec.specs.Limits.{is_among}
use Rattle.wy_vc.proofs.standing.is_one_of.Given as goal

abbrev pub invariant-loop-one : goal.invariant-loop-one
invariant-loop-one l = is_among (drop l.one-index l.numbers) l.number ≡ is_among l.numbers l.number
