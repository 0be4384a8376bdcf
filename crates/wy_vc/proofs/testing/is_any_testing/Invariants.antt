use Rattle.std.proofs.Common.{◌≡◌, ℕ, true, false, get_or, take}
use Rattle.wy_vc_spec.specs.Limits.{is_among}
use Rattle.wy_vc.proofs.testing.is_any_testing.Given as goal

abbrev pub invariant-loop-number : goal.invariant-loop-number
invariant-loop-number l = (k : ℕ) → is_among (take l.number-index l.numbers) k ≡ true → get_or l.marks k true ≡ false
