use Rattle.std.proofs.Common.{ℕ, ◌<◌, drop, codes}
use Rattle.wy_data.specs.scan.Front.{NotBehind}
use Rattle.wy_cert.proofs.arguments.cut_first.Given as goal

abbrev pub invariant-loop-end : goal.invariant-loop-end
invariant-loop-end l = (k : ℕ) → k < l.end → NotBehind (codes " ; ") (drop k l.text)
