use Rattle.std.proofs.Common.{length}
use Rattle.wy_data.proofs.scan.front.+behind.Given as goal

abbrev pub decreases-behind : goal.decreases-behind
decreases-behind l = length l.word.now
