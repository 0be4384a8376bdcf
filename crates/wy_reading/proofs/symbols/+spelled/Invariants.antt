use Rattle.std.proofs.Common.{length}
use Rattle.wy_reading.proofs.symbols.+spelled.Given as goal

abbrev pub decreases-spelled : goal.decreases-spelled
decreases-spelled g l = length l.word.now
