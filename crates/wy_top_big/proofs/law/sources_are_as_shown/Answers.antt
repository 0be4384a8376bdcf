use Rattle.wy_top_big.proofs.RowsHold.{rows}
use Rattle.wy_top_big.proofs.law.sources_are_as_shown.Goals as goal

pub returns : goal.returns
returns c = rows
