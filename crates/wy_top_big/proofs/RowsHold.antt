-- The sources and arguments, written out.
use Rattle.std.proofs.Common.{refl}
use Rattle.std.specs.Fmt.{digits}
use Rattle.wy_top_big.specs.Rows.{AsShown}

pub rows : AsShown
unfolding digits
rows = (refl, refl, refl, refl, refl)
