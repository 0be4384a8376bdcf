-- The files that imports name, written out.
use Rattle.std.proofs.Common.{refl}
use Rattle.std.specs.Path.{rsplit_once}
use Rattle.wy_link_load.specs.Shown.{AreAsShown}

pub as_shown : AreAsShown
unfolding rsplit_once
as_shown = record { plain = refl; folder = refl; folders = refl; root = refl }
