use Rattle.std.proofs.Common.{sym}
use Rattle.wy_cong.proofs.LabelLemmas.{label_lost}
use Rattle.wy_search_bounds.proofs.firsts.label_at.Goals as goal

pub returns-in-None : goal.returns-in-None
returns-in-None c = label_lost c.args.labels.now c.args.k (sym c.in-None.ensures)
