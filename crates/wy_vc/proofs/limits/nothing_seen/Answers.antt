use Rattle.std.proofs.Common.{rules}
use Rattle.wy_vc.proofs.SeenLemmas.{seen_none}
use Rattle.wy_vc.proofs.limits.nothing_seen.Goals as goal

pub returns : goal.returns
returns c = record { value = λ nodes. seen_none nodes _ c.new-all.ensures.items (λ k. search rules) }
