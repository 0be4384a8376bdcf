use Rattle.std.proofs.Common.{◌∙◌, length, ap, sym}
use Rattle.wy_live.proofs.ShownLemmas.{length_shown}
use Rattle.wy_live.proofs.sets.Variables.len.Goals as goal

pub returns : goal.returns
returns c = record { value = sym (ap length (sym c.self.view_is) ∙ length_shown c.self.inside.words.items c.self.inside.count) }
