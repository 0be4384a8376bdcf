use Rattle.wy_top_probe.specs.wy_top_answers.Texts.{not_certified}
use Rattle.wy_top.proofs.proving.uncertified.Goals as goal

pub returns : goal.returns
returns c = record { value = c.refusal.ensures.value not_certified c.from_str.ensures.ok }
